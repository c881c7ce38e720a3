use Rattle.std.proofs.Common.{◌≡◌, Bool, true, false, inl, inr, refl, sym, ◌∙◌, true≢false}
use Rattle.vt_check.specs.Allowed.{checks, IsSound, IsFaultOf}
use Rattle.vt_check.proofs.first_fault.fault_of.Goals as goal

is_so : (r b : Bool) → r ≡ b → r ≡ true → b ≡ true
is_so r b e t = sym e ∙ t

not_so : (r b : Bool) → r ≡ b → r ≡ false → b ≡ true → ⊥
not_so r b e f t = true≢false (sym t ∙ sym e ∙ f)

pub returns-then-is_misplaced : goal.returns-then-is_misplaced
unfolding IsFaultOf checks
returns-then-is_misplaced c = inl (is_so _ _ c.is_misplaced.ensures c.if-is_misplaced.true, refl)

pub returns-then-is_misnamed : goal.returns-then-is_misnamed
unfolding IsFaultOf checks
returns-then-is_misnamed c = inr (not_so _ _ c.is_misplaced.ensures c.if-is_misplaced.false, inl (is_so _ _ c.is_misnamed.ensures c.if-is_misnamed.true, refl))

pub returns-then-is_taken : goal.returns-then-is_taken
unfolding IsFaultOf checks
returns-then-is_taken c = inr (not_so _ _ c.is_misplaced.ensures c.if-is_misplaced.false, inr (not_so _ _ c.is_misnamed.ensures c.if-is_misnamed.false, inl (is_so _ _ c.is_taken.ensures c.if-is_taken.true, refl)))

pub returns-then-is_no_method : goal.returns-then-is_no_method
unfolding IsFaultOf checks
returns-then-is_no_method c = inr (not_so _ _ c.is_misplaced.ensures c.if-is_misplaced.false, inr (not_so _ _ c.is_misnamed.ensures c.if-is_misnamed.false, inr (not_so _ _ c.is_taken.ensures c.if-is_taken.false, inl (is_so _ _ c.is_no_method.ensures c.if-is_no_method.true, refl))))

pub returns-then-is_miscounted : goal.returns-then-is_miscounted
unfolding IsFaultOf checks
returns-then-is_miscounted c = inr (not_so _ _ c.is_misplaced.ensures c.if-is_misplaced.false, inr (not_so _ _ c.is_misnamed.ensures c.if-is_misnamed.false, inr (not_so _ _ c.is_taken.ensures c.if-is_taken.false, inr (not_so _ _ c.is_no_method.ensures c.if-is_no_method.false, inl (is_so _ _ c.is_miscounted.ensures c.if-is_miscounted.true, refl)))))

pub returns-then-has_bad_option : goal.returns-then-has_bad_option
unfolding IsFaultOf checks
returns-then-has_bad_option c = inr (not_so _ _ c.is_misplaced.ensures c.if-is_misplaced.false, inr (not_so _ _ c.is_misnamed.ensures c.if-is_misnamed.false, inr (not_so _ _ c.is_taken.ensures c.if-is_taken.false, inr (not_so _ _ c.is_no_method.ensures c.if-is_no_method.false, inr (not_so _ _ c.is_miscounted.ensures c.if-is_miscounted.false, inl (is_so _ _ c.has_bad_option.ensures c.if-has_bad_option.true, refl))))))

pub returns-then-has_wrong_block : goal.returns-then-has_wrong_block
unfolding IsFaultOf checks
returns-then-has_wrong_block c = inr (not_so _ _ c.is_misplaced.ensures c.if-is_misplaced.false, inr (not_so _ _ c.is_misnamed.ensures c.if-is_misnamed.false, inr (not_so _ _ c.is_taken.ensures c.if-is_taken.false, inr (not_so _ _ c.is_no_method.ensures c.if-is_no_method.false, inr (not_so _ _ c.is_miscounted.ensures c.if-is_miscounted.false, inr (not_so _ _ c.has_bad_option.ensures c.if-has_bad_option.false, inl (is_so _ _ c.has_wrong_block.ensures c.if-has_wrong_block.true, refl)))))))

pub returns-then-has_wrong_params : goal.returns-then-has_wrong_params
unfolding IsFaultOf checks
returns-then-has_wrong_params c = inr (not_so _ _ c.is_misplaced.ensures c.if-is_misplaced.false, inr (not_so _ _ c.is_misnamed.ensures c.if-is_misnamed.false, inr (not_so _ _ c.is_taken.ensures c.if-is_taken.false, inr (not_so _ _ c.is_no_method.ensures c.if-is_no_method.false, inr (not_so _ _ c.is_miscounted.ensures c.if-is_miscounted.false, inr (not_so _ _ c.has_bad_option.ensures c.if-has_bad_option.false, inr (not_so _ _ c.has_wrong_block.ensures c.if-has_wrong_block.false, inl (is_so _ _ c.has_wrong_params.ensures c.if-has_wrong_params.true, refl))))))))

pub returns-then-branch : goal.returns-then-branch
unfolding IsFaultOf checks
returns-then-branch c = inr (not_so _ _ c.is_misplaced.ensures c.if-is_misplaced.false, inr (not_so _ _ c.is_misnamed.ensures c.if-is_misnamed.false, inr (not_so _ _ c.is_taken.ensures c.if-is_taken.false, inr (not_so _ _ c.is_no_method.ensures c.if-is_no_method.false, inr (not_so _ _ c.is_miscounted.ensures c.if-is_miscounted.false, inr (not_so _ _ c.has_bad_option.ensures c.if-has_bad_option.false, inr (not_so _ _ c.has_wrong_block.ensures c.if-has_wrong_block.false, inr (not_so _ _ c.has_wrong_params.ensures c.if-has_wrong_params.false, inl (c.in_ok-has_refused_path.ensures.0 c.if-branch.true, refl)))))))))

pub returns : goal.returns
unfolding IsSound checks
returns c = (not_so _ _ c.is_misplaced.ensures c.if-is_misplaced.false, (not_so _ _ c.is_misnamed.ensures c.if-is_misnamed.false, (not_so _ _ c.is_taken.ensures c.if-is_taken.false, (not_so _ _ c.is_no_method.ensures c.if-is_no_method.false, (not_so _ _ c.is_miscounted.ensures c.if-is_miscounted.false, (not_so _ _ c.has_bad_option.ensures c.if-has_bad_option.false, (not_so _ _ c.has_wrong_block.ensures c.if-has_wrong_block.false, (not_so _ _ c.has_wrong_params.ensures c.if-has_wrong_params.false, (λ h. true≢false (sym (c.in_ok-has_refused_path.ensures.1 h) ∙ c.if-branch.false), tt)))))))))
