-- Of two fractions in lowest terms the cross products alone decide.
use Rattle.std.proofs.Common.{◌≡◌, ℕ, ◌<◌, max, pos, refl, sym, ap, subst, ◌∙◌, arith}
use Rattle.std.specs.Prelude.{◌*ℤ◌}
use Rattle.std.specs.declared.cmp.Ordering.{Ordering}
use Rattle.std.specs.declared.cmp.Ordering.TheVariants.{Less, Equal, Greater}
use Rattle.std.specs.Ordering.{int_cmp, nat_cmp, ordering_then}
use Rattle.std.proofs.lemmas.Cmp.{int_ranked, int_cmp_total, nat_cmp_total, tied_itself}
use Rattle.vt_frac.specs.Fraction.{Fraction, IsFraction}
use Rattle.vt_frac.specs.Order.{value_order, order_of}
use Rattle.vt_frac.specs.OrderLaws.{order_total}
use Rattle.vt_frac.proofs.FractionLemmas.{same_from_value}

-- a denominator that is not 0 counts as it is
pub max_is : (d : ℕ) → 0 < d → max 1 d ≡ d
max_is d h = omega arith

value_is : (a b : Fraction) → IsFraction a → IsFraction b → value_order a b ≡ int_cmp (a.numer *ℤ pos b.denom) (b.numer *ℤ pos a.denom)
unfolding value_order
value_is a b p q = rw (max_is a.denom p.positive, max_is b.denom q.positive) refl

settled : (v o : Ordering) → (v ≡ Equal → o ≡ Equal) → ordering_then v o ≡ v
settled Less o h = refl
settled Equal o h = h refl
settled Greater o h = refl

pub equal_values : (a b : Fraction) → IsFraction a → IsFraction b → int_cmp (a.numer *ℤ pos b.denom) (b.numer *ℤ pos a.denom) ≡ Equal → a ≡ b
equal_values a b p q h = same_from_value a b p q (int_ranked _ _ Equal (sym h))

tied_parts : (a b : Fraction) → a ≡ b → ordering_then (int_cmp a.numer b.numer) (nat_cmp a.denom b.denom) ≡ Equal
tied_parts a b h =
    let P : Fraction → Type 0 = λ f. ordering_then (int_cmp a.numer f.numer) (nat_cmp a.denom f.denom) ≡ Equal in
    subst P h (rw (tied_itself int_cmp_total a.numer) (tied_itself nat_cmp_total a.denom))

pub order_is : (a b : Fraction) → IsFraction a → IsFraction b → int_cmp (a.numer *ℤ pos b.denom) (b.numer *ℤ pos a.denom) ≡ order_of a b
unfolding order_of
order_is a b p q =
    let value = value_is a b p q in
    sym (settled (value_order a b) (ordering_then (int_cmp a.numer b.numer) (nat_cmp a.denom b.denom)) (λ h. tied_parts a b (equal_values a b p q (sym value ∙ h))) ∙ value)

pub tied_to_itself : (a b : Fraction) → a ≡ b → order_of a b ≡ Equal
tied_to_itself a b h = ap (order_of a) (sym h) ∙ tied_itself order_total a
