-- No tree is both allowed and refused, or refused for two faults.
use Rattle.std.proofs.Common.{◌≡◌, ℕ, List, [], ◌∷◌, ◌++◌, inl, inr, sym, ap, ◌∙◌, subst}
use Rattle.std.specs.List.{All}
use Rattle.std.proofs.lemmas.List.Elements.{All-head, All-tail}
use Rattle.vt_tree.specs.Parts.{Site, sites}
use Rattle.vt_check.specs.declared.fault.CheckKind.{CheckKind}
use Rattle.vt_check.specs.Laws.{NeverBoth, OneFault}
use Rattle.vt_check.specs.Allowed.{checks, CheckRefuses, FirstFault, HasFirst, HasNone, IsAllowed, IsFaultOf, IsSound}

-- of one call
no_first : (kinds : List CheckKind) (s : Site) (found : CheckKind) → HasNone kinds s → HasFirst kinds s found → ⊥
no_first [] s found n h = h
no_first (kind ∷ kinds) s found n (inl (f, e)) = n.0 f
no_first (kind ∷ kinds) s found n (inr (f, h)) = no_first kinds s found n.1 h

same_first : (kinds : List CheckKind) (s : Site) (found found' : CheckKind) → HasFirst kinds s found → HasFirst kinds s found' → found ≡ found'
same_first [] s found found' h h' = absurd h
same_first (kind ∷ kinds) s found found' (inl (f, e)) (inl (f', e')) = e ∙ sym e'
same_first (kind ∷ kinds) s found found' (inl (f, e)) (inr (f', h')) = absurd (f' f)
same_first (kind ∷ kinds) s found found' (inr (f, h)) (inl (f', e')) = absurd (f f')
same_first (kind ∷ kinds) s found found' (inr (f, h)) (inr (f', h')) = same_first kinds s found found' h h'

sound_or_faulty : (s : Site) (kind : CheckKind) → IsSound s → IsFaultOf s kind → ⊥
unfolding IsSound IsFaultOf
sound_or_faulty s kind n h = no_first checks s kind n h

same_fault : (s : Site) (kind kind' : CheckKind) → IsFaultOf s kind → IsFaultOf s kind' → kind ≡ kind'
unfolding IsFaultOf
same_fault s kind kind' h h' = same_first checks s kind kind' h h'

-- of calls in their order
all_middle : (before : List Site) (call : Site) (after : List Site) → All IsSound (before ++ call ∷ after) → IsSound call
all_middle [] call after h = All-head IsSound call after h
all_middle (x ∷ before) call after h = all_middle before call after (All-tail IsSound x (before ++ call ∷ after) h)

never_both_of : (calls : List Site) (line : ℕ) (kind : CheckKind) → All IsSound calls → FirstFault calls line kind → ⊥
never_both_of calls line kind h f = sound_or_faulty f.call kind (all_middle f.before f.call f.after (subst (λ cs. All IsSound cs) f.whole h)) f.fault

head_of : {x y : Site} {xs ys : List Site} → x ∷ xs ≡ y ∷ ys → x ≡ y
head_of e = cc

tail_of : {x y : Site} {xs ys : List Site} → x ∷ xs ≡ y ∷ ys → xs ≡ ys
tail_of e = cc

same_call : (before before' : List Site) (call call' : Site) (after after' : List Site) (kind kind' : CheckKind) → before ++ call ∷ after ≡ before' ++ call' ∷ after' → All IsSound before → All IsSound before' → IsFaultOf call kind → IsFaultOf call' kind' → call ≡ call'
same_call [] [] call call' after after' kind kind' e h h' f f' = head_of e
same_call [] (x ∷ before') call call' after after' kind kind' e h h' f f' = absurd (sound_or_faulty x kind (All-head IsSound x before' h') (subst (λ c. IsFaultOf c kind) (head_of e) f))
same_call (x ∷ before) [] call call' after after' kind kind' e h h' f f' = absurd (sound_or_faulty x kind' (All-head IsSound x before h) (subst (λ c. IsFaultOf c kind') (sym (head_of e)) f'))
same_call (x ∷ before) (y ∷ before') call call' after after' kind kind' e h h' f f' = same_call before before' call call' after after' kind kind' (tail_of e) (All-tail IsSound x before h) (All-tail IsSound y before' h') f f'

one_fault_of : (calls : List Site) (line line' : ℕ) (kind kind' : CheckKind) → FirstFault calls line kind → FirstFault calls line' kind' → (line ≡ line') × (kind ≡ kind')
one_fault_of calls line line' kind kind' f g =
    let same : f.call ≡ g.call = same_call f.before g.before f.call g.call f.after g.after kind kind' (sym f.whole ∙ g.whole) f.sound g.sound f.fault g.fault in
    (f.here ∙ ap (λ (s : Site). s.context.line) same ∙ sym g.here, same_fault g.call kind kind' (subst (λ c. IsFaultOf c kind) same f.fault) g.fault)

pub never_both : NeverBoth
unfolding IsAllowed CheckRefuses
never_both tree line kind h f = never_both_of (sites tree) line kind h f

pub one_fault : OneFault
unfolding CheckRefuses
one_fault tree line line' kind kind' f g = one_fault_of (sites tree) line line' kind kind' f g
