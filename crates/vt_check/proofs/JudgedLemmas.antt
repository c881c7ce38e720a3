-- The verdict on a tree is what the checks say.
use Rattle.std.proofs.Common.{◌≡◌, ◌↔◌, ℕ, inl, inr, refl, subst}
use Rattle.vt_tree.specs.declared.statement.Block.{Block}
use Rattle.vt_check.specs.Verdict.{Allowed, Refused, IsAllowedWhereAllowed, IsRefusedWhereRefused}
use Rattle.vt_check.specs.Allowed.{CheckRefuses, IsAllowed}
use Rattle.vt_check.specs.declared.fault.CheckKind.{CheckKind}
use Rattle.vt_check.proofs.Judging.{always_one, judged_of}
use Rattle.vt_check.proofs.LawLemmas.{never_both, one_fault}

same_line : {line line' : ℕ} {kind kind' : CheckKind} → Refused line kind ≡ Refused line' kind' → line ≡ line'
same_line e = cc

same_kind : {line line' : ℕ} {kind kind' : CheckKind} → Refused line kind ≡ Refused line' kind' → kind ≡ kind'
same_kind e = cc

same_refusal : {line line' : ℕ} {kind kind' : CheckKind} → line ≡ line' → kind ≡ kind' → Refused line kind ≡ Refused line' kind'
same_refusal e f = cc

not_refused : {line : ℕ} {kind : CheckKind} → Allowed ≡ Refused line kind → ⊥
not_refused e = cc

not_allowed : {line : ℕ} {kind : CheckKind} → Refused line kind ≡ Allowed → ⊥
not_allowed e = cc

pub allowed_where : IsAllowedWhereAllowed
allowed_where tree (inl allowed) = (λ e. allowed, λ h. refl)
allowed_where tree (inr (line, kind, refuses)) =
    (λ e. absurd (not_allowed {line = line} {kind = kind} e), λ h. absurd (never_both tree line kind h refuses))

pub refused_where : IsRefusedWhereRefused
refused_where tree (inl allowed) line kind =
    (λ e. absurd (not_refused {line = line} {kind = kind} e), λ h. absurd (never_both tree line kind allowed h))
refused_where tree (inr (line', kind', refuses)) line kind = (
  λ e.
      let k = same_kind {line = line'} {line' = line} {kind = kind'} {kind' = kind} e in
      let l = same_line {line = line'} {line' = line} {kind = kind'} {kind' = kind} e in
      subst (λ (x : ℕ). CheckRefuses tree x kind) l (subst (λ (x : CheckKind). CheckRefuses tree line' x) k refuses),
  λ h. let s = one_fault tree line' line kind' kind refuses h in same_refusal s.0 s.1,
)

pub allowed_where_allowed : (tree : Block) → (judged_of tree ≡ Allowed) ↔ IsAllowed tree
unfolding judged_of
allowed_where_allowed tree = allowed_where tree (always_one tree)

pub refused_where_refused : (tree : Block) (line : ℕ) (kind : CheckKind) → (judged_of tree ≡ Refused line kind) ↔ CheckRefuses tree line kind
unfolding judged_of
refused_where_refused tree line kind = refused_where tree (always_one tree) line kind
