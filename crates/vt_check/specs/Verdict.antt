-- What a tree comes to: that it is allowed, or the line and the kind of its first fault. The project's own.
use Rattle.std.specs.Prelude.{◌≡◌, ◌⊎◌, ◌↔◌, ℕ}
use Rattle.std.proofs.Common.{inl, inr}
use Rattle.vt_tree.specs.declared.statement.Block.{Block}
use Rattle.vt_check.specs.declared.fault.CheckKind.{CheckKind}
use Rattle.vt_check.specs.Allowed.{CheckRefuses, IsAllowed}

-- the tree is allowed, or refused for a fault
abbrev pub IsJudged : Block → Type 0
IsJudged tree = IsAllowed tree ⊎ ((line : ℕ) × (kind : CheckKind) × CheckRefuses tree line kind)

-- what a tree comes to
pub data Judged : Type 0 where
  Allowed : Judged
  Refused : ℕ → CheckKind → Judged

-- the verdict: that the tree is allowed, or else the line and the kind of its first fault
abbrev pub judged_by : (tree : Block) → IsJudged tree → Judged
judged_by tree (inl allowed) = Allowed
judged_by tree (inr (line, kind, refuses)) = Refused line kind

-- however it was judged, the verdict is that a tree is allowed exactly where it is
abbrev pub IsAllowedWhereAllowed : Type 0
IsAllowedWhereAllowed = (tree : Block) (judged : IsJudged tree) → (judged_by tree judged ≡ Allowed) ↔ IsAllowed tree

-- however it was judged, the verdict is a line and a kind exactly where the tree is refused for them
abbrev pub IsRefusedWhereRefused : Type 0
IsRefusedWhereRefused =
    (tree : Block) (judged : IsJudged tree) (line : ℕ) (kind : CheckKind) → (judged_by tree judged ≡ Refused line kind) ↔ CheckRefuses tree line kind
