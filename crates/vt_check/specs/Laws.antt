-- The laws of the checks.
use Rattle.std.specs.Prelude.{◌≡◌, ℕ}
use Rattle.vt_tree.specs.declared.statement.Block.{Block}
use Rattle.vt_check.specs.declared.fault.CheckKind.{CheckKind}
use Rattle.vt_check.specs.Verdict.{IsJudged}
use Rattle.vt_check.specs.Allowed.{IsAllowed, CheckRefuses}

-- no tree is both allowed and refused
abbrev pub NeverBoth : Type 0
NeverBoth = (tree : Block) (line : ℕ) (kind : CheckKind) → IsAllowed tree → CheckRefuses tree line kind → ⊥

-- a tree is refused for one fault only
abbrev pub OneFault : Type 0
OneFault = (tree : Block) (line line' : ℕ) (kind kind' : CheckKind) → CheckRefuses tree line kind → CheckRefuses tree line' kind' → (line ≡ line') × (kind ≡ kind')

-- a tree is allowed, or refused for a fault
abbrev pub AlwaysOne : Type 0
AlwaysOne = (tree : Block) → IsJudged tree
