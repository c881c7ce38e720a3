-- What holds of every path of a program: own.
use Rattle.std.specs.Prelude.{ℕ, ◌≤◌, ◌⊎◌, List, length}
use Rattle.std.specs.List.{All}
use Rattle.vt_path.specs.Path.{IsPath}
use Rattle.vt_path.specs.Inner.{IsInner}

-- what each path of a program is: one that a user writes, or an inner one; and the limits, which follow
pub record IsKeptPath (path : List (List ℕ)) : Type 0 where
  pub form : ∥ IsPath path ⊎ IsInner path ∥₁
  pub few : length path ≤ 16
  pub short : All (λ segment. length segment ≤ 64) path
