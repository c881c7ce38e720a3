-- What holds of every pattern of a program: own.
use Rattle.std.specs.Prelude.{◌≡◌, ℕ, ◌⊎◌, List}
use Rattle.vt_path.specs.Pattern.{IsPattern}
use Rattle.vt_path.specs.Inner.{IsInner}
use Rattle.vt_path.specs.Match.{literal_of}
use Rattle.vt_path.specs.declared.pattern.Segment.{Segment}

-- what each pattern of a program is: one that a user writes, or the literal one of an inner path
abbrev pub IsKeptPattern : List Segment → Type 0
IsKeptPattern pattern = ∥ IsPattern pattern ⊎ ((path : List (List ℕ)) × IsInner path × (pattern ≡ literal_of path)) ∥₁
