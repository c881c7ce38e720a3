-- Patterns that are written as one path alone.
use Rattle.std.specs.Prelude.{◌≡◌, ℕ, List}
use Rattle.vt_path.specs.Kept.{IsKeptPath}
use Rattle.vt_path.specs.Match.{literal_of}
use Rattle.vt_path.specs.Path.{path_text}
use Rattle.vt_path.specs.declared.pattern.Segment.{Segment}

-- the pattern is the literal one of a path of a program, and the text is how that path is written
pub record IsWrittenAs (pattern : List Segment) (text : List ℕ) : Type 0 where
  pub path : List (List ℕ)
  pub kept : IsKeptPath path
  pub literal : pattern ≡ literal_of path
  pub written : text ≡ path_text path

-- no two paths of a program are written alike
abbrev pub IsOneKeptPath : Type 0
IsOneKeptPath = (path other : List (List ℕ)) → IsKeptPath path → IsKeptPath other → path_text path ≡ path_text other → path ≡ other
