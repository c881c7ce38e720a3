-- How the path that a pattern is written as is put into a buffer.
use Rattle.std.specs.Prelude.{◌≡◌, ℕ, List, [], ◌∷◌, ◌++◌}
use Rattle.vt_path.specs.Match.{byte_parts, literal_of, literal_segment}
use Rattle.vt_path.specs.Path.{path_text}
use Rattle.vt_path.specs.declared.pattern.Segment.{Segment}
use Rattle.vt_path.specs.declared.pattern.Part.{Part}

-- the parts stand for bytes, which the text has after those of `before`
pub record AreBytes (parts : List Part) (before text : List ℕ) : Type 0 where
  pub bytes : List ℕ
  pub literal : parts ≡ byte_parts bytes
  pub written : text ≡ before ++ bytes

-- the segment stands for bytes, which the text has with their slash (47) after those of `before`
pub record IsSegmentWritten (segment : Segment) (before text : List ℕ) : Type 0 where
  pub bytes : List ℕ
  pub literal : segment ≡ literal_segment bytes
  pub written : text ≡ before ++ 47 ∷ bytes

-- the segments stand for a path, whose text this is
pub record IsPathSoFar (segments : List Segment) (text : List ℕ) : Type 0 where
  pub path : List (List ℕ)
  pub literal : segments ≡ literal_of path
  pub written : text ≡ path_text path
