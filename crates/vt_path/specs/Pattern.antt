-- Patterns of paths: after those of `get` and `sync` in the tutorial, chapter 10; form and limits are own.
use Rattle.std.specs.Prelude.{◌≡◌, ◌≢◌, ℕ, ◌<◌, ◌≤◌, List, [], ◌∷◌, ◌++◌, length}
use Rattle.std.specs.List.{All, flat_map}
use Rattle.vt_path.specs.Byte.{IsPathByte}
use Rattle.vt_path.specs.declared.pattern.Segment.{Segment}
use Rattle.vt_path.specs.declared.pattern.Segment.TheVariants.{AnySegments, Parts}
use Rattle.vt_path.specs.declared.pattern.Part.{Part}
use Rattle.vt_path.specs.declared.pattern.Part.TheVariants.{Byte, AnyBytes, AnyByte, Set, Alternatives}

-- alternatives as they are written: a comma (44) before each but the first
abbrev pub names_text : List (List ℕ) → List ℕ
names_text [] = []
names_text (name ∷ names) = name ++ flat_map (λ other. 44 ∷ other) names

-- how a part is written: the byte, `*` (42), `?` (63), `[..]` (91 and 93) and `{..}` (123 and 125)
abbrev pub part_text : Part → List ℕ
part_text (Byte byte) = byte ∷ []
part_text AnyBytes = 42 ∷ []
part_text AnyByte = 63 ∷ []
part_text (Set bytes) = 91 ∷ (bytes ++ 93 ∷ [])
part_text (Alternatives names) = 123 ∷ (names_text names ++ 125 ∷ [])

abbrev pub parts_text : List Part → List ℕ
parts_text parts = flat_map part_text parts

-- `**`, or the parts one after another
abbrev pub segment_text : Segment → List ℕ
segment_text AnySegments = 42 ∷ 42 ∷ []
segment_text (Parts parts) = parts_text parts

-- how a pattern is written: before each segment a slash (47)
abbrev pub pattern_text : List Segment → List ℕ
pattern_text pattern = flat_map (λ segment. 47 ∷ segment_text segment) pattern

-- one or more path bytes
pub record IsWord (word : List ℕ) : Type 0 where
  pub nonempty : 0 < length word
  pub bytes : All IsPathByte word

-- what may be written in a part: brackets hold one or more path bytes, alternatives are one or more, each of one or
-- more path bytes
abbrev pub IsPart : Part → Type 0
IsPart (Byte byte) = IsPathByte byte
IsPart AnyBytes = Unit {0}
IsPart AnyByte = Unit {0}
IsPart (Set bytes) = IsWord bytes
IsPart (Alternatives names) = (0 < length names) × All IsWord names

-- one or more parts, written in 1 to 64 bytes; two stars alone are the segment `**` and no parts
pub record AreParts (parts : List Part) : Type 0 where
  pub nonempty : 0 < length parts
  pub each : All IsPart parts
  pub short : length (parts_text parts) ≤ 64
  pub not_any : parts ≢ AnyBytes ∷ AnyBytes ∷ []

abbrev pub IsPatternSegment : Segment → Type 0
IsPatternSegment AnySegments = Unit {0}
IsPatternSegment (Parts parts) = AreParts parts

-- a pattern that a user writes: 1 to 16 segments
pub record IsPattern (pattern : List Segment) : Type 0 where
  pub nonempty : 0 < length pattern
  pub few : length pattern ≤ 16
  pub segments : All IsPatternSegment pattern

-- no two patterns are written alike
abbrev pub IsOnePattern : Type 0
IsOnePattern = (pattern other : List Segment) → IsPattern pattern → IsPattern other → pattern_text pattern ≡ pattern_text other → pattern ≡ other

-- the bytes are a pattern
abbrev pub IsPatternText : List ℕ → Type 0
IsPatternText bytes = (pattern : List Segment) × IsPattern pattern × (bytes ≡ pattern_text pattern)
