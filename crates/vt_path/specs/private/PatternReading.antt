-- What the reader of a pattern knows between two bytes: own.
use Rattle.std.specs.Prelude.{◌≡◌, ℕ, ◌+◌, ◌<◌, ◌≤◌, List, [], ◌∷◌, ◌++◌, length, Option, Some, None, Bool, true, false}
use Rattle.std.specs.List.{All, flat_map}
use Rattle.vt_path.specs.Byte.{IsPathByte}
use Rattle.vt_path.specs.Pattern.{IsPattern, IsPatternSegment, IsPart, IsWord, parts_text, pattern_text}
use Rattle.vt_path.specs.declared.pattern.Segment.{Segment}
use Rattle.vt_path.specs.declared.pattern.Segment.TheVariants.{AnySegments, Parts}
use Rattle.vt_path.specs.declared.pattern.Part.{Part}
use Rattle.vt_path.specs.declared.pattern.Part.TheVariants.{AnyBytes, Set, Alternatives}
use Rattle.vt_path.specs.declared.pattern_reader.Position.{Position}
use Rattle.vt_path.specs.declared.pattern_reader.Position.TheVariants.{Between, InSet, InAlternatives}
use Rattle.vt_path.specs.declared.pattern_reader.PatternReader.{PatternReader}

-- the parts that a segment is written with
abbrev pub parts_of : Segment → List Part
parts_of AnySegments = AnyBytes ∷ AnyBytes ∷ []
parts_of (Parts parts) = parts

-- the segment that is written with these parts: `**` where they are two stars
pub record IsSegmentOf (parts : List Part) (segment : Segment) : Type 0 where
  pub same : parts_of segment ≡ parts
  pub any : parts ≡ AnyBytes ∷ AnyBytes ∷ [] → segment ≡ AnySegments

-- the byte that opens this position: `[` (91) and `{` (123)
abbrev pub IsOpening : Position → ℕ → Type 0
IsOpening Between byte = ⊥
IsOpening InSet byte = byte ≡ 91
IsOpening InAlternatives byte = byte ≡ 123

-- what was read: whole segments, whole parts of the next one, whole alternatives and the bytes that stand in brackets
-- or in the alternative that is being read, where that is, and how many bytes of the segment were read
pub record Reading : Type 0 where
  pub done : List Segment
  pub parts : List Part
  pub names : List (List ℕ)
  pub bytes : List ℕ
  pub position : Position
  pub used : ℕ

abbrev pub reading : PatternReader → Reading
reading reader = record {
  done = reader.done.items;
  parts = reader.parts.items;
  names = reader.names.items;
  bytes = reader.bytes.items;
  position = reader.position;
  used = reader.used;
}

-- Where the segments `done` and the parts `begun` of the next one were read, these further bytes make this pattern.
pub record FromParts (done : List Segment) (begun : List Part) (rest : List ℕ) (pattern : List Segment) : Type 0 where
  pub segment : Segment
  pub more : List Part
  pub tail : List Segment
  pub whole : pattern ≡ done ++ segment ∷ tail
  pub its_parts : parts_of segment ≡ begun ++ more
  pub text : rest ≡ parts_text more ++ pattern_text tail

-- the same in brackets, of whose bytes these were read
pub record FromSet (done : List Segment) (begun : List Part) (bytes rest : List ℕ) (pattern : List Segment) : Type 0 where
  pub more : List ℕ
  pub after : List ℕ
  pub text : rest ≡ more ++ 93 ∷ after
  pub closed : FromParts done (begun ++ Set (bytes ++ more) ∷ []) after pattern

-- the same in alternatives, of which these and the bytes of the next one were read
pub record FromAlternatives (done : List Segment) (begun : List Part) (names : List (List ℕ)) (bytes rest : List ℕ) (pattern : List Segment) : Type 0 where
  pub more : List ℕ
  pub others : List (List ℕ)
  pub after : List ℕ
  pub text : rest ≡ more ++ (flat_map (λ other. 44 ∷ other) others ++ 125 ∷ after)
  pub closed : FromParts done (begun ++ Alternatives (names ++ (bytes ++ more) ∷ others) ∷ []) after pattern

abbrev pub GoesOnFrom : Position → Reading → List ℕ → List Segment → Type 0
GoesOnFrom Between r = λ rest pattern. FromParts r.done r.parts rest pattern
GoesOnFrom InSet r = λ rest pattern. FromSet r.done r.parts r.bytes rest pattern
GoesOnFrom InAlternatives r = λ rest pattern. FromAlternatives r.done r.parts r.names r.bytes rest pattern

abbrev pub GoesOnTo : Reading → List ℕ → List Segment → Type 0
GoesOnTo r rest pattern = GoesOnFrom r.position r rest pattern

-- the bytes of these alternatives, each with its comma
abbrev pub names_size : List (List ℕ) → ℕ
names_size [] = 0
names_size (name ∷ names) = length name + 1 + names_size names

-- between two parts nothing is open
pub record IsBetween (r : Reading) : Type 0 where
  pub used : r.used ≡ length (parts_text r.parts)
  pub short : r.used ≤ 64
  pub no_names : r.names ≡ []
  pub no_bytes : r.bytes ≡ []

-- in brackets there is room for what must come: a byte where there is none, and the bracket
pub record IsInSet (r : Reading) : Type 0 where
  pub used : r.used ≡ length (parts_text r.parts) + 1 + length r.bytes
  pub short : r.used + 1 ≤ 64
  pub room : length r.bytes ≡ 0 → r.used + 2 ≤ 64
  pub bytes : All IsPathByte r.bytes
  pub no_names : r.names ≡ []

pub record IsInAlternatives (r : Reading) : Type 0 where
  pub used : r.used ≡ length (parts_text r.parts) + 1 + names_size r.names + length r.bytes
  pub short : r.used + 1 ≤ 64
  pub room : length r.bytes ≡ 0 → r.used + 2 ≤ 64
  pub bytes : All IsPathByte r.bytes
  pub names : All IsWord r.names

abbrev pub IsInside : Position → Reading → Type 0
IsInside Between r = IsBetween r
IsInside InSet r = IsInSet r
IsInside InAlternatives r = IsInAlternatives r

-- what was read is within the limits
pub record IsSound (r : Reading) : Type 0 where
  pub few : length r.done < 16
  pub segments : All IsPatternSegment r.done
  pub parts : All IsPart r.parts
  pub inside : IsInside r.position r

-- the byte was read: what goes on with it before goes on without it now
pub record ReadsOn (old : Reading) (byte : ℕ) (new : Reading) : Type 0 where
  pub sound : IsSound new
  pub on : (rest : List ℕ) (pattern : List Segment) → IsPattern pattern → GoesOnTo old (byte ∷ rest) pattern → GoesOnTo new rest pattern
  pub back : (rest : List ℕ) (pattern : List Segment) → GoesOnTo new rest pattern → GoesOnTo old (byte ∷ rest) pattern

-- no pattern goes on with the byte
abbrev pub ReadsNoFurther : Reading → ℕ → Type 0
ReadsNoFurther old byte = (rest : List ℕ) (pattern : List Segment) → IsPattern pattern → GoesOnTo old (byte ∷ rest) pattern → ⊥

abbrev pub Takes : Reading → ℕ → Reading → Bool → Type 0
Takes old byte new true = ReadsOn old byte new
Takes old byte new false = ReadsNoFurther old byte

-- the pattern that was read, or none goes on with no byte
abbrev pub Ends : Reading → Option (List Segment) → Type 0
Ends r (Some pattern) = IsPattern pattern × GoesOnTo r [] pattern
Ends r None = (pattern : List Segment) → IsPattern pattern → GoesOnTo r [] pattern → ⊥
