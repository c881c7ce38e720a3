-- When a pattern matches a path: after the patterns of OSC, as Sonic Pi's time state uses them (tutorial, chapter 10); inner
-- paths are own.
use Rattle.std.specs.Prelude.{◌≡◌, ℕ, ◌≤◌, ◌⊎◌, List, [], ◌∷◌, ◌++◌, Bool, false, ◌==◌, map}
use Rattle.std.specs.List.{Contains}
use Rattle.std.specs.Bool.{MatchBool}
use Rattle.vt_path.specs.declared.pattern.Segment.{Segment}
use Rattle.vt_path.specs.declared.pattern.Segment.TheVariants.{AnySegments, Parts}
use Rattle.vt_path.specs.declared.pattern.Part.{Part}
use Rattle.vt_path.specs.declared.pattern.Part.TheVariants.{Byte, AnyBytes, AnyByte, Set, Alternatives}

-- A byte that brackets hold, whose bytes are read from the left: a byte, `-` (45) and a byte are a span, from its
-- first end to its second; any other byte is itself.
unfoldable pub Holds : List ℕ → ℕ → Type 0
Holds [] byte = ⊥
Holds (a ∷ []) byte = byte ≡ a
Holds (a ∷ d ∷ []) byte = (byte ≡ a) ⊎ (byte ≡ d)
Holds (a ∷ d ∷ z ∷ rest) byte =
    MatchBool (d == 45) (((a ≤ byte) × (byte ≤ z)) ⊎ Holds rest byte) ((byte ≡ a) ⊎ Holds (d ∷ z ∷ rest) byte)

-- no item is taken, or one and so on
abbrev pub Skips : {X : Type 0} → (List X → Type 0) → List X → Type 0
Skips Goes [] = Goes []
Skips Goes (x ∷ xs) = Goes (x ∷ xs) ⊎ Skips Goes xs

-- the parts of a segment match its bytes
abbrev pub MatchesBytes : List Part → List ℕ → Type 0
MatchesBytes [] [] = Unit {0}
MatchesBytes [] (b ∷ bytes) = ⊥
MatchesBytes (Byte c ∷ parts) [] = ⊥
MatchesBytes (Byte c ∷ parts) (b ∷ bytes) = (b ≡ c) × MatchesBytes parts bytes
MatchesBytes (AnyBytes ∷ parts) bytes = Skips (λ rest. MatchesBytes parts rest) bytes
MatchesBytes (AnyByte ∷ parts) [] = ⊥
MatchesBytes (AnyByte ∷ parts) (b ∷ bytes) = MatchesBytes parts bytes
MatchesBytes (Set held ∷ parts) [] = ⊥
MatchesBytes (Set held ∷ parts) (b ∷ bytes) = Holds held b × MatchesBytes parts bytes
MatchesBytes (Alternatives names ∷ parts) bytes =
    (name : List ℕ) × (rest : List ℕ) × Contains names name × (bytes ≡ name ++ rest) × MatchesBytes parts rest

-- the segments of a pattern match those of a path: `**` takes no segment or one and goes on, every other takes one
abbrev pub MatchesSegments : List Segment → List (List ℕ) → Type 0
MatchesSegments [] [] = Unit {0}
MatchesSegments [] (s ∷ path) = ⊥
MatchesSegments (AnySegments ∷ pattern) path = Skips (λ rest. MatchesSegments pattern rest) path
MatchesSegments (Parts parts ∷ pattern) [] = ⊥
MatchesSegments (Parts parts ∷ pattern) (s ∷ path) = MatchesBytes parts s × MatchesSegments pattern path

-- parts that stand for these bytes
abbrev pub byte_parts : List ℕ → List Part
byte_parts bytes = map (λ byte. Byte byte) bytes

abbrev pub literal_segment : List ℕ → Segment
literal_segment bytes = Parts (byte_parts bytes)

-- the pattern that is written as the path is: each byte stands for itself
abbrev pub literal_of : List (List ℕ) → List Segment
literal_of path = map literal_segment path

-- an inner path has a first segment that begins with `!` (33)
abbrev pub is_inner : List (List ℕ) → Bool
is_inner [] = false
is_inner ([] ∷ path) = false
is_inner ((b ∷ segment) ∷ path) = b == 33

-- the pattern matches the path; an inner path is matched by its own literal pattern alone
abbrev pub Matches : List Segment → List (List ℕ) → Type 0
Matches pattern path = MatchBool (is_inner path) (pattern ≡ literal_of path) (MatchesSegments pattern path)
