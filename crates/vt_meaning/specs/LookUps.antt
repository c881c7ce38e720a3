-- What a read and a wait find among events, as functions: after the time state of the tutorial, chapter 10.
use Rattle.std.specs.Prelude.{ℕ, List, [], ◌∷◌, Bool, true, false, ◌&&◌, ◌||◌, ◌==◌, cond, not, nat_le, bytes_eq, length, drop, take, Option, Some, None}
use Rattle.std.specs.List.{list_any}
use Rattle.vt_path.specs.declared.pattern.Segment.{Segment}
use Rattle.vt_path.specs.declared.pattern.Segment.TheVariants.{AnySegments, Parts}
use Rattle.vt_path.specs.declared.pattern.Part.{Part}
use Rattle.vt_path.specs.declared.pattern.Part.TheVariants.{Byte, AnyBytes, AnyByte, Set, Alternatives}
use Rattle.vt_path.specs.Match.{is_inner}
use Rattle.vt_event.specs.declared.kind.Kind.{Kind}
use Rattle.vt_event.specs.declared.kind.Kind.TheVariants.{Took}
use Rattle.vt_event.specs.declared.place.Place.{Place}
use Rattle.vt_event.specs.Event.{EventView}
use Rattle.vt_run.specs.declared.action.Answer.{Answer}
use Rattle.vt_run.specs.declared.action.Answer.TheVariants.{Nothing, Found}
use Rattle.vt_meaning.specs.Places.{is_before}

-- brackets hold a byte
abbrev pub holds : List ℕ → ℕ → Bool
holds [] byte = false
holds (a ∷ []) byte = byte == a
holds (a ∷ d ∷ []) byte = (byte == a) || (byte == d)
holds (a ∷ d ∷ z ∷ rest) byte =
    cond (d == 45) ((nat_le a byte && nat_le byte z) || holds rest byte) ((byte == a) || holds (d ∷ z ∷ rest) byte)

-- no item is taken, or one and so on
abbrev pub skips : {A : Type 0} → (List A → Bool) → List A → Bool
skips goes [] = goes []
skips goes (x ∷ xs) = goes (x ∷ xs) || skips goes xs

-- a list begins with this name
abbrev pub begins_with : List ℕ → List ℕ → Bool
begins_with bytes name = bytes_eq name (take (length name) bytes)

-- the parts of a segment match its bytes
abbrev pub matches_bytes : List Part → List ℕ → Bool
matches_bytes [] [] = true
matches_bytes [] (b ∷ bytes) = false
matches_bytes (Byte c ∷ parts) [] = false
matches_bytes (Byte c ∷ parts) (b ∷ bytes) = (b == c) && matches_bytes parts bytes
matches_bytes (AnyBytes ∷ parts) bytes = skips (λ rest. matches_bytes parts rest) bytes
matches_bytes (AnyByte ∷ parts) [] = false
matches_bytes (AnyByte ∷ parts) (b ∷ bytes) = matches_bytes parts bytes
matches_bytes (Set held ∷ parts) [] = false
matches_bytes (Set held ∷ parts) (b ∷ bytes) = holds held b && matches_bytes parts bytes
matches_bytes (Alternatives names ∷ parts) bytes =
    list_any (λ name. begins_with bytes name && matches_bytes parts (drop (length name) bytes)) names

-- the segments of a pattern match those of a path
abbrev pub matches_segments : List Segment → List (List ℕ) → Bool
matches_segments [] [] = true
matches_segments [] (s ∷ path) = false
matches_segments (AnySegments ∷ pattern) path = skips (λ rest. matches_segments pattern rest) path
matches_segments (Parts parts ∷ pattern) [] = false
matches_segments (Parts parts ∷ pattern) (s ∷ path) = matches_bytes parts s && matches_segments pattern path

-- parts that stand for these bytes
abbrev pub are_bytes : List Part → List ℕ → Bool
are_bytes [] [] = true
are_bytes (Byte c ∷ parts) (b ∷ bytes) = (c == b) && are_bytes parts bytes
are_bytes _ _ = false

-- the pattern is written as the path is
abbrev pub is_literal : List Segment → List (List ℕ) → Bool
is_literal [] [] = true
is_literal (Parts parts ∷ pattern) (s ∷ path) = are_bytes parts s && is_literal pattern path
is_literal _ _ = false

-- the pattern matches the path; an inner path is matched by its own literal pattern alone
abbrev pub matches_path : List Segment → List (List ℕ) → Bool
matches_path pattern path = cond (is_inner path) (is_literal pattern path) (matches_segments pattern path)

abbrev pub is_took : Kind → Bool
is_took Took = true
is_took _ = false

abbrev pub matches_some : List Segment → Option (List (List ℕ)) → Bool
matches_some pattern None = false
matches_some pattern (Some path) = matches_path pattern path

-- The pattern matches the event: it is no Took, and has a path that the pattern matches.
unfoldable pub matches_event : List Segment → EventView → Bool
matches_event pattern event = not (is_took event.kind) && matches_some pattern event.path

-- one of the patterns matches the event
abbrev pub meets_wants : List (List Segment) → EventView → Bool
meets_wants wants event = list_any (λ pattern. matches_event pattern event) wants

-- of two events the one that stands lower; and the one that stands higher
abbrev pub lower : EventView → Option EventView → EventView
lower event None = event
lower event (Some other) = cond (is_before other.place event.place) other event

abbrev pub higher : EventView → Option EventView → EventView
higher event None = event
higher event (Some other) = cond (is_before event.place other.place) other event

-- what a read from the place finds: of the events below it that the pattern matches the one with the greatest place
abbrev pub last_below : List EventView → Place → List Segment → Option EventView
last_below [] place pattern = None
last_below (event ∷ events) place pattern =
    cond (is_before event.place place && matches_event pattern event)
    (Some (higher event (last_below events place pattern)))
    (last_below events place pattern)

-- what a wait from the place finds: of the events above it that meet the wants the one with the least place
abbrev pub first_above : List EventView → Place → List (List Segment) → Option EventView
first_above [] place wants = None
first_above (event ∷ events) place wants =
    cond (is_before place event.place && meets_wants wants event)
    (Some (lower event (first_above events place wants)))
    (first_above events place wants)

-- the answer to a read
abbrev pub answer_of : Option EventView → Answer
answer_of None = Nothing
answer_of (Some event) = Found event
