-- The event that is nearest to a place on one side of it.
use Rattle.std.specs.Prelude.{◌≡◌, ℕ, ◌<◌, ◌≤◌, ◌⊎◌, List, length, Option, Some, MatchOption, Vec, slice_get}
use Rattle.std.specs.Borrow.{Bor}
use Rattle.std.specs.List.{Contains}
use Rattle.std.specs.declared.alloc.Global.{Global}
use Rattle.vt_path.specs.declared.pattern.Segment.{Segment}
use Rattle.vt_path.specs.Match.{Matches}
use Rattle.vt_event.specs.declared.place.Place.{Place}
use Rattle.vt_event.specs.Event.{EventView}
use Rattle.vt_event.specs.Order.{IsBefore}
use Rattle.vt_state.specs.LookUps.{MatchesEvent}
use Rattle.vt_index.specs.declared.row.Row.{Row}
use Rattle.vt_index.specs.declared.side.Side.{Side}
use Rattle.vt_index.specs.declared.side.Side.TheVariants.{Below, Above}
use Rattle.vt_index.specs.private.Rows.{Entries}

-- the event stands on this side of the place
abbrev pub Lies : Side → Place → EventView → Type 0
Lies Below place event = IsBefore event.place place
Lies Above place event = IsBefore place event.place

-- the event is nearer than the other, for a place on whose side both stand
abbrev pub IsNearer : Side → EventView → EventView → Type 0
IsNearer Below event other = IsBefore other.place event.place
IsNearer Above event other = IsBefore event.place other.place

-- the event stands in front of the cut: below the place, or, for a search above it, not above it
abbrev pub IsInFront : Side → Place → EventView → Type 0
IsInFront Below place event = IsBefore event.place place
IsInFront Above place event = IsBefore place event.place → ⊥

-- the event stands behind the cut
abbrev pub IsBehind : Side → Place → EventView → Type 0
IsBehind Below place event = IsBefore event.place place → ⊥
IsBehind Above place event = IsBefore place event.place

-- of the events that fit the one that is nearest to the place on this side of it
pub record IsNearest (Fits : EventView → Type 0) (side : Side) (place : Place) (event : EventView) : Type 0 where
  pub fits : Fits event
  pub lies : Lies side place event
  pub nearest : (other : EventView) → Fits other → Lies side place other → (other.place ≡ event.place) ⊎ IsNearer side event other

-- no event that fits stands on this side of the place
abbrev pub NoneLies : (EventView → Type 0) → Side → Place → Type 0
NoneLies Fits side place = (event : EventView) → Fits event → Lies side place event → ⊥

-- what is found is the nearest event that fits, and nothing only where there is none
abbrev pub NearestOf : (EventView → Type 0) → Side → Place → Option (Bor EventView) → Type 0
NearestOf Fits side place found = MatchOption found (NoneLies Fits side place) (λ event. IsNearest Fits side place event.now)

-- the event is one of the row
abbrev pub StandsIn : List EventView → List ℕ → EventView → Type 0
StandsIn events at event = (position : ℕ) × Contains at position × (slice_get events position ≡ Some event)

-- the event is one of a row whose path the pattern matches
pub record FitsRows (events : List EventView) (rows : List Row) (pattern : List Segment) (event : EventView) : Type 0 where
  pub row : Row
  pub listed : Contains rows row
  pub matched : Matches pattern row.path
  pub stands : StandsIn events row.at.items event

-- the event is one of the row with this text for its key
pub record FitsText (events : List EventView) (entries : Entries) (text : List ℕ) (event : EventView) : Type 0 where
  pub key : Vec ℕ Global
  pub row : Row
  pub listed : Contains entries (key, row)
  pub named : key.items ≡ text
  pub stands : StandsIn events row.at.items event

-- the event is one of the list, and the pattern matches it
pub record FitsPattern (events : List EventView) (pattern : List Segment) (event : EventView) : Type 0 where
  pub listed : Contains events event
  pub matched : MatchesEvent pattern event

-- the position with this number leads to the event
pub record IsEventAt (events : List EventView) (at : List ℕ) (k : ℕ) (event : EventView) : Type 0 where
  pub position : ℕ
  pub leads : slice_get at k ≡ Some position
  pub stands : slice_get events position ≡ Some event

-- so many positions of the row lead to events in front of the place, and the others to events behind it
pub record IsCut (events : List EventView) (at : List ℕ) (side : Side) (place : Place) (count : ℕ) : Type 0 where
  pub within : count ≤ length at
  pub front : (k position : ℕ) (event : EventView) → k < count → slice_get at k ≡ Some position → slice_get events position ≡ Some event → IsInFront side place event
  pub behind : (k position : ℕ) (event : EventView) → count ≤ k → slice_get at k ≡ Some position → slice_get events position ≡ Some event → IsBehind side place event

-- all positions of the row lead to events below the place
abbrev pub AreInFront : List EventView → List ℕ → Place → Type 0
AreInFront events at place = (k position : ℕ) (event : EventView) → slice_get at k ≡ Some position → slice_get events position ≡ Some event → IsBefore event.place place
