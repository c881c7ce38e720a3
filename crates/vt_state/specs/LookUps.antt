-- What a read and a wait find among the events of a session: after the time state of the tutorial, chapter 10.
use Rattle.std.specs.Prelude.{◌≡◌, ◌≢◌, ◌⊎◌, ℕ, List, Some, IsSomeAnd, slice_get}
use Rattle.std.specs.List.{Contains}
use Rattle.vt_path.specs.declared.pattern.Segment.{Segment}
use Rattle.vt_path.specs.Match.{Matches}
use Rattle.vt_event.specs.declared.kind.Kind.TheVariants.{Took}
use Rattle.vt_event.specs.declared.place.Place.{Place}
use Rattle.vt_event.specs.Event.{EventView}
use Rattle.vt_event.specs.Order.{IsBefore}

-- The pattern matches the event: it is no Took, and has a path that the pattern matches. A Took has its path for printing alone.
pub record MatchesEvent (pattern : List Segment) (event : EventView) : Type 0 where
  pub not_took : event.kind ≢ Took
  pub matched : IsSomeAnd event.path (λ path. Matches pattern path)

-- the event meets the wants of a wait: one of these patterns matches it
pub record MeetsWants (wants : List (List Segment)) (event : EventView) : Type 0 where
  pub pattern : List Segment
  pub wanted : Contains wants pattern
  pub matched : MatchesEvent pattern event

-- an event of the list that stands below the place and that the pattern matches
pub record IsBelow (events : List EventView) (place : Place) (pattern : List Segment) (event : EventView) : Type 0 where
  pub listed : Contains events event
  pub below : IsBefore event.place place
  pub matched : MatchesEvent pattern event

-- What a read from the place finds: of these events the one with the greatest place.
pub record IsLastBelow (events : List EventView) (place : Place) (pattern : List Segment) (event : EventView) : Type 0 where
  pub found : IsBelow events place pattern event
  pub last : (other : EventView) → IsBelow events place pattern other → (other ≡ event) ⊎ IsBefore other.place event.place

-- a read from the place finds nothing
abbrev pub NoneBelow : List EventView → Place → List Segment → Type 0
NoneBelow events place pattern = (event : EventView) → ¬ IsBelow events place pattern event

-- an event of the list that stands above the place and meets the wants
pub record IsAbove (events : List EventView) (place : Place) (wants : List (List Segment)) (event : EventView) : Type 0 where
  pub listed : Contains events event
  pub above : IsBefore place event.place
  pub met : MeetsWants wants event

-- What a wait from the place finds: of these events the one with the least place.
pub record IsFirstAbove (events : List EventView) (place : Place) (wants : List (List Segment)) (event : EventView) : Type 0 where
  pub found : IsAbove events place wants event
  pub first : (other : EventView) → IsAbove events place wants other → (other ≡ event) ⊎ IsBefore event.place other.place

-- a wait from the place finds nothing
abbrev pub NoneAbove : List EventView → Place → List (List Segment) → Type 0
NoneAbove events place wants = (event : EventView) → ¬ IsAbove events place wants event

-- no two events of the list stand at one place
abbrev pub HaveOwnPlaces : List EventView → Type 0
HaveOwnPlaces events =
    (i j : ℕ) (event other : EventView) → slice_get events i ≡ Some event → slice_get events j ≡ Some other → event.place ≡ other.place → i ≡ j

-- no event of the one list stands at the place of one of the other
abbrev pub ShareNoPlace : List EventView → List EventView → Type 0
ShareNoPlace events others = (event other : EventView) → Contains events event → Contains others other → event.place ≢ other.place
