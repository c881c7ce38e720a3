-- Laws of what a read and a wait find.
use Rattle.std.specs.Prelude.{◌≡◌, ◌⊎◌, ◌↔◌, List, ◌++◌}
use Rattle.std.specs.List.{Contains}
use Rattle.vt_path.specs.declared.pattern.Segment.{Segment}
use Rattle.vt_event.specs.declared.place.Place.{Place}
use Rattle.vt_event.specs.Event.{EventView}
use Rattle.vt_event.specs.Order.{IsBefore}
use Rattle.vt_state.specs.LookUps.{IsFirstAbove, IsLastBelow, NoneAbove, NoneBelow}

-- a read finds one event
abbrev pub LastIsOneEvent : Type 0
LastIsOneEvent = (events : List EventView) (place : Place) (pattern : List Segment) (event other : EventView) →
    IsLastBelow events place pattern event → IsLastBelow events place pattern other → event ≡ other

-- it does not find an event and nothing
abbrev pub LastIsNoneOrOne : Type 0
LastIsNoneOrOne = (events : List EventView) (place : Place) (pattern : List Segment) (event : EventView) →
    IsLastBelow events place pattern event → ¬ NoneBelow events place pattern

-- a wait finds one event
abbrev pub FirstIsOneEvent : Type 0
FirstIsOneEvent = (events : List EventView) (place : Place) (wants : List (List Segment)) (event other : EventView) →
    IsFirstAbove events place wants event → IsFirstAbove events place wants other → event ≡ other

-- it does not find an event and nothing
abbrev pub FirstIsNoneOrOne : Type 0
FirstIsNoneOrOne = (events : List EventView) (place : Place) (wants : List (List Segment)) (event : EventView) →
    IsFirstAbove events place wants event → ¬ NoneAbove events place wants

-- What is first for some wants and more: the lesser of what is first for each, or the one that there is.
pub record FirstOfTwoWants : Type 0 where
  pub lesser : (events : List EventView) (place : Place) (wants more : List (List Segment)) (event other : EventView) →
      IsFirstAbove events place wants event → IsFirstAbove events place more other → (event ≡ other) ⊎ IsBefore event.place other.place →
      IsFirstAbove events place (wants ++ more) event
  pub lesser_of_more : (events : List EventView) (place : Place) (wants more : List (List Segment)) (event other : EventView) →
      IsFirstAbove events place wants event → IsFirstAbove events place more other → IsBefore other.place event.place →
      IsFirstAbove events place (wants ++ more) other
  pub first_alone : (events : List EventView) (place : Place) (wants more : List (List Segment)) (event : EventView) →
      IsFirstAbove events place wants event → NoneAbove events place more → IsFirstAbove events place (wants ++ more) event
  pub more_alone : (events : List EventView) (place : Place) (wants more : List (List Segment)) (other : EventView) →
      NoneAbove events place wants → IsFirstAbove events place more other → IsFirstAbove events place (wants ++ more) other
  pub neither : (events : List EventView) (place : Place) (wants more : List (List Segment)) →
      NoneAbove events place wants → NoneAbove events place more → NoneAbove events place (wants ++ more)

-- the lists hold the same events
abbrev pub HaveSameEvents : List EventView → List EventView → Type 0
HaveSameEvents events others = (event : EventView) → Contains events event ↔ Contains others event

-- lists with the same events give the same answers
pub record MembersAloneMatter : Type 0 where
  pub last : (events others : List EventView) (place : Place) (pattern : List Segment) (event : EventView) →
      HaveSameEvents events others → IsLastBelow events place pattern event → IsLastBelow others place pattern event
  pub none_below : (events others : List EventView) (place : Place) (pattern : List Segment) →
      HaveSameEvents events others → NoneBelow events place pattern → NoneBelow others place pattern
  pub first : (events others : List EventView) (place : Place) (wants : List (List Segment)) (event : EventView) →
      HaveSameEvents events others → IsFirstAbove events place wants event → IsFirstAbove others place wants event
  pub none_above : (events others : List EventView) (place : Place) (wants : List (List Segment)) →
      HaveSameEvents events others → NoneAbove events place wants → NoneAbove others place wants
