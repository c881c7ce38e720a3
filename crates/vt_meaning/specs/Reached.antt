-- The worlds of a session that transitions reach, and what holds of each: own.
use Rattle.std.specs.Prelude.{◌≡◌, ℕ, Bool, List, MatchOption, Some, slice_get}
use Rattle.vt_path.specs.declared.pattern.Segment.{Segment}
use Rattle.vt_event.specs.declared.place.Place.{Place}
use Rattle.vt_event.specs.Event.{EventView}
use Rattle.vt_run.specs.declared.start.Start.{Start}
use Rattle.vt_state.specs.LookUps.{HaveOwnPlaces, IsFirstAbove, IsLastBelow, NoneAbove, NoneBelow}
use Rattle.vt_meaning.specs.Consistent.{IsConsistent}
use Rattle.vt_meaning.specs.Disturbers.{standing_at}
use Rattle.vt_meaning.specs.LookUps.{first_above, last_below}
use Rattle.vt_meaning.specs.NextPlaces.{next_of}
use Rattle.vt_meaning.specs.Places.{Earlier}
use Rattle.vt_meaning.specs.RealLaws.{IsRenderedWithin, threads_with}
use Rattle.vt_meaning.specs.Session.{Key, opening_of}
use Rattle.vt_meaning.specs.ThreadMeaning.{ThreadMeaning}
use Rattle.vt_meaning.specs.Traces.{Thread, stance_in}
use Rattle.vt_meaning.specs.Transitions.{after_transition}
use Rattle.vt_meaning.specs.World.{Opening, World, events_of, opening_world}

-- the opening world, and the world after a transition of the thread with the least place
pub data Reached (m : ThreadMeaning) (opening : Opening) : World → Type 0 where
  AtFirst : Reached m opening (opening_world opening)
  AfterTransition : (world : World) (next : ℕ × Place) → Reached m opening world → next_of m opening world ≡ Some next → Reached m opening (after_transition m opening world next)

-- Each event stands at a place of its own, so that what the transitions look up is what a read and a wait find by the time state; and no thread stands at or past the horizon.
pub record IsRight (key : Key) (m : ThreadMeaning) (world : World) : Type 0 where
  pub consistent : IsConsistent m (opening_of key) world
  pub places : HaveOwnPlaces (events_of m (opening_of key) world)
  pub last : (place : Place) (pattern : List Segment) →
      MatchOption (last_below (events_of m (opening_of key) world) place pattern) (NoneBelow (events_of m (opening_of key) world) place pattern) (λ event. IsLastBelow (events_of m (opening_of key) world) place pattern event)
  pub first : (place : Place) (wants : List (List Segment)) →
      MatchOption (first_above (events_of m (opening_of key) world) place wants) (NoneAbove (events_of m (opening_of key) world) place wants) (λ event. IsFirstAbove (events_of m (opening_of key) world) place wants event)
  pub early : (k : ℕ) (thread : Thread) (place : Place) → slice_get world k ≡ Some thread → standing_at (stance_in m thread) ≡ Some place → Earlier place.time key.options.until

-- so is each world that the transitions of a rendered session reach
abbrev pub ReachedWorldsAreRight : Type 0
ReachedWorldsAreRight =
    (key : Key) (may : Start → List Segment → Bool) (fit : Start → Bool) (known : EventView → Bool) → IsRenderedWithin key may fit known →
    (world : World) → Reached (threads_with key.texts key.options.until may fit known) (opening_of key) world → IsRight key (threads_with key.texts key.options.until may fit known) world
