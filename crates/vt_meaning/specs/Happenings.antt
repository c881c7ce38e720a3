-- What threads did in a world, and what a read or a wait finds there: own.
--
-- Said by relations, among any threads of a session, whoever ran them and in whichever order.
use Rattle.std.specs.Prelude.{◌≡◌, ◌⊎◌, ℕ, List, true, Option, Some, None, Contains, slice_get}
use Rattle.vt_path.specs.declared.pattern.Segment.{Segment}
use Rattle.vt_event.specs.declared.place.Place.{Place}
use Rattle.vt_event.specs.Event.{EventView}
use Rattle.vt_run.specs.declared.action.Action.{Action}
use Rattle.vt_run.specs.declared.action.Action.TheVariants.{Emit, Spawn}
use Rattle.vt_run.specs.declared.action.Answer.{Answer}
use Rattle.vt_run.specs.declared.action.Answer.TheVariants.{Nothing, Found}
use Rattle.vt_run.specs.declared.start.Start.{Start}
use Rattle.vt_meaning.specs.LookUps.{matches_event}
use Rattle.vt_meaning.specs.Places.{Before}
use Rattle.vt_meaning.specs.ThreadMeaning.{ThreadMeaning, Wants, meets}
use Rattle.vt_meaning.specs.Traces.{Entry, Thread, trace}
use Rattle.vt_meaning.specs.World.{Opening}

-- the thread is one of these, its step with this number (from 0) was this entry, and that did this action
pub record Acted (m : ThreadMeaning) (threads : List Thread) (thread : Thread) (number : ℕ) (entry : Entry) (action : Action) : Type 0 where
  pub at : ℕ
  pub has : slice_get threads at ≡ Some thread
  pub did : slice_get (trace m thread) number ≡ Some entry
  pub is : entry.step.action ≡ Some action

-- one of the threads published the event
pub record Emitted (m : ThreadMeaning) (threads : List Thread) (event : EventView) : Type 0 where
  pub thread : Thread
  pub i : ℕ
  pub entry : Entry
  pub acted : Acted m threads thread i entry (Emit event)

-- one of the threads began so
pub record Begun (threads : List Thread) (beginning : Start) : Type 0 where
  pub at : ℕ
  pub thread : Thread
  pub has : slice_get threads at ≡ Some thread
  pub start : thread.start ≡ beginning

-- one of the threads started one that begins so
pub record Spawned (m : ThreadMeaning) (threads : List Thread) (start : Start) : Type 0 where
  pub thread : Thread
  pub i : ℕ
  pub entry : Entry
  pub place : Place
  pub acted : Acted m threads thread i entry (Spawn place start)

-- what happened: what is given with the session, and what the threads published
abbrev pub Happened : ThreadMeaning → Opening → List Thread → EventView → Type 0
Happened m opening threads event = Contains opening.given event ⊎ Emitted m threads event

-- the event is one that is wanted, and stands above the place
pub record Above (m : ThreadMeaning) (opening : Opening) (threads : List Thread) (place : Place) (wants : Wants) (event : EventView) : Type 0 where
  pub happened : Happened m opening threads event
  pub matches : meets wants event ≡ true
  pub above : Before place event.place

-- the pattern matches the event, which stands below the place
pub record Below (m : ThreadMeaning) (opening : Opening) (threads : List Thread) (place : Place) (pattern : List Segment) (event : EventView) : Type 0 where
  pub happened : Happened m opening threads event
  pub matches : matches_event pattern event ≡ true
  pub below : Before event.place place

-- what a wait from the place finds: of the events above it that are wanted the one with the least place
pub record IsFirst (m : ThreadMeaning) (opening : Opening) (threads : List Thread) (place : Place) (wants : Wants) (event : EventView) : Type 0 where
  pub found : Above m opening threads place wants event
  pub least : (other : EventView) → Above m opening threads place wants other → (other ≡ event) ⊎ Before event.place other.place

-- what a read from the place finds: of the events below it that the pattern matches the one with the greatest place, or nothing where there is none
abbrev pub IsLast : ThreadMeaning → Opening → List Thread → Place → List Segment → Answer → Type 0
IsLast m opening threads place pattern Nothing = (event : EventView) → Below m opening threads place pattern event → ⊥
IsLast m opening threads place pattern (Found event) =
    Below m opening threads place pattern event
    × ((other : EventView) → Below m opening threads place pattern other → (other ≡ event) ⊎ Before other.place event.place)

-- the first event that is wanted, or none
abbrev pub FirstOr : ThreadMeaning → Opening → List Thread → Place → Wants → Option EventView → Type 0
FirstOr m opening threads place wants None = (event : EventView) → Above m opening threads place wants event → ⊥
FirstOr m opening threads place wants (Some event) = IsFirst m opening threads place wants event
