-- How far the numbers of a store go: own.
use Rattle.std.specs.Prelude.{◌≡◌, ℕ, ◌+◌, ◌≤◌, List, Some, Contains, length, slice_get, take}
use Rattle.vt_event.specs.declared.place.Place.{Place}
use Rattle.vt_event.specs.Event.{EventView}
use Rattle.vt_run.specs.declared.action.Action.TheVariants.{Spawn}
use Rattle.vt_run.specs.declared.start.Start.{Start}
use Rattle.vt_run.specs.Standing.{Ready}
use Rattle.vt_meaning.specs.Consistent.{IsConsistent}
use Rattle.vt_meaning.specs.Happenings.{Happened}
use Rattle.vt_meaning.specs.ThreadLaws.{IsSession}
use Rattle.vt_meaning.specs.ThreadMeaning.{ThreadMeaning}
use Rattle.vt_meaning.specs.Traces.{Entry, Thread, standing, trace}
use Rattle.vt_meaning.specs.World.{Opening, total_of}

-- a thread that is started begins with step 1, in the micro step in which its starter stands
abbrev pub StartsLow : ThreadMeaning → Type 0
StartsLow m =
    (thread : Thread) (number : ℕ) (entry : Entry) (place : Place) (start : Start) → slice_get (trace m thread) number ≡ Some entry → entry.step.action ≡ Some (Spawn place start) →
    (start.place.step ≤ 1) × (start.place.micro ≤ place.micro)

-- texts begin with step 1 in micro step 0, and given events stand in micro step 0
pub record OpensLow (opening : Opening) : Type 0 where
  pub steps : (start : Start) → Contains opening.starts start → start.place.step ≤ 1
  pub micros : (start : Start) → Contains opening.starts start → start.place.micro ≡ 0
  pub given : (event : EventView) → Contains opening.given event → event.place.micro ≡ 0

-- what the numbers of a store are at most, by the total of its costs
pub record AreLow (m : ThreadMeaning) (opening : Opening) (threads : List Thread) : Type 0 where
  -- the evaluation steps of a thread, and its actions
  pub done : (number : ℕ) (thread : Thread) → slice_get threads number ≡ Some thread → thread.done ≤ total_of m threads
  pub steps : (number step : ℕ) (thread : Thread) (place : Place) → slice_get threads number ≡ Some thread → step ≤ length (trace m thread) → standing m thread.start (take step (trace m thread)) ≡ Ready place →
      place.step ≤ 1 + total_of m threads
  -- micro steps
  pub micros : (number step : ℕ) (thread : Thread) (place : Place) → slice_get threads number ≡ Some thread → step ≤ length (trace m thread) → standing m thread.start (take step (trace m thread)) ≡ Ready place →
      place.micro ≤ total_of m threads
  pub events : (event : EventView) → Happened m opening threads event → event.place.micro ≤ total_of m threads
  -- the records
  pub records : length threads ≤ length opening.starts + total_of m threads

-- **numbers stay low**: so they stay within the limits of their types, where the total is within a budget
abbrev pub NumbersStayLow : Type 0
NumbersStayLow = (m : ThreadMeaning) (opening : Opening) → IsSession m opening → StartsLow m → OpensLow opening → (threads : List Thread) → IsConsistent m opening threads → AreLow m opening threads
