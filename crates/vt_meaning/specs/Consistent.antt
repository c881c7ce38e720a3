-- What a consistent store holds: own.
--
-- A store has the threads of a session, as a world has. It may have run them in any order, and published what they did piece by piece. It is consistent where each answer that it gave is the one that it will always be. Nothing here speaks of transitions.
use Rattle.std.specs.Prelude.{◌≡◌, ◌⊎◌, ℕ, List, Bool, true, false, Option, Some, None, Contains, count_by, length, slice_get}
use Rattle.vt_frac.specs.Fraction.{Fraction}
use Rattle.vt_path.specs.declared.pattern.Segment.{Segment}
use Rattle.vt_event.specs.declared.place.Place.{Place}
use Rattle.vt_event.specs.Event.{EventView}
use Rattle.vt_run.specs.declared.action.Action.TheVariants.{Rest, Read}
use Rattle.vt_run.specs.declared.action.Answer.{Answer}
use Rattle.vt_run.specs.declared.action.Answer.TheVariants.{Found}
use Rattle.vt_run.specs.declared.start.Start.{Start}
use Rattle.vt_meaning.specs.Bounds.{Clear, Quiet}
use Rattle.vt_meaning.specs.Happenings.{Acted, Begun, IsFirst, IsLast, Spawned}
use Rattle.vt_meaning.specs.ThreadMeaning.{ThreadMeaning, Wants}
use Rattle.vt_meaning.specs.Traces.{Entry, Thread, MovesOn, trace, wait_for}
use Rattle.vt_meaning.specs.World.{Opening}

-- the ask of this entry was answered
abbrev pub got : Option Answer → Bool
got None = false
got (Some answer) = true

abbrev pub has_answer : Entry → Bool
has_answer entry = got entry.answer

-- a thread is exact: it did as many steps as it says, and these took all of its answers
pub record IsExact (m : ThreadMeaning) (thread : Thread) : Type 0 where
  pub done : length (trace m thread) ≡ thread.done
  pub used : length thread.answers ≡ count_by has_answer (trace m thread)

pub record IsConsistent (m : ThreadMeaning) (opening : Opening) (threads : List Thread) : Type 0 where
  -- the threads are those of the opening and one for each Spawn, and no two have one list
  pub opened : (start : Start) → Contains opening.starts start → Begun threads start
  pub spawned : (start : Start) → Spawned m threads start → Begun threads start
  pub rooted : (number : ℕ) (thread : Thread) → slice_get threads number ≡ Some thread → Contains opening.starts thread.start ⊎ Spawned m threads thread.start
  pub apart : (number other : ℕ) (thread twin : Thread) → slice_get threads number ≡ Some thread → slice_get threads other ≡ Some twin → thread.start.place.thread ≡ twin.start.place.thread → number ≡ other
  pub exact : (number : ℕ) (thread : Thread) → slice_get threads number ≡ Some thread → IsExact m thread
  -- each rest moved its thread on
  pub moves : (thread : Thread) (i : ℕ) (entry : Entry) (place : Place) (seconds : Fraction) → Acted m threads thread i entry (Rest place seconds) → MovesOn place seconds
  -- an answered read was answered by the last match below it, and no disturber of it has a bound below it
  pub reads : (thread : Thread) (i : ℕ) (entry : Entry) (place : Place) (pattern : List Segment) (answer : Answer) → Acted m threads thread i entry (Read place pattern) → entry.answer ≡ Some answer →
      IsLast m opening threads place pattern answer × Quiet m opening threads place pattern
  -- an answered wait was answered by the first event above it that is wanted, and the front is above that event
  pub waits : (thread : Thread) (i : ℕ) (entry : Entry) (place : Place) (wants : Wants) (answer : Answer) → Acted m threads thread i entry (wait_for place wants) → entry.answer ≡ Some answer →
      (event : EventView) × (answer ≡ Found event) × IsFirst m opening threads place wants event × Clear m opening threads event.place
