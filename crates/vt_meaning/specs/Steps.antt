-- The steps of a store: own.
use Rattle.std.specs.Prelude.{◌≡◌, ℕ, ◌+◌, List, [], ◌∷◌, ◌++◌, None, Some, slice_get, slice_set}
use Rattle.vt_path.specs.declared.pattern.Segment.{Segment}
use Rattle.vt_event.specs.declared.place.Place.{Place}
use Rattle.vt_event.specs.Event.{EventView}
use Rattle.vt_run.specs.declared.action.Answer.{Answer}
use Rattle.vt_run.specs.declared.action.Answer.TheVariants.{Found}
use Rattle.vt_run.specs.Standing.{Asks, Ready}
use Rattle.vt_meaning.specs.Bounds.{Clear, Quiet}
use Rattle.vt_meaning.specs.Happenings.{IsFirst, IsLast}
use Rattle.vt_meaning.specs.ThreadMeaning.{ThreadMeaning, Wants}
use Rattle.vt_meaning.specs.Traces.{Entry, Thread, stance_in, trace, waiting}
use Rattle.vt_meaning.specs.World.{Opening, moved_on, one_more, started_by, told}

-- so many evaluation steps more
abbrev pub more : ℕ → Thread → Thread
more count thread = record { start = thread.start; answers = thread.answers; done = thread.done + count }

abbrev pub started_all : List Entry → List Thread
started_all [] = []
started_all (entry ∷ entries) = started_by entry.step.action ++ started_all entries

-- the thread with this number is this one now, after these entries, and what they started is there behind the others
abbrev pub published : List Thread → ℕ → Thread → List Entry → List Thread
published threads number thread entries = slice_set threads number thread ++ started_all entries

-- One change of what threads did: a step, or a final answer. (A piece is some steps; a thread that is taken, put back or left out changes nothing here.)
pub data Follows (m : ThreadMeaning) (opening : Opening) (threads : List Thread) : List Thread → Type 0 where
  Stepped : (number : ℕ) (thread : Thread) (place : Place) (entry : Entry) → slice_get threads number ≡ Some thread → stance_in m thread ≡ Ready place → trace m (one_more thread) ≡ trace m thread ++ entry ∷ [] →
      Follows m opening threads (moved_on threads number (one_more thread) entry.step.action)
  Told : (number : ℕ) (thread : Thread) (place : Place) (pattern : List Segment) (answer : Answer) → slice_get threads number ≡ Some thread → stance_in m thread ≡ Asks place pattern →
      Quiet m opening threads place pattern → IsLast m opening threads place pattern answer → Follows m opening threads (moved_on threads number (told answer thread) None)
  Woken : (number : ℕ) (thread : Thread) (place : Place) (wants : Wants) (event : EventView) → slice_get threads number ≡ Some thread → stance_in m thread ≡ waiting place wants →
      IsFirst m opening threads place wants event → Clear m opening threads event.place → Follows m opening threads (moved_on threads number (told (Found event) thread) None)

-- some such changes, one after another
pub data Changes (m : ThreadMeaning) (opening : Opening) : List Thread → List Thread → Type 0 where
  Unchanged : (threads : List Thread) → Changes m opening threads threads
  Changed : (threads next last : List Thread) → Follows m opening threads next → Changes m opening next last → Changes m opening threads last

-- what a store has to do: a step, or a final answer
pub data Due (m : ThreadMeaning) (opening : Opening) (threads : List Thread) : Type 0 where
  StepDue : (number : ℕ) (thread : Thread) (place : Place) → slice_get threads number ≡ Some thread → stance_in m thread ≡ Ready place → Due m opening threads
  ReadDue : (number : ℕ) (thread : Thread) (place : Place) (pattern : List Segment) → slice_get threads number ≡ Some thread → stance_in m thread ≡ Asks place pattern →
      Quiet m opening threads place pattern → Due m opening threads
  WaitDue : (number : ℕ) (thread : Thread) (place : Place) (wants : Wants) (event : EventView) → slice_get threads number ≡ Some thread → stance_in m thread ≡ waiting place wants →
      IsFirst m opening threads place wants event → Clear m opening threads event.place → Due m opening threads
