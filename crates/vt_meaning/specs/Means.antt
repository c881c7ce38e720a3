-- The meaning as a relation: what a world comes to by transitions, where a transition is said by what a read and a wait find, and not by how it is found. After FARM 2014, with cues and the time state.
use Rattle.std.specs.Prelude.{◌≡◌, ℕ, ◌<◌, ◌≤◌, List, [], ◌∷◌, ◌++◌, Some, None, slice_get}
use Rattle.vt_path.specs.declared.pattern.Segment.{Segment}
use Rattle.vt_event.specs.declared.place.Place.{Place}
use Rattle.vt_event.specs.Event.{EventView}
use Rattle.vt_run.specs.declared.action.Answer.{Answer}
use Rattle.vt_run.specs.declared.action.Answer.TheVariants.{Found}
use Rattle.vt_run.specs.Standing.{Asks, Ready}
use Rattle.vt_meaning.specs.Happenings.{IsFirst, IsLast}
use Rattle.vt_meaning.specs.Meaning.{Ending}
use Rattle.vt_meaning.specs.Meaning.Ending.{Ends, OverBudget}
use Rattle.vt_meaning.specs.NextPlaces.{NoneSooner, IsFinished}
use Rattle.vt_meaning.specs.ThreadMeaning.{ThreadMeaning, Wants}
use Rattle.vt_meaning.specs.Traces.{Entry, Thread, stance_in, trace, waiting, wake}
use Rattle.vt_meaning.specs.World.{Opening, World, moved_on, one_more, told, total_of}

-- one transition of a thread, whose place is the least: a step, or the answer that it asks for
pub data Transition (m : ThreadMeaning) (opening : Opening) (world : World) : World → Type 0 where
  Steps : (number : ℕ) (thread : Thread) (place : Place) (entry : Entry) → slice_get world number ≡ Some thread → stance_in m thread ≡ Ready place → NoneSooner m opening world place →
      trace m (one_more thread) ≡ trace m thread ++ entry ∷ [] → Transition m opening world (moved_on world number (one_more thread) entry.step.action)
  Reads : (number : ℕ) (thread : Thread) (place : Place) (pattern : List Segment) (answer : Answer) → slice_get world number ≡ Some thread → stance_in m thread ≡ Asks place pattern → NoneSooner m opening world place →
      IsLast m opening world place pattern answer → Transition m opening world (moved_on world number (told answer thread) None)
  Wakes : (number : ℕ) (thread : Thread) (place : Place) (wants : Wants) (event : EventView) → slice_get world number ≡ Some thread → stance_in m thread ≡ waiting place wants → IsFirst m opening world place wants event →
      NoneSooner m opening world (wake event place) → Transition m opening world (moved_on world number (told (Found event) thread) None)

-- what a world comes to
pub data Means (m : ThreadMeaning) (opening : Opening) : World → Ending → Type 0 where
  spends : (world : World) → opening.budget < total_of m world → Means m opening world OverBudget
  ends : (world : World) → total_of m world ≤ opening.budget → IsFinished m opening world → Means m opening world (Ends world)
  goes : (world next : World) (ending : Ending) → total_of m world ≤ opening.budget → Transition m opening world next → Means m opening next ending → Means m opening world ending
