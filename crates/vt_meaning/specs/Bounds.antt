-- Bounds, and when a read or a wait is final: own.
--
-- The bound of a thread is the place at which it goes on as things stand; that of one that waits falls where an earlier match is published. The front is the least bound of all threads: nothing is published below it any more. A wait is final where the front is above what it finds. A read is final where no thread that may yet write what it asks for has a bound below it.
use Rattle.std.specs.Prelude.{◌≡◌, ℕ, List, true, Option, Some, None, slice_get}
use Rattle.vt_path.specs.declared.pattern.Segment.{Segment}
use Rattle.vt_event.specs.declared.place.Place.{Place}
use Rattle.vt_run.specs.Standing.{Stance, Ready, Asks, Waits, Asleep, Over}
use Rattle.vt_meaning.specs.NextPlaces.{GoesOn, IsFinished, NoneSooner}
use Rattle.vt_meaning.specs.Places.{Before, Upto}
use Rattle.vt_meaning.specs.ThreadMeaning.{ThreadMeaning, Wants, may_meet}
use Rattle.vt_meaning.specs.Traces.{Thread, stance_in, waiting}
use Rattle.vt_meaning.specs.World.{Opening}

-- the bound of a thread that stands so, if it has one: the least place at which it may go on
abbrev pub IsBound : ThreadMeaning → Opening → List Thread → Stance → Option Place → Type 0
IsBound m opening threads stance None = (next : Place) → GoesOn m opening threads stance next → ⊥
IsBound m opening threads stance (Some bound) = GoesOn m opening threads stance bound × ((next : Place) → GoesOn m opening threads stance next → Upto bound next)

-- the front, if there is one: the least bound, with the number of a thread that has it
abbrev pub IsFront : ThreadMeaning → Opening → List Thread → Option (ℕ × Place) → Type 0
IsFront m opening threads None = IsFinished m opening threads
IsFront m opening threads (Some front) =
    (thread : Thread) × (slice_get threads front.0 ≡ Some thread) × IsBound m opening threads (stance_in m thread) (Some front.1) × NoneSooner m opening threads front.1

abbrev pub place_of_front : Option (ℕ × Place) → Option Place
place_of_front None = None
place_of_front (Some front) = Some front.1

-- the front is above the place
abbrev pub Clear : ThreadMeaning → Opening → List Thread → Place → Type 0
Clear m opening threads place =
    (number : ℕ) (thread : Thread) (bound : Place) → slice_get threads number ≡ Some thread → GoesOn m opening threads (stance_in m thread) bound → Before place bound

-- A thread that stands so is neither over nor past the horizon, and stands below the place. One that asks or waits stands where it does so.
abbrev pub StandsBelow : Stance → Place → Type 0
StandsBelow (Ready at) place = Before at place
StandsBelow (Asks at pattern) place = Before at place
StandsBelow (Waits at pattern stop) place = Before at place
StandsBelow (Asleep time) place = ⊥
StandsBelow Over place = ⊥

-- the thread is one of these, and a candidate for a read at the place
pub record IsCandidate (m : ThreadMeaning) (threads : List Thread) (place : Place) (thread : Thread) : Type 0 where
  pub at : ℕ
  pub has : slice_get threads at ≡ Some thread
  pub below : StandsBelow (stance_in m thread) place

-- The disturbers of a read at the place: the least set of candidates in which each is that may write what the pattern matches, and each that may write what a disturber waits for.
pub data Disturbs (m : ThreadMeaning) (threads : List Thread) (place : Place) (pattern : List Segment) : Thread → Type 0 where
  Writes : (thread : Thread) → IsCandidate m threads place thread → m.may thread.start pattern ≡ true → Disturbs m threads place pattern thread
  Feeds : (thread fed : Thread) (at : Place) (wants : Wants) → IsCandidate m threads place thread → Disturbs m threads place pattern fed → stance_in m fed ≡ waiting at wants → may_meet m thread.start wants ≡ true → Disturbs m threads place pattern thread

-- no disturber of a read at the place has a bound below it
abbrev pub Quiet : ThreadMeaning → Opening → List Thread → Place → List Segment → Type 0
Quiet m opening threads place pattern =
    (thread : Thread) (bound : Place) → Disturbs m threads place pattern thread → GoesOn m opening threads (stance_in m thread) bound → Before bound place → ⊥
