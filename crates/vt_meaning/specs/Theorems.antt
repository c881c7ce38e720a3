-- The theorems on the meaning of a session and its stores: own.
use Rattle.std.specs.Prelude.{take, ◌≤◌, length, ◌<◌, Bool, Contains, ◌↔◌, true, ◌+◌, sum_by, ◌++◌, ◌≡◌, ℕ, List, [], ◌∷◌, ◌⊎◌, slice_get, Option, Some, None}
use Rattle.std.specs.List.Sorted.{IsPermutation}
use Rattle.vt_event.specs.Event.{EventView}
use Rattle.vt_event.specs.declared.place.Place.{Place}
use Rattle.vt_event.specs.declared.score.Living.{Living}
use Rattle.vt_frac.specs.Fraction.{Fraction}
use Rattle.vt_path.specs.declared.pattern.Segment.{Segment}
use Rattle.vt_run.specs.Actions.{is_past}
use Rattle.vt_run.specs.Standing.{Asks, Asleep, Over, Ready, Stance}
use Rattle.vt_run.specs.declared.action.Action.TheVariants.{Read}
use Rattle.vt_run.specs.declared.action.Answer.{Answer}
use Rattle.vt_run.specs.declared.action.Answer.TheVariants.{Found}
use Rattle.vt_run.specs.declared.start.Start.{Start}
use Rattle.vt_meaning.specs.Bounds.{Clear, Disturbs, IsBound, IsCandidate, IsFront, Quiet, place_of_front}
use Rattle.vt_meaning.specs.Consistent.{IsConsistent}
use Rattle.vt_meaning.specs.Disturbers.{disturbers, is_clear, is_quiet}
use Rattle.vt_meaning.specs.Happenings.{Above, Acted, FirstOr, Happened, IsFirst, IsLast}
use Rattle.vt_meaning.specs.LookUps.{lower}
use Rattle.vt_meaning.specs.Meaning.{Ending, ending_of, living_in, meaning_by, outcome_of, score_of, state_in}
use Rattle.vt_meaning.specs.Meaning.Ending.{Ends, OverBudget}
use Rattle.vt_meaning.specs.Means.{Means}
use Rattle.vt_meaning.specs.NextPlaces.{GoesOn, IsFinished, NoneSooner, next_of, place_in}
use Rattle.vt_meaning.specs.Places.{Before}
use Rattle.vt_meaning.specs.Steps.{Due, Follows, more, published}
use Rattle.vt_meaning.specs.ThreadLaws.{IsSession}
use Rattle.vt_meaning.specs.ThreadMeaning.{may_meet, ThreadMeaning, Wants}
use Rattle.vt_meaning.specs.Traces.{Entry, stance_in, standing, Thread, trace, waiting}
use Rattle.vt_meaning.specs.World.{emitted_in, events_of, moved_on, one_more, Opening, opening_world, told, total_of}

-- two sets of threads hold the same: one score, and for each thread of one a thread of the other with its start, steps and answers
pub record Same (m : ThreadMeaning) (opening : Opening) (some others : List Thread) : Type 0 where
  pub score : score_of m opening some ≡ score_of m opening others
  pub there : (event : EventView) → Happened m opening some event → Happened m opening others event
  pub back : (event : EventView) → Happened m opening others event → Happened m opening some event
  pub threads : (number : ℕ) (thread : Thread) → slice_get some number ≡ Some thread → (other : ℕ) × (twin : Thread) × (slice_get others other ≡ Some twin) × (thread.start ≡ twin.start) × (trace m thread ≡ trace m twin)
  pub threads_back : (other : ℕ) (twin : Thread) → slice_get others other ≡ Some twin → (number : ℕ) × (thread : Thread) × (slice_get some number ≡ Some thread) × (thread.start ≡ twin.start) × (trace m thread ≡ trace m twin)

-- why a thread does not go on: it sleeps past the horizon, waits for what is not there, or has ended
pub data Rests (m : ThreadMeaning) (opening : Opening) (threads : List Thread) (thread : Thread) : Type 0 where
  Sleeping : (time : Fraction) → stance_in m thread ≡ Asleep time → is_past m.until time ≡ true → Rests m opening threads thread
  Waiting : (place : Place) (wants : Wants) → stance_in m thread ≡ waiting place wants → ((event : EventView) → Above m opening threads place wants event → ⊥) → Rests m opening threads thread
  HasEnded : stance_in m thread ≡ Over → Rests m opening threads thread

-- a living thread of a score is one of these threads, with its list and its state
pub record Lives (m : ThreadMeaning) (threads : List Thread) (living : Living) : Type 0 where
  pub at : ℕ
  pub thread : Thread
  pub has : slice_get threads at ≡ Some thread
  pub list : living.thread ≡ thread.start.place.thread
  pub state : state_in (stance_in m thread) ≡ Some living.state

-- each thread of a finished store rests, and the living are those that sleep or wait
abbrev pub LivingRight : Type 0
LivingRight =
    (m : ThreadMeaning) (opening : Opening) → IsSession m opening → (threads : List Thread) → IsConsistent m opening threads →
    (IsFinished m opening threads → (number : ℕ) (thread : Thread) → slice_get threads number ≡ Some thread → Rests m opening threads thread) × ((living : Living) → Contains (living_in m threads) living ↔ Lives m threads living)

-- the one that stands lower, or the one that there is
abbrev pub lesser : Option EventView → Option EventView → Option EventView
lesser None other = other
lesser (Some event) other = Some (lower event other)

-- A wait for two patterns finds the lower one of what it would find for each. So a live loop's wait is two waits.
abbrev pub FirstOfTwo : Type 0
FirstOfTwo =
    (m : ThreadMeaning) (opening : Opening) → IsSession m opening → (threads : List Thread) → IsConsistent m opening threads → (place : Place) (pattern stop : List Segment) (first second : Option EventView) →
    FirstOr m opening threads place (record { pattern = pattern; stop = None }) first → FirstOr m opening threads place (record { pattern = stop; stop = None }) second → FirstOr m opening threads place (record { pattern = pattern; stop = Some stop }) (lesser first second)

-- the front is above a place where its test says so
abbrev pub FrontRight : Type 0
FrontRight = (m : ThreadMeaning) (opening : Opening) (threads : List Thread) (place : Place) → (is_clear m opening threads place ≡ true) ↔ Clear m opening threads place

-- the place at which a thread goes on is its bound, and the soonest one is the front
abbrev pub BoundsAreLeast : Type 0
BoundsAreLeast = (m : ThreadMeaning) (opening : Opening) (threads : List Thread) (stance : Stance) → IsBound m opening threads stance (place_in (events_of m opening threads) stance)

abbrev pub FrontIsLeast : Type 0
FrontIsLeast = (m : ThreadMeaning) (opening : Opening) (threads : List Thread) → IsFront m opening threads (next_of m opening threads)

-- and there is one bound, and one front
abbrev pub BoundsAreOne : Type 0
BoundsAreOne = (m : ThreadMeaning) (opening : Opening) (threads : List Thread) (stance : Stance) (one other : Option Place) → IsBound m opening threads stance one → IsBound m opening threads stance other → one ≡ other

abbrev pub FrontsAreOne : Type 0
FrontsAreOne =
    (m : ThreadMeaning) (opening : Opening) (threads : List Thread) (one other : Option (ℕ × Place)) → IsFront m opening threads one → IsFront m opening threads other → place_of_front one ≡ place_of_front other

-- **a finished consistent store within the budget holds what its session means**, which is then not spent
abbrev pub FinishedHolds : Type 0
FinishedHolds =
    (m : ThreadMeaning) (opening : Opening) → IsSession m opening → (others : List Thread) → IsConsistent m opening others → IsFinished m opening others → total_of m others ≤ opening.budget →
    (world : List Thread) × (ending_of m opening ≡ Ends world) × Same m opening world others

-- **no consistent store is above the budget, unless its session is spent**
abbrev pub NeverAbove : Type 0
NeverAbove = (m : ThreadMeaning) (opening : Opening) → IsSession m opening → (others : List Thread) → IsConsistent m opening others → (ending_of m opening ≡ OverBudget) ⊎ (total_of m others ≤ opening.budget)

-- **each change of a store keeps it consistent**: a step of a thread that is ready, the answer to a read that is final, and that to a wait that is
abbrev pub StepsKeep : Type 0
StepsKeep =
    (m : ThreadMeaning) (opening : Opening) → IsSession m opening → (threads : List Thread) → IsConsistent m opening threads → (number : ℕ) (thread : Thread) (place : Place) → slice_get threads number ≡ Some thread → stance_in m thread ≡ Ready place →
    (entry : Entry) × IsConsistent m opening (moved_on threads number (one_more thread) entry.step.action)

abbrev pub ReadsKeep : Type 0
ReadsKeep =
    (m : ThreadMeaning) (opening : Opening) → IsSession m opening → (threads : List Thread) → IsConsistent m opening threads → (number : ℕ) (thread : Thread) (place : Place) (pattern : List Segment) (answer : Answer) → slice_get threads number ≡ Some thread →
    stance_in m thread ≡ Asks place pattern → Quiet m opening threads place pattern → IsLast m opening threads place pattern answer → IsConsistent m opening (moved_on threads number (told answer thread) None)

abbrev pub WaitsKeep : Type 0
WaitsKeep =
    (m : ThreadMeaning) (opening : Opening) → IsSession m opening → (threads : List Thread) → IsConsistent m opening threads → (number : ℕ) (thread : Thread) (place : Place) (wants : Wants) (event : EventView) → slice_get threads number ≡ Some thread →
    stance_in m thread ≡ waiting place wants → IsFirst m opening threads place wants event → Clear m opening threads event.place → IsConsistent m opening (moved_on threads number (told (Found event) thread) None)

-- Answers add no event, and make little final: one to a read no other read and no wait, one to a wait no other wait.
abbrev pub ReadsEnable : Type 0
ReadsEnable =
    (m : ThreadMeaning) (opening : Opening) → IsSession m opening → (threads : List Thread) → IsConsistent m opening threads → (number : ℕ) (thread : Thread) (place : Place) (pattern : List Segment) (answer : Answer) → slice_get threads number ≡ Some thread →
    stance_in m thread ≡ Asks place pattern →
    ((event : EventView) → Happened m opening (moved_on threads number (told answer thread) None) event ↔ Happened m opening threads event)
    × ((event : EventView) → Happened m opening threads event → Clear m opening (moved_on threads number (told answer thread) None) event.place → Clear m opening threads event.place)
    × ((other : ℕ) (asking : Thread) (at : Place) (wanted : List Segment) → (other ≡ number → ⊥) → slice_get threads other ≡ Some asking → stance_in m asking ≡ Asks at wanted → Quiet m opening (moved_on threads number (told answer thread) None) at wanted → Quiet m opening threads at wanted)

abbrev pub WaitsEnable : Type 0
WaitsEnable =
    (m : ThreadMeaning) (opening : Opening) → IsSession m opening → (threads : List Thread) → IsConsistent m opening threads → (number : ℕ) (thread : Thread) (place : Place) (wants : Wants) (event : EventView) → slice_get threads number ≡ Some thread →
    stance_in m thread ≡ waiting place wants → IsFirst m opening threads place wants event →
    ((found : EventView) → Happened m opening (moved_on threads number (told (Found event) thread) None) found ↔ Happened m opening threads found)
    × ((at : Place) → Clear m opening (moved_on threads number (told (Found event) thread) None) at → Clear m opening threads at)

-- among the first so many threads no wait is final
abbrev pub NoFinalWait : ThreadMeaning → Opening → List Thread → ℕ → Type 0
NoFinalWait m opening threads count =
    (number : ℕ) (thread : Thread) (place : Place) (wants : Wants) (event : EventView) → number < count → slice_get threads number ≡ Some thread → stance_in m thread ≡ waiting place wants → IsFirst m opening threads place wants event → Clear m opening threads event.place → ⊥

-- .. and no read
abbrev pub NoFinalRead : ThreadMeaning → Opening → List Thread → ℕ → Type 0
NoFinalRead m opening threads count = (number : ℕ) (thread : Thread) (place : Place) (pattern : List Segment) → number < count → slice_get threads number ≡ Some thread → stance_in m thread ≡ Asks place pattern → Quiet m opening threads place pattern → ⊥

-- So one pass over the waits and then one over the reads will do.
abbrev pub WaitsPass : Type 0
WaitsPass =
    (m : ThreadMeaning) (opening : Opening) → IsSession m opening → (threads : List Thread) → IsConsistent m opening threads → (count : ℕ) → NoFinalWait m opening threads count → (thread : Thread) (place : Place) (wants : Wants) (event : EventView) → slice_get threads count ≡ Some thread →
    stance_in m thread ≡ waiting place wants → IsFirst m opening threads place wants event → NoFinalWait m opening (moved_on threads count (told (Found event) thread) None) (count + 1)

abbrev pub ReadsPass : Type 0
ReadsPass =
    (m : ThreadMeaning) (opening : Opening) → IsSession m opening → (threads : List Thread) → IsConsistent m opening threads → (waits count : ℕ) → NoFinalWait m opening threads waits → NoFinalRead m opening threads count → (thread : Thread) (place : Place) (pattern : List Segment) (answer : Answer) →
    slice_get threads count ≡ Some thread → stance_in m thread ≡ Asks place pattern → NoFinalWait m opening (moved_on threads count (told answer thread) None) waits × NoFinalRead m opening (moved_on threads count (told answer thread) None) (count + 1)

-- each of these events stands before all behind it
abbrev pub AreRising : List EventView → Type 0
AreRising [] = Unit {0}
AreRising (event ∷ events) = ((other : EventView) → Contains events other → Before event.place other.place) × AreRising events

-- the events of a score are all that happened, and nothing else, in order of place
abbrev pub ScoresHaveAll : Type 0
ScoresHaveAll =
    (m : ThreadMeaning) (opening : Opening) → IsSession m opening → (threads : List Thread) → IsConsistent m opening threads →
    AreRising (score_of m opening threads).events × ((event : EventView) → Contains (score_of m opening threads).events event ↔ Happened m opening threads event)

-- **the front never falls**: where it is above a place, it stays so, whatever changes
abbrev pub FrontStays : Type 0
FrontStays =
    (m : ThreadMeaning) (opening : Opening) → IsSession m opening → (threads others : List Thread) → IsConsistent m opening threads → Follows m opening threads others →
    (place : Place) → Clear m opening threads place → Clear m opening others place

-- **what is final stays final**, with its answer, whatever changes
abbrev pub FinalStays : Type 0
FinalStays =
    (m : ThreadMeaning) (opening : Opening) → IsSession m opening → (threads others : List Thread) → IsConsistent m opening threads → Follows m opening threads others →
    ((place : Place) (pattern : List Segment) (answer : Answer) → Quiet m opening threads place pattern → IsLast m opening threads place pattern answer → Quiet m opening others place pattern × IsLast m opening others place pattern answer)
    × ((place : Place) (wants : Wants) (event : EventView) → IsFirst m opening threads place wants event → Clear m opening threads event.place → IsFirst m opening others place wants event × Clear m opening others event.place)

-- a piece of steps may be published at once
abbrev pub PiecesKeep : Type 0
PiecesKeep =
    (m : ThreadMeaning) (opening : Opening) → IsSession m opening → (threads : List Thread) → IsConsistent m opening threads → (count number : ℕ) (thread : Thread) → slice_get threads number ≡ Some thread →
    (entries : List Entry) → trace m (more count thread) ≡ trace m thread ++ entries → length entries ≡ count → IsConsistent m opening (published threads number (more count thread) entries)

-- it adds its events, each once, and its costs
abbrev pub PiecesAdd : Type 0
PiecesAdd =
    (m : ThreadMeaning) (opening : Opening) → IsSession m opening → (threads : List Thread) (number : ℕ) (thread later : Thread) (entries : List Entry) → slice_get threads number ≡ Some thread → trace m later ≡ trace m thread ++ entries →
    IsPermutation (events_of m opening threads ++ emitted_in entries) (events_of m opening (published threads number later entries)) × (total_of m (published threads number later entries) ≡ total_of m threads + sum_by (λ entry. entry.step.cost) entries)

-- **a store begins consistent**
abbrev pub Opens : Type 0
Opens = (m : ThreadMeaning) (opening : Opening) → IsSession m opening → IsConsistent m opening (opening_world opening)

-- the disturbers can be listed, and a quiet read be tested
abbrev pub DisturbersRight : Type 0
DisturbersRight =
    (m : ThreadMeaning) (opening : Opening) (threads : List Thread) (place : Place) (pattern : List Segment) →
    ((thread : Thread) → Contains (disturbers m threads place pattern) thread ↔ Disturbs m threads place pattern thread) × ((is_quiet m opening threads place pattern ≡ true) ↔ Quiet m opening threads place pattern)

-- Marks that no candidate is missing from are on all disturbers: on each that may write what the read wants, and on each that may wake a marked one.
abbrev pub MarksEnough : Type 0
MarksEnough =
    (m : ThreadMeaning) (threads : List Thread) (place : Place) (pattern : List Segment) (marked : Thread → Bool) →
    ((thread : Thread) → IsCandidate m threads place thread → m.may thread.start pattern ≡ true → marked thread ≡ true) →
    ((thread twin : Thread) (at : Place) (wants : Wants) → IsCandidate m threads place thread → marked twin ≡ true → stance_in m twin ≡ waiting at wants → may_meet m thread.start wants ≡ true → marked thread ≡ true) →
    (thread : Thread) → Disturbs m threads place pattern thread → marked thread ≡ true

-- So the marks tell: a read is final where they are on no one with a bound below it, and only where they are on such as wait.
abbrev pub MarksTell : Type 0
MarksTell =
    (m : ThreadMeaning) (opening : Opening) (threads : List Thread) (place : Place) (pattern : List Segment) →
    ((marked : Thread → Bool) →
    ((thread : Thread) → IsCandidate m threads place thread → m.may thread.start pattern ≡ true → marked thread ≡ true) →
    ((thread twin : Thread) (at : Place) (wants : Wants) → IsCandidate m threads place thread → marked twin ≡ true → stance_in m twin ≡ waiting at wants → may_meet m thread.start wants ≡ true → marked thread ≡ true) →
    ((thread : Thread) (bound : Place) → marked thread ≡ true → GoesOn m opening threads (stance_in m thread) bound → Before bound place → ⊥) → Quiet m opening threads place pattern)
    × ((thread : Thread) → IsCandidate m threads place thread → ((bound : Place) × GoesOn m opening threads (stance_in m thread) bound × Before bound place) ⊎ ((at : Place) × (wants : Wants) × (stance_in m thread ≡ waiting at wants)))

-- A read at the front is final, and one that nobody may write for is. With every write allowed no other one is,
abbrev pub FrontReads : Type 0
FrontReads =
    (m : ThreadMeaning) (opening : Opening) (threads : List Thread) (place : Place) (pattern : List Segment) →
    (NoneSooner m opening threads place → Quiet m opening threads place pattern)
    × (((start : Start) → m.may start pattern ≡ true → ⊥) → Quiet m opening threads place pattern)
    × (((start : Start) (wanted : List Segment) → m.may start wanted ≡ true) → Quiet m opening threads place pattern → (number : ℕ) (thread : Thread) (bound : Place) → slice_get threads number ≡ Some thread → GoesOn m opening threads (stance_in m thread) bound → Before bound place → ⊥)

-- .. and the front is above each read that was answered.
abbrev pub ReadsPassed : Type 0
ReadsPassed =
    (m : ThreadMeaning) (opening : Opening) → IsSession m opening → (threads : List Thread) → IsConsistent m opening threads → ((start : Start) (wanted : List Segment) → m.may start wanted ≡ true) →
    (thread : Thread) (step : ℕ) (entry : Entry) (place : Place) (pattern : List Segment) (answer : Answer) → Acted m threads thread step entry (Read place pattern) → entry.answer ≡ Some answer → Clear m opening threads place

-- **something is left to do as long as a thread goes on**
abbrev pub Progress : Type 0
Progress =
    (m : ThreadMeaning) (opening : Opening) → IsSession m opening → (threads : List Thread) → IsConsistent m opening threads → (number : ℕ) (thread : Thread) (bound : Place) → slice_get threads number ≡ Some thread →
    GoesOn m opening threads (stance_in m thread) bound → Due m opening threads

-- a thread of these began as this one did, did the same before its step with this number, and then that step
pub record DidToo (m : ThreadMeaning) (others : List Thread) (thread : Thread) (step : ℕ) (entry : Entry) : Type 0 where
  pub at : ℕ
  pub twin : Thread
  pub done : Entry
  pub has : slice_get others at ≡ Some twin
  pub start : thread.start ≡ twin.start
  pub before : take step (trace m thread) ≡ take step (trace m twin)
  pub did : slice_get (trace m twin) step ≡ Some done
  pub same : entry.step ≡ done.step

-- **agreement**: of two stores of one session what both have done of a thread is the same, and what one has done below the front of the other the other has done too
abbrev pub StoresAgree : Type 0
StoresAgree =
    (m : ThreadMeaning) (opening : Opening) → IsSession m opening → (threads others : List Thread) → IsConsistent m opening threads → IsConsistent m opening others →
    ((number other step : ℕ) (thread twin : Thread) (place at : Place) → slice_get threads number ≡ Some thread → slice_get others other ≡ Some twin → thread.start ≡ twin.start →
    step ≤ length (trace m thread) → step ≤ length (trace m twin) → standing m thread.start (take step (trace m thread)) ≡ Ready place → standing m twin.start (take step (trace m twin)) ≡ Ready at →
    take step (trace m thread) ≡ take step (trace m twin))
    × ((number step : ℕ) (thread : Thread) (entry : Entry) (place : Place) → slice_get threads number ≡ Some thread → slice_get (trace m thread) step ≡ Some entry → standing m thread.start (take step (trace m thread)) ≡ Ready place →
    Clear m opening others place → DidToo m others thread step entry)

-- the meaning as a relation is the meaning as a function: the function gives what the relation does, and nothing else stands in the relation
abbrev pub RelationIsMeaning : Type 0
RelationIsMeaning =
    (m : ThreadMeaning) (opening : Opening) → IsSession m opening →
    Means m opening (opening_world opening) (ending_of m opening)
    × ((ending : Ending) → Means m opening (opening_world opening) ending → outcome_of m opening ending ≡ meaning_by m opening)
