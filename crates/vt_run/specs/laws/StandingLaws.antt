-- The laws of where a thread stands: what orders many threads stands on these, and on those of `StepLaws`.
use Rattle.std.specs.Prelude.{◌≡◌, ℕ, ◌+◌, ◌<◌, ◌≤◌, List, [], ◌∷◌, ◌++◌, length, cond, is_some, Option, Some}
use Rattle.vt_frac.specs.Arithmetic.{sum_of}
use Rattle.vt_frac.specs.Fraction.{Fraction, fits}
use Rattle.vt_path.specs.declared.pattern.Segment.{Segment}
use Rattle.vt_value.specs.declared.fault.FaultKind.TheVariants.{Overflow}
use Rattle.vt_value.specs.declared.value.Value.{Value}
use Rattle.vt_event.specs.declared.place.Place.{Place}
use Rattle.vt_event.specs.EventsByKind.{fault_event}
use Rattle.vt_event.specs.Order.{IsBefore}
use Rattle.vt_run.specs.declared.action.Action.{Action}
use Rattle.vt_run.specs.declared.action.Action.TheVariants.{Emit, Rest, Wait}
use Rattle.vt_run.specs.declared.action.Answer.{Answer}
use Rattle.vt_run.specs.declared.action.Answer.TheVariants.{Nothing, Found}
use Rattle.vt_run.specs.declared.role.Role.TheVariants.{Timed}
use Rattle.vt_run.specs.declared.start.Start.{Start}
use Rattle.vt_run.specs.declared.texts.Texts.{Texts}
use Rattle.vt_run.specs.Actions.{stop_pattern}
use Rattle.vt_run.specs.Evaluation.{Step}
use Rattle.vt_run.specs.Pieces.{actions_of}
use Rattle.vt_run.specs.Standing.{Stance, Ready, Asks, Waits, Asleep, Over, action_place, next_place, next_step, place_woken, stands_at}
use Rattle.vt_run.specs.laws.StepFacts.{AreAnsweredAbove, EachWait, IsThreadWithin}
use Rattle.vt_run.specs.laws.StepLaws.{IsStep}
use Rattle.vt_run.specs.Threads.{acts}

-- these are the first steps of a thread
pub record AreSteps (texts : Texts) (start : Start) (answers : List Answer) (steps : List Step) : Type 0 where
  pub bound : ℕ
  pub rest : List Step
  pub whole : acts texts start answers bound ≡ steps ++ rest

-- An action stands before the place of the next one, also where no other follows; so too a read or a wait that has its answer. The waits are answered by what stands above them.
abbrev pub NextPlaceLaw : Type 0
NextPlaceLaw =
    (texts : Texts) (start : Start) (answers : List Answer) (prefix between : List Step) (step : Step) (action : Action) →
    IsThreadWithin texts start answers → AreAnsweredAbove (actions_of (prefix ++ step ∷ between)) answers →
    AreSteps texts start answers (prefix ++ step ∷ between) → step.action ≡ Some action →
    IsBefore (action_place action) (next_place start answers (prefix ++ step ∷ between))

-- each action stands in the thread that does it
abbrev pub ThreadLaw : Type 0
ThreadLaw =
    (texts : Texts) (start : Start) (answers : List Answer) (prefix : List Step) (step : Step) (action : Action) →
    IsStep texts start answers prefix step → step.action ≡ Some action → (action_place action).thread ≡ start.place.thread

-- The micro step of the next place is at most any number that is not below that of the start, and is above those of all events that answered the waits: so it is at most that of the start, or one more than the greatest of those of the events.
abbrev pub MicroLaw : Type 0
MicroLaw =
    (start : Start) (answers : List Answer) (steps : List Step) (most : ℕ) →
    start.place.micro ≤ most →
    EachWait (λ place event. event.place.micro < most) (actions_of steps) answers →
    (next_place start answers steps).micro ≤ most

-- the number of the next action is at most that of the first and the number of the steps that are done
abbrev pub StepCountLaw : Type 0
StepCountLaw =
    (start : Start) (answers : List Answer) (steps : List Step) → (next_place start answers steps).step ≤ start.place.step + length steps

-- a wait asks for the stop of its thread too, where that is the thread of a live loop, and for no other stop
abbrev pub StopsLaw : Type 0
StopsLaw =
    (texts : Texts) (start : Start) (answers : List Answer) (prefix : List Step) (step : Step) (place : Place) (pattern : List Segment) (stop : Option (List Segment)) →
    IsStep texts start answers prefix step → step.action ≡ Some (Wait place pattern stop) → stop ≡ stop_pattern start.role

-- what a thread of `at` does first: it rests; where the time after that does not fit, it tells its fault, with the line of the `at`
abbrev pub first_rest : Place → Fraction → ℕ → Action
first_rest place rest line = cond (fits (sum_of place.time rest)) (Rest place rest) (Emit (fault_event place Overflow line))

abbrev pub TimedLaw : Type 0
TimedLaw =
    (texts : Texts) (start : Start) (answers : List Answer) (step : Step) (rest : Fraction) (value : Value) (line : ℕ) →
    start.role ≡ Timed rest value line → IsStep texts start answers [] step → step.action ≡ Some (first_rest start.place rest line)

-- a step stands behind these, and where it has an action, that stands at this place, which is the next one
pub record GoesOnAt (texts : Texts) (start : Start) (answers : List Answer) (steps : List Step) (place : Place) : Type 0 where
  pub here : place ≡ next_place start answers steps
  pub step : Step
  pub there : IsStep texts start answers steps step
  pub placed : (action : Action) → step.action ≡ Some action → action_place action ≡ place

-- no step stands behind these
abbrev pub AreAllSteps : Texts → Start → List Answer → List Step → Type 0
AreAllSteps texts start answers steps = (bound : ℕ) → length steps ≤ bound → acts texts start answers bound ≡ steps

-- no step stands behind these, and the next place is one step after this one, at which the thread asks
pub record HaltsAt (texts : Texts) (start : Start) (answers : List Answer) (steps : List Step) (place : Place) : Type 0 where
  pub here : next_step place ≡ next_place start answers steps
  pub all : AreAllSteps texts start answers steps

-- What is next of a thread that stands so after these steps: it goes on where it is ready, and no step is behind these elsewhere.
abbrev pub IsNext : Texts → Start → List Answer → List Step → Stance → Type 0
IsNext texts start answers steps (Ready place) = GoesOnAt texts start answers steps place
IsNext texts start answers steps (Asks place pattern) = HaltsAt texts start answers steps place
IsNext texts start answers steps (Waits place pattern stop) = HaltsAt texts start answers steps place
IsNext texts start answers steps (Asleep time) = AreAllSteps texts start answers steps
IsNext texts start answers steps Over = AreAllSteps texts start answers steps

abbrev pub StandingLaw : Type 0
StandingLaw =
    (texts : Texts) (start : Start) (answers : List Answer) (steps : List Step) →
    AreSteps texts start answers steps → IsNext texts start answers steps (stands_at start answers steps)

-- where a thread that waited stands with this answer
abbrev pub stance_woken : Answer → Place → Stance
stance_woken Nothing place = Over
stance_woken (Found event) place = cond (is_some event.path) (Ready (next_step (place_woken (Found event ∷ []) place))) Over

-- what an answer makes of a stance: a read is ready behind its place, a wait is ready at the event that woke it, or is over
abbrev pub stance_with : Answer → Stance → Stance
stance_with answer (Asks place pattern) = Ready (next_step place)
stance_with answer (Waits place pattern stop) = stance_woken answer place
stance_with answer stance = stance

-- a further answer moves a thread that asks or waits, and no other; its steps stay
abbrev pub AnswerLaw : Type 0
AnswerLaw =
    (texts : Texts) (start : Start) (answers : List Answer) (answer : Answer) (steps : List Step) →
    AreSteps texts start answers steps → stands_at start (answers ++ answer ∷ []) steps ≡ stance_with answer (stands_at start answers steps)
