-- What holds of the steps of a thread, one after another: own.
use Rattle.std.specs.Prelude.{◌≡◌, ℕ, ◌+◌, ◌^◌, ◌<◌, ◌≤◌, List, [], ◌∷◌, ◌++◌, length, false, Option, Some}
use Rattle.std.specs.List.{AllByRecursion}
use Rattle.vt_frac.specs.Fraction.{Fraction}
use Rattle.vt_event.specs.declared.kind.Kind.TheVariants.{Fx}
use Rattle.vt_event.specs.declared.place.Place.{Place}
use Rattle.vt_event.specs.Event.{EventView}
use Rattle.vt_event.specs.Order.{IsBefore}
use Rattle.vt_rand.specs.Draw.{RandomStream}
use Rattle.vt_run.specs.declared.action.Action.{Action}
use Rattle.vt_run.specs.declared.action.Action.TheVariants.{Emit, Read, Wait, Spawn}
use Rattle.vt_run.specs.declared.action.Answer.{Answer}
use Rattle.vt_run.specs.declared.action.Answer.TheVariants.{Nothing, Found}
use Rattle.vt_run.specs.declared.start.Start.{Start}
use Rattle.vt_run.specs.declared.texts.Texts.{Texts}
use Rattle.vt_run.specs.Actions.{is_past}
use Rattle.vt_run.specs.Limits.{AreChecked, IsAnswerWithin, IsStartWithin}
use Rattle.vt_run.specs.Evaluation.{Step}
use Rattle.vt_run.specs.Streams.{next_child_seed}
use Rattle.vt_run.specs.Standing.{left_of}

-- what a thread is given is within the limits of the language, and its texts are checked
pub record IsThreadWithin (texts : Texts) (start : Start) (answers : List Answer) : Type 0 where
  pub checked : AreChecked texts
  pub began : IsStartWithin start
  pub answered : AllByRecursion IsAnswerWithin answers

abbrev pub starts_in_one : Option Action → ℕ
starts_in_one (Some (Spawn place start)) = 1
starts_in_one _ = 0

-- how many threads these steps start
abbrev pub starts_in : List Step → ℕ
starts_in [] = 0
starts_in (step ∷ steps) = starts_in_one step.action + starts_in steps

-- A thread that is started at a place, by a starter that has started so many before: its list is that of the starter with its number, from 1; it starts in time and micro step where the starter stands, as step 1, up to the same horizon, with the seed of two words of a stream. No list is longer than 32, and the new thread's place is above that of its start.
pub record IsChild (starter : Start) (place : Place) (before : ℕ) (child : Start) : Type 0 where
  pub thread : child.place.thread ≡ starter.place.thread ++ (before + 1) ∷ []
  pub time : child.place.time ≡ place.time
  pub micro : child.place.micro ≡ place.micro
  pub step : child.place.step ≡ 1
  pub until : child.until ≡ starter.until
  pub nested : length child.place.thread ≤ 32
  pub above : IsBefore place child.place
  pub stream : RandomStream
  pub seed : child.seed ≡ next_child_seed stream

-- an effect has a number of 32 bits, as long as its action has one, where actions are numbered from 1 or more
abbrev pub IsEffectSmall : Start → EventView → Type 0
IsEffectSmall start event = event.kind ≡ Fx → (1 ≤ start.place.step) × (event.place.step < 2 ^ 32)

abbrev pub IsActionSmall : Start → Action → Type 0
IsActionSmall start (Emit event) = IsEffectSmall start event
IsActionSmall start _ = Unit {0}

-- of the answer of a wait this holds, if it is an event
abbrev pub IsFoundSo : (EventView → Type 0) → List Answer → Type 0
IsFoundSo P [] = Unit {0}
IsFoundSo P (Nothing ∷ answers) = Unit {0}
IsFoundSo P (Found event ∷ answers) = P event

-- so for each wait among these actions, by its place
abbrev pub EachWait : (Place → EventView → Type 0) → List Action → List Answer → Type 0
EachWait P [] answers = Unit {0}
EachWait P (Read place pattern ∷ actions) answers = EachWait P actions (left_of answers)
EachWait P (Wait place pattern stop ∷ actions) answers = IsFoundSo (P place) answers × EachWait P actions (left_of answers)
EachWait P (_ ∷ actions) answers = EachWait P actions answers

-- each wait is answered by an event that stands above it
abbrev pub AreAnsweredAbove : List Action → List Answer → Type 0
AreAnsweredAbove actions answers = EachWait (λ place event. IsBefore place event.place) actions answers

-- each wait is answered by an event below the horizon
abbrev pub AreAnsweredBelow : Fraction → List Action → List Answer → Type 0
AreAnsweredBelow until actions answers = EachWait (λ place event. is_past until event.place.time ≡ false) actions answers
