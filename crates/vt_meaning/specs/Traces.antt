-- A thread of a session: what it did so far, and where it stands. After FARM 2014; answers and steps are own.
--
-- A thread is its start, its answers and the number of its steps. All else follows from these: its trace, which is the list of its steps, each ask beside its answer, and its stance.
use Rattle.std.specs.Prelude.{◌≡◌, ℕ, ◌+◌, List, [], ◌∷◌, Bool, true, false, cond, is_some, Option, Some, None, sum_by}
use Rattle.vt_frac.specs.Arithmetic.{sum_of}
use Rattle.vt_frac.specs.Fraction.{Fraction}
use Rattle.vt_path.specs.declared.pattern.Segment.{Segment}
use Rattle.vt_event.specs.declared.place.Place.{Place}
use Rattle.vt_event.specs.Event.{EventView}
use Rattle.vt_run.specs.declared.action.Action.{Action}
use Rattle.vt_run.specs.declared.action.Action.TheVariants.{Emit, Rest, Read, Wait, Spawn, End}
use Rattle.vt_run.specs.declared.action.Answer.{Answer}
use Rattle.vt_run.specs.declared.action.Answer.TheVariants.{Nothing, Found}
use Rattle.vt_run.specs.declared.start.Start.{Start}
use Rattle.vt_run.specs.Actions.{is_past}
use Rattle.vt_run.specs.Evaluation.{Step}
use Rattle.vt_run.specs.Standing.{Stance, Ready, Asks, Waits, Asleep, Over, next_step, place_rested}
use Rattle.vt_meaning.specs.Places.{Before}
use Rattle.vt_meaning.specs.ThreadMeaning.{ThreadMeaning, Wants}

-- a thread: how it started, the answers that it was given, and how many evaluation steps it has done
pub record Thread : Type 0 where
  pub start : Start
  pub answers : List Answer
  pub done : ℕ

-- a step that was done, and the answer that it got where it asks
pub record Entry : Type 0 where
  pub step : Step
  pub answer : Option Answer

-- a thread waits from the place for what is wanted, and it does so by this action
abbrev pub waiting : Place → Wants → Stance
waiting place wants = Waits place wants.pattern wants.stop

abbrev pub wait_for : Place → Wants → Action
wait_for place wants = Wait place wants.pattern wants.stop

-- a read or a wait asks
abbrev pub is_ask : Option Action → Bool
is_ask (Some (Read place pattern)) = true
is_ask (Some (Wait place pattern stop)) = true
is_ask _ = false

-- the steps of a thread, each ask beside its answer, if there is one
abbrev pub paired : List Step → List Answer → List Entry
paired [] answers = []
paired (step ∷ steps) [] = record { step = step; answer = None } ∷ paired steps []
paired (step ∷ steps) (answer ∷ answers) =
    cond (is_ask step.action) (record { step = step; answer = Some answer } ∷ paired steps answers)
    (record { step = step; answer = None } ∷ paired steps (answer ∷ answers))

-- what a thread did so far
unfoldable pub trace : ThreadMeaning → Thread → List Entry
trace m thread = paired (m.acts thread.start thread.answers thread.done) thread.answers

-- where a thread that waited at the place goes on after the event: at its time, one micro step later, as the next step of its own
abbrev pub wake : EventView → Place → Place
wake event place = record { time = event.place.time; micro = event.place.micro + 1; thread = place.thread; step = place.step + 1 }

-- where a thread goes on after a rest
abbrev pub rested : Place → Fraction → Place
rested place seconds = next_step (place_rested seconds place)

-- a rest takes its thread on, to the time after the rest
pub record MovesOn (place : Place) (seconds : Fraction) : Type 0 where
  pub above : Before place (rested place seconds)
  pub time : (rested place seconds).time ≡ sum_of place.time seconds

-- an event without a path wakes nothing
abbrev pub woken_by : EventView → Bool → Place → Stance
woken_by event true place = Ready (wake event place)
woken_by event false place = Over

abbrev pub after_read : Place → List Segment → Option Answer → Stance
after_read place pattern None = Asks place pattern
after_read place pattern (Some answer) = Ready (next_step place)

abbrev pub after_wait : Place → Wants → Option Answer → Stance
after_wait place wants None = waiting place wants
after_wait place wants (Some Nothing) = Over
after_wait place wants (Some (Found event)) = woken_by event (is_some event.path) place

-- a rest that reaches the horizon is the last of its thread
abbrev pub after_rest : Bool → Place → Fraction → Stance
after_rest true place seconds = Asleep (sum_of place.time seconds)
after_rest false place seconds = Ready (rested place seconds)

-- where a thread stands after an action, with the answer that this got
abbrev pub after_action : Fraction → Action → Option Answer → Stance
after_action until (Emit event) answer = Ready (next_step event.place)
after_action until (Rest place seconds) answer = after_rest (is_past until (sum_of place.time seconds)) place seconds
after_action until (Read place pattern) answer = after_read place pattern answer
after_action until (Wait place pattern stop) answer = after_wait place (record { pattern = pattern; stop = stop }) answer
after_action until (Spawn place start) answer = Ready (next_step place)
after_action until (End place reason) answer = Over

-- a step without an action leaves the thread where it stands
abbrev pub after_step : Fraction → Stance → Option Action → Option Answer → Stance
after_step until stance None answer = stance
after_step until stance (Some action) answer = after_action until action answer

-- where a thread stands that stood so and then did this
abbrev pub stands : Fraction → Stance → List Entry → Stance
stands until stance [] = stance
stands until stance (entry ∷ entries) = stands until (after_step until stance entry.step.action entry.answer) entries

-- where a thread that starts so stands after these steps
unfoldable pub standing : ThreadMeaning → Start → List Entry → Stance
standing m start entries = stands m.until (Ready start.place) entries

-- where a thread stands
abbrev pub stance_in : ThreadMeaning → Thread → Stance
stance_in m thread = standing m thread.start (trace m thread)

-- what the steps of a thread have cost
unfoldable pub cost_in : ThreadMeaning → Thread → ℕ
cost_in m thread = sum_by (λ entry. entry.step.cost) (trace m thread)
