-- How the start of a thread is told, and how the next number or the next item of a turn is taken. The project's own.
use Rattle.std.specs.Prelude.{◌≡◌, ◌<◌, ◌≤◌, ℕ, ◌+◌, pos, List, [], ◌∷◌, Option, Some, None}
use Rattle.vt_value.specs.declared.value.Value.{Value}
use Rattle.vt_value.specs.declared.value.Value.TheVariants.{Whole}
use Rattle.vt_event.specs.EventsByKind.{started_event}
use Rattle.vt_run.specs.declared.state.State.{State}
use Rattle.vt_run.specs.Actions.{emits}
use Rattle.vt_run.specs.Environment.{Env}
use Rattle.vt_run.specs.Evaluation.{Ran, tick}
use Rattle.vt_run.specs.Notes.{Notes}
use Rattle.vt_run.specs.calls.LoopCalls.{turn_begun}
use Rattle.vt_eval_steps.specs.Making.{Makes}
use Rattle.vt_eval_steps.specs.Turns.{loops_left}

-- the start of a thread is told at the path of its name, if it has one
abbrev pub tells_start : Option (List (List ℕ)) → Env → State → (State → Ran) → Ran
tells_start None env st go = go st
tells_start (Some path) env st go = emits (λ place. started_event place path) env st go

-- the turn of the next number below an end begins, with its step; or there is none
abbrev pub TakesNumber : Option (List Value) → ℕ → ℕ → Notes → ℕ → Notes → Type 0
TakesNumber (Some values) next end old later new =
    (next < end) × (later ≡ next + 1) × (values ≡ Whole (pos next) ∷ []) × ((ran : Ran) → Makes (tick ran) old ran new)
TakesNumber None next end old later new = (end ≤ next) × (later ≡ next) × (new ≡ old)

-- the turn of the next item begins, with its step; or there is none
abbrev pub TakesItem : Option (List Value) → List Value → Notes → List Value → Notes → Type 0
TakesItem (Some (item ∷ [])) items old later new = (items ≡ item ∷ later) × ((ran : Ran) → Makes (tick ran) old ran new)
TakesItem (Some values) items old later new = ⊥
TakesItem None items old later new = (items ≡ []) × (later ≡ []) × (new ≡ old)

-- the next turn of a loop begins, with its step; or there is none
abbrev pub TakesTurn : Option (List Value) → Option ℕ → State → Notes → Option ℕ → State → Notes → Type 0
TakesTurn (Some []) left st old later end new = (loops_left left ≡ loops_left later + 1) × (end ≡ turn_begun st) × ((ran : Ran) → Makes (tick ran) old ran new)
TakesTurn (Some values) left st old later end new = ⊥
TakesTurn None left st old later end new = (left ≡ None) × (later ≡ None) × (end ≡ st) × (new ≡ old)
