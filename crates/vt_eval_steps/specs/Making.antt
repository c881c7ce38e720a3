-- How code makes the steps of an evaluation, from one place of it to another, whatever comes after. The project's own.
--
-- Three things can happen. Code makes some steps, and stands at the other place. Or it makes some, and nothing more is noted: then every other place is as good. Or some step has a number of more than 32 bits, which code does not have: no thread comes to it.
use Rattle.std.specs.Prelude.{◌≡◌, ◌⊎◌, ◌≤◌, ℕ, List, ◌∷◌, ◌++◌, Option, Some, None, Result, Ok, Err}
use Rattle.std.specs.List.{AllByRecursion}
use Rattle.vt_value.specs.declared.value.Value.{Value}
use Rattle.vt_run.specs.declared.action.Action.{Action}
use Rattle.vt_run.specs.declared.action.Answer.{Answer}
use Rattle.vt_run.specs.declared.state.State.{State}
use Rattle.vt_run.specs.Evaluation.{Next, Ran, Step, after, gives, halts}
use Rattle.vt_run.specs.Notes.{IsOver, Notes, RestFits, noted, seen}
use Rattle.vt_event.specs.Event.{EventView}
use Rattle.vt_run.specs.Actions.{wakes_with}
use Rattle.vt_eval_steps.specs.declared.run.Run.{Run}
use Rattle.vt_eval_steps.specs.Numbers.{IsTooGreat}

-- a rest of this step ends at a time that a `Frac` has
abbrev pub DoesFit : Step → Type 0
DoesFit step = RestFits step.action

-- these steps lead from the one run to the other
pub record Leaves (from : Ran) (made : List Step) (to : Ran) : Type 0 where
  pub steps : (next : Next) → (after from next).steps ≡ made ++ (after to next).steps
  pub fit : AllByRecursion DoesFit made

-- the steps are made and noted
pub record Passes (from : Ran) (old : Notes) (to : Ran) (new : Notes) : Type 0 where
  pub made : List Step
  pub way : Leaves from made to
  pub notes : new ≡ noted old made

-- the steps are made, and nothing more is noted: they made a stop, or the thread has nothing more to do
pub record Closes (from : Ran) (old new : Notes) : Type 0 where
  pub made : List Step
  pub rest : Ran
  pub way : Leaves from made rest
  pub notes : seen new ≡ seen (noted old made)
  pub over : IsOver new
  pub all : IsOver (noted old made) ⊎ (rest ≡ halts)

-- the steps lead to one whose numbers code does not have
pub record Exceeds (from : Ran) (old : Notes) : Type 0 where
  pub made : List Step
  pub cost : ℕ
  pub action : Action
  pub rest : Ran
  pub way : Leaves from made (record { steps = record { cost = cost; action = Some action } ∷ rest.steps; left = rest.left })
  pub goes_on : IsOver (noted old made) → ⊥
  pub few : (noted old made).count ≤ 4096
  pub great : IsTooGreat action

-- From one place of an evaluation to another: what code makes between the two.
pub data Makes (from : Ran) (old : Notes) (to : Ran) (new : Notes) : Type 0 where
  Passing : Passes from old to new → Makes from old to new
  Closing : Closes from old new → Makes from old to new
  Exceeding : Exceeds from old → Makes from old to new

-- the evaluation comes to its value and to the state after it
abbrev pub Comes : {E : Type 0} → Ran → Notes → Result Value E → Run → Type 0
Comes from old (Ok value) new = Makes from old (gives value new.state) new.notes
Comes from old (Err e) new = Unit {0}

-- what is asked comes to what is found, and goes on with it; where nothing is found nothing more is noted
abbrev pub ComesOn : {A : Type 0} → Option A → ((A → State → Ran) → Ran) → Notes → State → Notes → Type 0
ComesOn (Some found) asks old st new = (go : _ → State → Ran) → Makes (asks go) old (go found st) new
ComesOn None asks old st new = (go : _ → State → Ran) (to : Ran) → Makes (asks go) old to new

-- a wait comes to the event that answers it, before that wakes the thread
abbrev pub WokenOn : Option EventView → ((List (List ℕ) → EventView → State → Ran) → Ran) → Notes → State → Notes → Type 0
WokenOn (Some event) asks old st new = (go : List (List ℕ) → EventView → State → Ran) → Makes (asks go) old (wakes_with event.path event st go) new
WokenOn None asks old st new = (go : List (List ℕ) → EventView → State → Ran) (to : Ran) → Makes (asks go) old to new
