-- The evaluation of a part of a text: its steps, and what it leaves. That a sequence does what its first part does and then what the rest does from there is after FARM 2014; steps and costs are own.
use Rattle.std.specs.Prelude.{ℕ, zero, suc, List, [], ◌∷◌, ◌++◌, Option, Some, None}
use Rattle.vt_value.specs.declared.value.Value.{Value}
use Rattle.vt_run.specs.declared.action.Action.{Action}
use Rattle.vt_run.specs.declared.state.State.{State}

-- a step of an evaluation: its cost, and at most one action
pub record Step : Type 0 where
  pub cost : ℕ
  pub action : Option Action

-- what an evaluation leaves: its value, and where the thread stands
pub record Left : Type 0 where
  pub value : Value
  pub state : State

-- the steps of an evaluation, and what it leaves. It leaves nothing where the thread ended, asked and has no further answer, waited and was answered by what wakes nothing, or rested to its horizon, and where the bound on turns and calls ran out.
pub record Ran : Type 0 where
  pub steps : List Step
  pub left : Option Left

-- where a part of a text stands: how deep, and in the statement of which line
pub record Spot : Type 0 where
  pub depth : ℕ
  pub line : ℕ

-- the evaluation of a part of a text, at its spot and from where the thread stands
abbrev pub Evaluation : Type 0
Evaluation = Spot → State → Ran

-- what comes next, from what an evaluation leaves
abbrev pub Next : Type 0
Next = Value → State → Ran

-- no step: a value is left
abbrev pub gives : Next
gives value st = record { steps = []; left = Some (record { value = value; state = st }) }

-- no step, and nothing is left
abbrev pub halts : Ran
halts = record { steps = []; left = None }

-- one step more, before those of the run
abbrev pub step : Step → Ran → Ran
step s ran = record { steps = s ∷ ran.steps; left = ran.left }

-- these steps, and then what comes next from what they leave
abbrev pub goes_on : List Step → Option Left → Next → Ran
goes_on steps None next = record { steps = steps; left = None }
goes_on steps (Some l) next = record { steps = steps ++ (next l.value l.state).steps; left = (next l.value l.state).left }

-- an evaluation, and then what comes next from what it leaves
abbrev pub after : Ran → Next → Ran
after ran next = goes_on ran.steps ran.left next

-- a step without an action
abbrev pub spends : ℕ → Ran → Ran
spends cost ran = step (record { cost = cost; action = None }) ran

-- the step of a statement, a node, a turn or a call as it begins
abbrev pub tick : Ran → Ran
tick ran = spends 1 ran

-- the step of a size as it is known; a size of 0 makes none
abbrev pub charges : ℕ → Ran → Ran
charges zero ran = ran
charges (suc size) ran = spends (suc size) ran

-- the step of an action, with its whole cost
abbrev pub does : ℕ → Action → Ran → Ran
does cost action ran = step (record { cost = cost; action = Some action }) ran
