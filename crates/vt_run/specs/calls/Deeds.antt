-- Calls that ask for nothing, do not rest and run no block. The project's own.
--
-- All faults that the arguments and options of a call show come before its first action. So such a call comes to a fault, or to a deed: the events that it publishes, and the value and the state that it leaves.
use Rattle.std.specs.Prelude.{List, [], ◌∷◌, Result, Ok}
use Rattle.vt_ring.specs.Answers.{and_then}
use Rattle.vt_value.specs.declared.fault.FaultKind.{FaultKind}
use Rattle.vt_value.specs.declared.value.Value.{Value}
use Rattle.vt_value.specs.declared.value.Value.TheVariants.{Nil}
use Rattle.vt_event.specs.declared.place.Place.{Place}
use Rattle.vt_event.specs.Event.{EventView}
use Rattle.vt_run.specs.declared.state.State.{State}
use Rattle.vt_run.specs.Actions.{emits_all, or_fails}
use Rattle.vt_run.specs.Environment.{Env}
use Rattle.vt_run.specs.Evaluation.{Ran, Spot, gives}

pub record Deed : Type 0 where
  -- what is published, in order, each event by the place at which it then stands
  pub events : List (Place → EventView)
  pub value : Value
  -- what is left, but for the actions of the events
  pub state : State

-- a value, and nothing else
abbrev pub valued : State → Value → Deed
valued st value = record { events = []; value = value; state = st }

-- another state, and nil
abbrev pub changed_to : State → Deed
changed_to st = record { events = []; value = Nil; state = st }

-- one event, and nil
abbrev pub publishing : State → (Place → EventView) → Deed
publishing st event = record { events = event ∷ []; value = Nil; state = st }

-- what is computed, as a deed
abbrev pub value_of : State → Result Value FaultKind → Result Deed FaultKind
value_of st answer = and_then answer (λ value. Ok (valued st value))

-- the fault, or the deed
abbrev pub done : Result Deed FaultKind → Env → Spot → State → Ran
done deed env at st = or_fails deed env at st (λ d. emits_all d.events env d.state (gives d.value))
