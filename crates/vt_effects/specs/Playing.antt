-- What a function answers that plays notes, beside the definition of the call: own.
use Rattle.std.specs.Prelude.{◌≡◌, List, map, Result, Ok, Err, IsOk}
use Rattle.vt_value.specs.declared.fault.FaultKind.{FaultKind}
use Rattle.vt_value.specs.declared.fault.ValueFault.{ValueFault}
use Rattle.vt_value.specs.declared.fault.ValueFault.TheVariants.{Fault, NoMemory}
use Rattle.vt_value.specs.declared.value.Value.{Value}
use Rattle.vt_value.specs.declared.value.Value.TheVariants.{Nil}
use Rattle.vt_event.specs.Pairs.{Pairs}
use Rattle.vt_run.specs.calls.Deeds.{Deed}
use Rattle.vt_run.specs.calls.PlayCalls.{plays_note}
use Rattle.vt_run.specs.declared.state.State.{State}

-- The notes that a deed plays with these options, one event for each, in order. It gives nil and changes nothing. Want of memory comes in place of the notes only.
abbrev pub Plays : Result Deed FaultKind → Pairs → State → Result (List Value) ValueFault → Type 0
Plays deed options st (Ok notes) = deed ≡ Ok (record { events = map (plays_note options st.settings) notes; value = Nil; state = st })
Plays deed options st (Err (Fault kind)) = deed ≡ Err kind
Plays deed options st (Err NoMemory) = IsOk deed
