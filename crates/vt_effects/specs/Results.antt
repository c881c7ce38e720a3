-- What a function answers that does a call, beside the definition of the call: own.
use Rattle.std.specs.Prelude.{◌≡◌, ℕ, List, Result, Ok, Err, IsOk}
use Rattle.vt_value.specs.declared.fault.FaultKind.{FaultKind}
use Rattle.vt_value.specs.declared.fault.ValueFault.{ValueFault}
use Rattle.vt_value.specs.declared.fault.ValueFault.TheVariants.{Fault, NoMemory}
use Rattle.vt_value.specs.declared.value.Value.{Value}
use Rattle.vt_event.specs.declared.place.Place.{Place}
use Rattle.vt_event.specs.Event.{EventView}
use Rattle.vt_run.specs.calls.Deeds.{Deed, publishing, valued}
use Rattle.vt_run.specs.declared.state.State.{State}

-- The value of a deed without events, and the state that it leaves. A fault or want of memory changes nothing, and want of memory comes in place of a value only.
abbrev pub Changes : Result Deed FaultKind → State → Result Value ValueFault → State → Type 0
Changes deed old (Ok value) new = deed ≡ Ok (valued new value)
Changes deed old (Err (Fault kind)) new = (deed ≡ Err kind) × (new ≡ old)
Changes deed old (Err NoMemory) new = IsOk deed × (new ≡ old)

-- where a thread stands
abbrev pub place_in : List ℕ → State → Place
place_in thread st = record { time = st.time; micro = st.micro; thread = thread; step = st.step }

-- the same event at another place
abbrev pub at_place : EventView → Place → EventView
at_place event place = record event { place = place }

-- The one event of a deed that publishes it where the thread stands, gives nil and changes nothing. Want of memory comes in place of the event only.
abbrev pub Publishes : Result Deed FaultKind → List ℕ → State → Result EventView ValueFault → Type 0
Publishes deed thread st (Ok event) = (deed ≡ Ok (publishing st (at_place event))) × (event.place ≡ place_in thread st)
Publishes deed thread st (Err (Fault kind)) = deed ≡ Err kind
Publishes deed thread st (Err NoMemory) = IsOk deed

-- The same of a deed that reads a path: want of memory may come in place of bad_path and too_large too.
abbrev pub MayPublish : Result Deed FaultKind → List ℕ → State → Result EventView ValueFault → Type 0
MayPublish deed thread st (Ok event) = (deed ≡ Ok (publishing st (at_place event))) × (event.place ≡ place_in thread st)
MayPublish deed thread st (Err (Fault kind)) = deed ≡ Err kind
MayPublish deed thread st (Err NoMemory) = Unit {0}
