-- Calls that can want for memory, beside a definition that never does. The project's own.
use Rattle.std.specs.Prelude.{◌≡◌, Result, Ok, Err, IsOk}
use Rattle.vt_value.specs.declared.fault.FaultKind.{FaultKind}
use Rattle.vt_value.specs.declared.fault.ValueFault.{ValueFault}
use Rattle.vt_value.specs.declared.fault.ValueFault.TheVariants.{Fault, NoMemory}

-- The result is what the definition gives, value or fault. Want of memory can come in place of a value, never of a fault.
abbrev pub Gives : {T : Type 0} → Result T FaultKind → Result T ValueFault → Type 0
Gives answer (Ok value) = answer ≡ Ok value
Gives answer (Err (Fault kind)) = answer ≡ Err kind
Gives answer (Err NoMemory) = IsOk answer
