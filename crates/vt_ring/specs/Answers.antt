-- How faults go through a call: each step has an answer, a value or a fault, and the first fault is the call's. The project's own.
use Rattle.std.specs.Prelude.{◌≡◌, List, [], ◌∷◌, Result, Ok, Err}
use Rattle.vt_value.specs.declared.fault.FaultKind.{FaultKind}
use Rattle.vt_value.specs.declared.fault.ValueFault.{ValueFault}
use Rattle.vt_value.specs.declared.fault.ValueFault.TheVariants.{Fault, NoMemory}

-- what comes next of the value; a fault stays
abbrev pub and_then : {A B : Type 0} → Result A FaultKind → (A → Result B FaultKind) → Result B FaultKind
and_then (Ok value) next = next value
and_then (Err kind) next = Err kind

-- all the values in order, or the first fault
abbrev pub all_of : {A : Type 0} → List (Result A FaultKind) → Result (List A) FaultKind
all_of [] = Ok []
all_of (answer ∷ answers) = and_then answer (λ value. and_then (all_of answers) (λ values. Ok (value ∷ values)))

-- the result is what the definition gives, or want of memory, which here can come in place of a fault too
abbrev pub MayGive : {T : Type 0} → Result T FaultKind → Result T ValueFault → Type 0
MayGive answer (Ok value) = answer ≡ Ok value
MayGive answer (Err (Fault kind)) = answer ≡ Err kind
MayGive answer (Err NoMemory) = Unit {0}
