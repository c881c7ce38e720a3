-- Numbers apart from other values. The project's own.
use Rattle.std.specs.Prelude.{Result, Ok, Err}
use Rattle.vt_value.specs.declared.fault.FaultKind.{FaultKind}
use Rattle.vt_value.specs.declared.value.Value.{Value}
use Rattle.vt_value.specs.declared.value.Value.TheVariants.{Whole as WholeValue, Part as PartValue}
use Rattle.vt_prim.specs.declared.adding.Number.{Number}
use Rattle.vt_prim.specs.declared.adding.Number.TheVariants.{Whole, Part}

-- a number as a value
abbrev pub value_of : Number → Value
value_of (Whole n) = WholeValue n
value_of (Part f) = PartValue f

-- a number as a value, or the fault in its place
abbrev pub answer_of : Result Number FaultKind → Result Value FaultKind
answer_of (Ok number) = Ok (value_of number)
answer_of (Err kind) = Err kind
