-- The limits of a ring. The project's own.
use Rattle.std.specs.Prelude.{List, cond, Result, Ok, Err}
use Rattle.vt_value.specs.declared.fault.FaultKind.{FaultKind}
use Rattle.vt_value.specs.declared.fault.FaultKind.TheVariants.{TooLarge}
use Rattle.vt_value.specs.declared.value.Value.{Value}
use Rattle.vt_value.specs.Arithmetic.{are_within}

-- the items, or too_large where they are more than 4,096, or their ring has a size above 65,536
abbrev pub within_limits : List Value → Result (List Value) FaultKind
within_limits items = cond (are_within items) (Ok items) (Err TooLarge)
