-- The rows of the table of operators, by the kind of the first value. The project's own.
use Rattle.std.specs.Prelude.{ℕ, List, ◌++◌, Option, Some, None, Result, Err}
use Rattle.vt_frac.specs.Fraction.{Fraction}
use Rattle.vt_value.specs.declared.arithmetic.ArithOp.{ArithOp}
use Rattle.vt_value.specs.declared.fault.FaultKind.{FaultKind}
use Rattle.vt_value.specs.declared.fault.FaultKind.TheVariants.{WrongKind}
use Rattle.vt_value.specs.declared.value.Value.{Value}
use Rattle.vt_value.specs.Arithmetic.{exact_arith, as_part, joined, text_within, ring_within}

-- a number, one of the two a fraction
abbrev pub number_arith : ArithOp → Fraction → Option Fraction → Result Value FaultKind
number_arith op f None = Err WrongKind
number_arith op f (Some g) = as_part (exact_arith op f g)

abbrev pub text_arith : ArithOp → List ℕ → Option (List ℕ) → Result Value FaultKind
text_arith op bytes None = Err WrongKind
text_arith op bytes (Some others) = joined op (text_within (bytes ++ others))

abbrev pub ring_arith : ArithOp → List Value → Option (List Value) → Result Value FaultKind
ring_arith op items None = Err WrongKind
ring_arith op items (Some others) = joined op (ring_within (items ++ others))
