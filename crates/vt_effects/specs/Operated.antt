-- Operators on the values before and behind them: own.
use Rattle.std.specs.Prelude.{Bool, false, not, Result, Ok}
use Rattle.vt_tree.specs.declared.expression.ChainOp.{ChainOp}
use Rattle.vt_tree.specs.declared.expression.ChainOp.TheVariants.{And, Or, Eq, Ne, Lt, Le, Gt, Ge, Add, Sub, Mul, Div, Rem}
use Rattle.vt_value.specs.declared.arithmetic.ArithOp.TheVariants as arith
use Rattle.vt_value.specs.declared.comparison.OrderOp.TheVariants as order
use Rattle.vt_value.specs.declared.fault.FaultKind.{FaultKind}
use Rattle.vt_value.specs.declared.value.Value.{Value}
use Rattle.vt_value.specs.declared.value.Value.TheVariants.{Bool as Truth}
use Rattle.vt_value.specs.Arithmetic.{arith_of}
use Rattle.vt_value.specs.Kinds.{is_truthy}
use Rattle.vt_value.specs.Same.{same_as}
use Rattle.vt_run.specs.Operators.{compares}

-- the value before the operator is its result already: `and` of an untrue value, `or` of a true one
abbrev pub is_decided : ChainOp → Value → Bool
is_decided And value = not (is_truthy value)
is_decided Or value = is_truthy value
is_decided _ value = false

-- what an operator makes of the values before and behind it, where the first does not decide
abbrev pub operated : ChainOp → Value → Value → Result Value FaultKind
operated And value other = Ok other
operated Or value other = Ok other
operated Eq value other = Ok (Truth (same_as value other))
operated Ne value other = Ok (Truth (not (same_as value other)))
operated Lt value other = compares order.Lt value other
operated Le value other = compares order.Le value other
operated Gt value other = compares order.Gt value other
operated Ge value other = compares order.Ge value other
operated Add value other = arith_of arith.Add value other
operated Sub value other = arith_of arith.Sub value other
operated Mul value other = arith_of arith.Mul value other
operated Div value other = arith_of arith.Div value other
operated Rem value other = arith_of arith.Rem value other
