-- The order of numbers. The project's own.
use Rattle.std.specs.Prelude.{pos, ◌*ℤ◌, Bool, true, false, Option, Some, Result, Ok, Err}
use Rattle.std.specs.declared.cmp.Ordering.{Ordering}
use Rattle.std.specs.declared.cmp.Ordering.TheVariants.{Less, Equal, Greater}
use Rattle.std.specs.Ordering.{int_cmp}
use Rattle.vt_frac.specs.Fraction.{Fraction}
use Rattle.vt_value.specs.declared.comparison.OrderOp.{OrderOp}
use Rattle.vt_value.specs.declared.comparison.OrderOp.TheVariants.{Lt, Le, Gt, Ge}
use Rattle.vt_value.specs.declared.fault.FaultKind.{FaultKind}
use Rattle.vt_value.specs.declared.fault.FaultKind.TheVariants.{WrongKind}
use Rattle.vt_value.specs.declared.value.Value.{Value}
use Rattle.vt_value.specs.Kinds.{number_of}

-- whether an operator holds of two numbers in this order
abbrev pub holds : OrderOp → Ordering → Bool
holds Lt Less = true
holds Lt Equal = false
holds Lt Greater = false
holds Le Less = true
holds Le Equal = true
holds Le Greater = false
holds Gt Less = false
holds Gt Equal = false
holds Gt Greater = true
holds Ge Less = false
holds Ge Equal = true
holds Ge Greater = true

-- the order of two fractions by their cross products
abbrev pub value_cmp : Fraction → Fraction → Ordering
value_cmp f g = int_cmp (f.numer *ℤ pos g.denom) (g.numer *ℤ pos f.denom)

abbrev pub compare_numbers : OrderOp → Option Fraction → Option Fraction → Result Bool FaultKind
compare_numbers op (Some f) (Some g) = Ok (holds op (value_cmp f g))
compare_numbers op _ _ = Err WrongKind

-- what an order operator gives for two values: a truth for two numbers, and else a fault
abbrev pub compare_of : OrderOp → Value → Value → Result Bool FaultKind
compare_of op a b = compare_numbers op (number_of a) (number_of b)
