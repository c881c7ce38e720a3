-- Arithmetic on values. The project's own.
use Rattle.std.specs.Prelude.{ℕ, zero, suc, ◌+◌, ◌^◌, ℤ, pos, negsuc, ◌+ℤ◌, ◌-ℤ◌, ◌*ℤ◌, unsigned_abs, List, length, ◌++◌, cond, ◌&&◌, Bool, nat_lt, nat_le, Result, Ok, Err}
use Rattle.vt_frac.specs.declared.fault.FracFault.{FracFault}
use Rattle.vt_frac.specs.declared.fault.FracFault.TheVariants.{Zero, Overflow as PartOverflow}
use Rattle.vt_frac.specs.Arithmetic.{sum_of, difference_of, product_of, quotient_of, floor_of, remainder_of}
use Rattle.vt_frac.specs.Fraction.{Fraction, whole, fitted, reduced, unless_zero}
use Rattle.vt_value.specs.declared.arithmetic.ArithOp.{ArithOp}
use Rattle.vt_value.specs.declared.arithmetic.ArithOp.TheVariants.{Add, Sub, Mul, Div, Rem}
use Rattle.vt_value.specs.declared.fault.FaultKind.{FaultKind}
use Rattle.vt_value.specs.declared.fault.FaultKind.TheVariants.{Overflow, ZeroDivisor, WrongKind, TooLarge}
use Rattle.vt_value.specs.declared.value.Value.{Value, out-Value}
use Rattle.vt_value.specs.declared.value.Value.TheVariants.{Whole, Part, Text, Ring}
use Rattle.vt_value.specs.declared.value.Value.TheOpen.{Value-F}
use Rattle.vt_value.specs.Sizes.{sizes_of}

-- a whole number of at most 2^63 - 1 in size, or overflow
abbrev pub fitting : ℤ → Result ℤ FaultKind
fitting z = cond (nat_lt (unsigned_abs z) (2 ^ 63)) (Ok z) (Err Overflow)

-- m / n rounded down: the greatest whole number not above the exact quotient
unfoldable pub floor_div : ℤ → ℤ → ℤ
floor_div m n = floor_of (reduced m n)

-- what is left of m after so many times n: it has the sign of n
unfoldable pub floor_rem : ℤ → ℤ → ℤ
floor_rem m n = m -ℤ floor_div m n *ℤ n

abbrev pub unless_zero_divisor : ℤ → Result ℤ FaultKind → Result ℤ FaultKind
unless_zero_divisor (pos zero) answer = Err ZeroDivisor
unless_zero_divisor (pos (suc n)) answer = answer
unless_zero_divisor (negsuc n) answer = answer

-- two whole numbers
abbrev pub whole_arith : ArithOp → ℤ → ℤ → Result ℤ FaultKind
whole_arith Add m n = fitting (m +ℤ n)
whole_arith Sub m n = fitting (m -ℤ n)
whole_arith Mul m n = fitting (m *ℤ n)
whole_arith Div m n = unless_zero_divisor n (fitting (floor_div m n))
whole_arith Rem m n = unless_zero_divisor n (fitting (floor_rem m n))

-- the exact fraction, or overflow where it does not fit, or the divisor is 0
abbrev pub exact_arith : ArithOp → Fraction → Fraction → Result Fraction FracFault
exact_arith Add f g = fitted (sum_of f g)
exact_arith Sub f g = fitted (difference_of f g)
exact_arith Mul f g = fitted (product_of f g)
exact_arith Div f g = unless_zero g.numer (fitted (quotient_of f g))
exact_arith Rem f g = unless_zero g.numer (fitted (remainder_of f g))

-- a whole number as a value
abbrev pub as_whole : Result ℤ FaultKind → Result Value FaultKind
as_whole (Ok n) = Ok (Whole n)
as_whole (Err kind) = Err kind

-- a fraction as a value
abbrev pub as_part : Result Fraction FracFault → Result Value FaultKind
as_part (Ok f) = Ok (Part f)
as_part (Err Zero) = Err ZeroDivisor
as_part (Err PartOverflow) = Err Overflow

-- a text of at most 4,096 bytes
abbrev pub text_within : List ℕ → Result Value FaultKind
text_within bytes = cond (nat_le (length bytes) 4096) (Ok (Text bytes)) (Err TooLarge)

-- at most 4,096 items, and as a ring a size of at most 65,536
abbrev pub are_within : List Value → Bool
are_within items = nat_le (length items) 4096 && nat_le (1 + sizes_of items) 65536

-- a ring within these limits
abbrev pub ring_within : List Value → Result Value FaultKind
ring_within items = cond (are_within items) (Ok (Ring items)) (Err TooLarge)

-- texts and rings can only be joined
abbrev pub joined : ArithOp → Result Value FaultKind → Result Value FaultKind
joined Add answer = answer
joined _ answer = Err WrongKind

-- by the kinds of the two values
abbrev pub arith_layers : ArithOp → Value-F Value → Value-F Value → Result Value FaultKind
arith_layers op (Value-F.Whole m) (Value-F.Whole n) = as_whole (whole_arith op m n)
arith_layers op (Value-F.Whole m) (Value-F.Part g) = as_part (exact_arith op (whole m) g)
arith_layers op (Value-F.Part f) (Value-F.Whole n) = as_part (exact_arith op f (whole n))
arith_layers op (Value-F.Part f) (Value-F.Part g) = as_part (exact_arith op f g)
arith_layers op (Value-F.Text s) (Value-F.Text t) = joined op (text_within (s ++ t))
arith_layers op (Value-F.Ring xs) (Value-F.Ring ys) = joined op (ring_within (xs ++ ys))
arith_layers op _ _ = Err WrongKind

-- what an operator gives for two values, or its fault
abbrev pub arith_of : ArithOp → Value → Value → Result Value FaultKind
arith_of op a b = arith_layers op (out-Value a) (out-Value b)
