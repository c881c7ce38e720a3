-- What arithmetic on values gives is within the limits of the language.
use Rattle.std.specs.Prelude.{neg_ℤ, ◌+ℤ◌, ◌-ℤ◌, ◌*ℤ◌}
use Rattle.std.specs.Result.{IfOk}
use Rattle.std.proofs.Common.{◌≡◌, zero, suc, ℤ, pos, negsuc, unsigned_abs, ◌++◌, Result, Ok, Err, refl}
use Rattle.std.proofs.lemmas.Result.{IfOk-at_ok}
use Rattle.vt_frac.specs.declared.fault.FracFault.{FracFault}
use Rattle.vt_frac.specs.declared.fault.FracFault.TheVariants.{Zero, Overflow}
use Rattle.vt_frac.specs.Arithmetic.{difference_of, product_of, quotient_of, remainder_of, sum_of}
use Rattle.vt_frac.specs.Fraction.{Fraction, IsFraction, fitted, unless_zero, whole}
use Rattle.vt_value.specs.declared.arithmetic.ArithOp.{ArithOp}
use Rattle.vt_value.specs.declared.arithmetic.ArithOp.TheVariants.{Add, Sub, Mul, Div, Rem}
use Rattle.vt_value.specs.declared.fault.FaultKind.{FaultKind}
use Rattle.vt_value.specs.declared.value.Value.{Value, out-Value}
use Rattle.vt_value.specs.declared.value.Value.TheVariants.{Whole, Part}
use Rattle.vt_value.specs.declared.value.Value.TheOpen.{Value-F}
use Rattle.vt_value.specs.Arithmetic.{arith_layers, arith_of, as_part, as_whole, exact_arith, fitting, floor_div, floor_rem, joined, ring_within, text_within, unless_zero_divisor, whole_arith}
use Rattle.vt_value.specs.Kinds.{items_layer}
use Rattle.vt_value.specs.Limits.{IsWithin, AreWithin}
use Rattle.vt_ring.proofs.Elements.{each_append}
use Rattle.vt_ring.proofs.limits.Fractions.{fitted_gives, lowest_difference, lowest_product, lowest_quotient, lowest_remainder, lowest_sum}
use Rattle.vt_ring.proofs.limits.Values.{IsWholeWithin, fitting_gives, ring_within_gives, text_within_gives, within_items, within_part, within_whole}

unless_zero_divisor_gives : (n : ℤ) (answer : Result ℤ FaultKind) (P : ℤ → Type 0) → IfOk answer P → IfOk (unless_zero_divisor n answer) P
unless_zero_divisor_gives (pos zero) answer P h = tt
unless_zero_divisor_gives (pos (suc n)) answer P h = h
unless_zero_divisor_gives (negsuc n) answer P h = h

unless_zero_gives : (n : ℤ) (answer : Result Fraction FracFault) (P : Fraction → Type 0) → IfOk answer P → IfOk (unless_zero n answer) P
unless_zero_gives (pos zero) answer P h = tt
unless_zero_gives (pos (suc n)) answer P h = h
unless_zero_gives (negsuc n) answer P h = h

pub whole_arith_gives : (op : ArithOp) (m n : ℤ) → IfOk (whole_arith op m n) IsWholeWithin
whole_arith_gives Add m n = fitting_gives (m +ℤ n)
whole_arith_gives Sub m n = fitting_gives (m -ℤ n)
whole_arith_gives Mul m n = fitting_gives (m *ℤ n)
whole_arith_gives Div m n = unless_zero_divisor_gives n (fitting (floor_div m n)) IsWholeWithin (fitting_gives (floor_div m n))
whole_arith_gives Rem m n = unless_zero_divisor_gives n (fitting (floor_rem m n)) IsWholeWithin (fitting_gives (floor_rem m n))

pub exact_arith_gives : (op : ArithOp) (f g : Fraction) → IfOk (exact_arith op f g) IsFraction
exact_arith_gives Add f g = fitted_gives (sum_of f g) (lowest_sum f g)
exact_arith_gives Sub f g = fitted_gives (difference_of f g) (lowest_difference f g)
exact_arith_gives Mul f g = fitted_gives (product_of f g) (lowest_product f g)
exact_arith_gives Div f g = unless_zero_gives g.numer (fitted (quotient_of f g)) IsFraction (fitted_gives (quotient_of f g) (lowest_quotient f g))
exact_arith_gives Rem f g = unless_zero_gives g.numer (fitted (remainder_of f g)) IsFraction (fitted_gives (remainder_of f g) (lowest_remainder f g))

pub as_whole_if : (answer : Result ℤ FaultKind) (P : Value → Type 0) → ((n : ℤ) → IsWholeWithin n → P (Whole n)) → IfOk answer IsWholeWithin → IfOk (as_whole answer) P
as_whole_if (Ok n) P k h = k n h
as_whole_if (Err kind) P k h = tt

pub as_part_if : (answer : Result Fraction FracFault) (P : Value → Type 0) → ((f : Fraction) → IsFraction f → P (Part f)) → IfOk answer IsFraction → IfOk (as_part answer) P
as_part_if (Ok f) P k h = k f h
as_part_if (Err Zero) P k h = tt
as_part_if (Err Overflow) P k h = tt

joined_gives : (op : ArithOp) (answer : Result Value FaultKind) → IfOk answer IsWithin → IfOk (joined op answer) IsWithin
joined_gives Add answer h = h
joined_gives Sub answer h = tt
joined_gives Mul answer h = tt
joined_gives Div answer h = tt
joined_gives Rem answer h = tt

by_layers : (op : ArithOp) (a b : Value-F Value) → AreWithin (items_layer a) → AreWithin (items_layer b) → IfOk (arith_layers op a b) IsWithin
by_layers op (Value-F.Whole m) (Value-F.Whole n) h k = as_whole_if (whole_arith op m n) IsWithin within_whole (whole_arith_gives op m n)
by_layers op (Value-F.Whole m) (Value-F.Part g) h k = as_part_if (exact_arith op (whole m) g) IsWithin within_part (exact_arith_gives op (whole m) g)
by_layers op (Value-F.Part f) (Value-F.Whole n) h k = as_part_if (exact_arith op f (whole n)) IsWithin within_part (exact_arith_gives op f (whole n))
by_layers op (Value-F.Part f) (Value-F.Part g) h k = as_part_if (exact_arith op f g) IsWithin within_part (exact_arith_gives op f g)
by_layers op (Value-F.Text s) (Value-F.Text t) h k = joined_gives op (text_within (s ++ t)) (text_within_gives (s ++ t))
by_layers op (Value-F.Ring xs) (Value-F.Ring ys) h k = joined_gives op (ring_within (xs ++ ys)) (ring_within_gives (xs ++ ys) (each_append IsWithin xs ys h k))
by_layers op _ _ h k = tt

pub arith_gives : (op : ArithOp) (a b : Value) → IsWithin a → IsWithin b → IfOk (arith_of op a b) IsWithin
arith_gives op a b h k = by_layers op (out-Value a) (out-Value b) (within_items a h) (within_items b k)

pub arith_within : (op : ArithOp) (a b v : Value) → IsWithin a → IsWithin b → arith_of op a b ≡ Ok v → IsWithin v
arith_within op a b v h k e = IfOk-at_ok IsWithin e (arith_gives op a b h k)

pub size-negated : (n : ℤ) → unsigned_abs (neg_ℤ n) ≡ unsigned_abs n
size-negated (pos zero) = refl
size-negated (pos (suc n)) = refl
size-negated (negsuc n) = refl
