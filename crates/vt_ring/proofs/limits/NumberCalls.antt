-- What the calls on numbers give is within the limits of the language.
use Rattle.std.specs.Prelude.{if◌then◌else◌, neg_ℤ}
use Rattle.std.specs.Int.{int_div_euclid}
use Rattle.std.specs.Result.{IfOk}
use Rattle.std.proofs.Common.{ℕ, ◌<◌, ◌^◌, ℤ, pos, negsuc, Bool, true, false, not, List, Ok, sym, subst, arith}
use Rattle.std.proofs.Math.Nat.{div-le_self}
use Rattle.vt_frac.specs.Arithmetic.{floor_of}
use Rattle.vt_frac.specs.Fraction.{Fraction, IsFraction}
use Rattle.vt_value.specs.declared.arithmetic.ArithOp.TheVariants.{Add, Sub}
use Rattle.vt_value.specs.declared.comparison.OrderOp.TheVariants.{Lt, Gt}
use Rattle.vt_value.specs.declared.value.Value.{Value}
use Rattle.vt_value.specs.declared.value.Value.TheVariants.{Whole}
use Rattle.vt_value.specs.Arithmetic.{arith_of}
use Rattle.vt_value.specs.Comparison.{compare_of}
use Rattle.vt_value.specs.Limits.{IsWithin, AreWithin}
use Rattle.vt_ring.specs.Exact.{exact_sum}
use Rattle.vt_ring.specs.NumberCalls.{abs_call, ceil_call, ceiling_of, dec_call, even_call, floor_call, half, inc_call, is_even, max_call, min_call, odd_call, round_call}
use Rattle.vt_ring.specs.Signatures.{a_number, a_whole, one_of, two_of}
use Rattle.vt_ring.proofs.limits.Arguments.{a_number_gives, one_gives, two_give}
use Rattle.vt_ring.proofs.limits.Arithmetic.{arith_gives, size-negated}
use Rattle.vt_ring.proofs.limits.Answers.{and_then_any, and_then_gives, if_gives}
use Rattle.vt_ring.proofs.limits.Fractions.{sum_gives}
use Rattle.vt_ring.proofs.limits.Values.{IsWholeWithin, within_bool, within_whole}

either : (test : Bool) (a b : Value) → IsWithin a → IsWithin b → IsWithin (if test then a else b)
either true a b h k = h
either false a b h k = k

pub min_gives : (args : List Value) → AreWithin args → IfOk (min_call args) IsWithin
unfolding min_call
min_gives args h =
    and_then_gives (two_of args) _ _ IsWithin (two_give args h) (λ both w.
    and_then_any (compare_of Lt both.1 both.0) _ IsWithin (λ below.
    either below both.1 both.0 w.1 w.0))

pub max_gives : (args : List Value) → AreWithin args → IfOk (max_call args) IsWithin
unfolding max_call
max_gives args h =
    and_then_gives (two_of args) _ _ IsWithin (two_give args h) (λ both w.
    and_then_any (compare_of Gt both.1 both.0) _ IsWithin (λ above.
    either above both.1 both.0 w.1 w.0))

pub abs_gives : (args : List Value) → AreWithin args → IfOk (abs_call args) IsWithin
unfolding abs_call
abs_gives args h =
    and_then_gives (one_of args) _ _ IsWithin (one_gives args h) (λ n w.
    and_then_any (compare_of Lt n (Whole (pos 0))) _ IsWithin (λ below.
    if_gives below (arith_of Sub (Whole (pos 0)) n) (Ok n) IsWithin (arith_gives Sub (Whole (pos 0)) n (within_whole (pos 0) (omega arith)) w) w))

pub inc_gives : (args : List Value) → AreWithin args → IfOk (inc_call args) IsWithin
unfolding inc_call
inc_gives args h = and_then_gives (one_of args) _ _ IsWithin (one_gives args h) (λ n w. arith_gives Add n (Whole (pos 1)) w (within_whole (pos 1) (omega arith)))

pub dec_gives : (args : List Value) → AreWithin args → IfOk (dec_call args) IsWithin
unfolding dec_call
dec_gives args h = and_then_gives (one_of args) _ _ IsWithin (one_gives args h) (λ n w. arith_gives Sub n (Whole (pos 1)) w (within_whole (pos 1) (omega arith)))

-- a quotient that is rounded down is no larger in size
quotient_fits : (n : ℤ) (d : ℕ) → IsWholeWithin n → IsWholeWithin (int_div_euclid n (pos d))
quotient_fits (pos n) d h = omega (arith, div-le_self n d)
quotient_fits (negsuc n) d h = omega (arith, div-le_self n d)

pub floor_fits : (f : Fraction) → IsFraction f → IsWholeWithin (floor_of f)
unfolding floor_of
floor_fits f h = quotient_fits f.numer f.denom h.numer_fits

negated_fits : (n : ℤ) → IsWholeWithin n → IsWholeWithin (neg_ℤ n)
negated_fits n h = subst (λ k. k < 2 ^ 63) (sym (size-negated n)) h

ceiling_fits : (f : Fraction) → IsFraction f → IsWholeWithin (ceiling_of f)
unfolding ceiling_of
ceiling_fits f h = negated_fits (int_div_euclid (neg_ℤ f.numer) (pos f.denom)) (quotient_fits (neg_ℤ f.numer) f.denom (negated_fits f.numer h.numer_fits))

pub floor_gives : (args : List Value) → AreWithin args → IfOk (floor_call args) IsWithin
unfolding floor_call
floor_gives args h = and_then_gives (a_number args) _ _ IsWithin (a_number_gives args h) (λ f w. within_whole (floor_of f) (floor_fits f w))

pub ceil_gives : (args : List Value) → AreWithin args → IfOk (ceil_call args) IsWithin
unfolding ceil_call
ceil_gives args h = and_then_gives (a_number args) _ _ IsWithin (a_number_gives args h) (λ f w. within_whole (ceiling_of f) (ceiling_fits f w))

pub round_gives : (args : List Value) → AreWithin args → IfOk (round_call args) IsWithin
unfolding round_call
round_gives args h =
    and_then_any (a_number args) _ IsWithin (λ f.
    and_then_gives (exact_sum f half) _ _ IsWithin (sum_gives f half) (λ g w.
    within_whole (floor_of g) (floor_fits g w)))

pub even_gives : (args : List Value) → IfOk (even_call args) IsWithin
unfolding even_call
even_gives args = and_then_any (a_whole args) _ IsWithin (λ n. within_bool (is_even n))

pub odd_gives : (args : List Value) → IfOk (odd_call args) IsWithin
unfolding odd_call
odd_gives args = and_then_any (a_whole args) _ IsWithin (λ n. within_bool (not (is_even n)))
