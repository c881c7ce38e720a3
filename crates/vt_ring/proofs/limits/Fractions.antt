-- What arithmetic gives is in lowest terms, and fits where it is asked to.
use Rattle.std.specs.Prelude.{nat_lt, neg_ℤ}
use Rattle.std.specs.Result.{IfOk}
use Rattle.std.proofs.Common.{◌≡◌, ℕ, zero, suc, ◌<◌, ◌^◌, ℤ, pos, negsuc, unsigned_abs, true, Ok, refl, arith}
use Rattle.std.proofs.lemmas.Result.{IfOk-at_ok}
use Rattle.std.proofs.lemmas.Bool.{ltb-true}
use Rattle.vt_frac.specs.declared.fault.FracFault.TheVariants as fraction
use Rattle.vt_frac.specs.Arithmetic.{sum_of, difference_of, product_of, quotient_of, remainder_of}
use Rattle.vt_frac.specs.Divisor.{gcd}
use Rattle.vt_frac.specs.Fraction.{Fraction, IsFraction, fits, fitted, over, reduced}
use Rattle.vt_frac.proofs.DecimalLemmas.{both_true}
use Rattle.vt_frac.proofs.FractionLemmas.{over-lowest, over-positive}
use Rattle.vt_value.specs.declared.fault.FaultKind.TheVariants.{Overflow}
use Rattle.vt_ring.specs.Exact.{exact, exact_difference, exact_product, exact_quotient, exact_sum}
use Rattle.vt_ring.proofs.limits.Answers.{cond_gives}

-- in lowest terms, of whatever size
pub record IsLowest (f : Fraction) : Type 0 where
  pub lowest : gcd (unsigned_abs f.numer) f.denom ≡ 1
  pub positive : 0 < f.denom

pub lowest_over : (n : ℤ) (d : ℕ) → IsLowest (over n d)
unfolding over gcd
lowest_over n zero = record { lowest = refl; positive = omega arith }
lowest_over n (suc d) = record { lowest = over-lowest n (suc d) (omega arith); positive = over-positive n (suc d) (omega arith) }

pub lowest_reduced : (n d : ℤ) → IsLowest (reduced n d)
unfolding reduced
lowest_reduced n (pos d) = lowest_over n d
lowest_reduced n (negsuc d) = lowest_over (neg_ℤ n) (suc d)

pub lowest_sum : (f g : Fraction) → IsLowest (sum_of f g)
unfolding sum_of
lowest_sum f g = lowest_over _ _

pub lowest_difference : (f g : Fraction) → IsLowest (difference_of f g)
unfolding difference_of
lowest_difference f g = lowest_over _ _

pub lowest_product : (f g : Fraction) → IsLowest (product_of f g)
unfolding product_of
lowest_product f g = lowest_over _ _

pub lowest_quotient : (f g : Fraction) → IsLowest (quotient_of f g)
unfolding quotient_of
lowest_quotient f g = lowest_reduced _ _

pub lowest_remainder : (f g : Fraction) → IsLowest (remainder_of f g)
unfolding remainder_of
lowest_remainder f g = lowest_difference _ _

-- a fraction in lowest terms that fits
pub fraction_from_fits : (f : Fraction) → IsLowest f → fits f ≡ true → IsFraction f
unfolding fits
fraction_from_fits f h e =
    let parts = both_true (nat_lt (unsigned_abs f.numer) (2 ^ 63)) (nat_lt f.denom (2 ^ 63)) e in
    record { lowest = h.lowest; positive = h.positive; numer_fits = ltb-true (unsigned_abs f.numer) (2 ^ 63) parts.0; denom_fits = ltb-true f.denom (2 ^ 63) parts.1 }

pub exact_gives : (f : Fraction) → IsLowest f → IfOk (exact f) IsFraction
exact_gives f h = cond_gives (fits f) (Ok f) Overflow IsFraction (fraction_from_fits f h)

pub fitted_gives : (f : Fraction) → IsLowest f → IfOk (fitted f) IsFraction
unfolding fitted
fitted_gives f h = cond_gives (fits f) (Ok f) fraction.Overflow IsFraction (fraction_from_fits f h)

pub sum_gives : (f g : Fraction) → IfOk (exact_sum f g) IsFraction
sum_gives f g = exact_gives (sum_of f g) (lowest_sum f g)

pub difference_gives : (f g : Fraction) → IfOk (exact_difference f g) IsFraction
difference_gives f g = exact_gives (difference_of f g) (lowest_difference f g)

pub product_gives : (f g : Fraction) → IfOk (exact_product f g) IsFraction
product_gives f g = exact_gives (product_of f g) (lowest_product f g)

pub quotient_gives : (f g : Fraction) → IfOk (exact_quotient f g) IsFraction
quotient_gives f g = exact_gives (quotient_of f g) (lowest_quotient f g)

pub exact_known : (f g : Fraction) → exact f ≡ Ok g → IsLowest f → IsFraction g
exact_known f g e h = IfOk-at_ok IsFraction e (exact_gives f h)

pub fitted_known : (f g : Fraction) → fitted f ≡ Ok g → IsLowest f → IsFraction g
fitted_known f g e h = IfOk-at_ok IsFraction e (fitted_gives f h)
