-- A whole number over 1 is itself, in lowest terms.
use Rattle.std.proofs.Common.{◌≡◌, ℕ, ◌/◌, ◌^◌, ◌<◌, ℤ, pos, negsuc, unsigned_abs, Ok, refl, arith}
use Rattle.std.proofs.lemmas.Bool.{lt-ltb}
use Rattle.vt_frac.specs.Divisor.{gcd}
use Rattle.vt_frac.specs.Fraction.{with_sign, over, reduced, whole, fits, fitted}

gcd-one : (n : ℕ) → gcd n 1 ≡ 1
unfolding gcd
gcd-one n = grind arith

undivided : (n : ℕ) → n / 1 ≡ n
undivided n = omega arith

signed : (z : ℤ) → with_sign z (unsigned_abs z) ≡ z
signed (pos n) = refl
signed (negsuc n) = refl

over-one : (z : ℤ) → over z 1 ≡ whole z
unfolding over
over-one z = rw (gcd-one (unsigned_abs z)) (rw (undivided (unsigned_abs z), signed z) refl)

pub whole_of_new : (z : ℤ) → unsigned_abs z < 2 ^ 63 → fitted (reduced z (pos 1)) ≡ Ok (whole z)
unfolding fitted reduced fits
whole_of_new z h = rw (over-one z) (rw (lt-ltb (unsigned_abs z) (2 ^ 63) h) refl)
