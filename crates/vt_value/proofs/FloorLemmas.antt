-- Division that rounds down, by division whose remainder is not negative.
use Rattle.std.proofs.Common.{◌≡◌, zero, suc, ℤ, pos, negsuc, ◌<ℤ◌, sym, arith}
use Rattle.std.specs.Prelude.{neg_ℤ}
use Rattle.std.specs.Int.{int_div_euclid, int_rem_euclid}
use Rattle.std.proofs.lemmas.Int.{ints}
use Rattle.vt_frac.specs.Fraction.{reduced}
use Rattle.vt_frac.proofs.ArithmeticLemmas.{floor-over, rest-above, rest-below}
use Rattle.vt_value.specs.Arithmetic.{floor_div, floor_rem}

pub floor_above : (m n : ℤ) → pos 0 <ℤ n → int_div_euclid m n ≡ floor_div m n
unfolding floor_div reduced
floor_above m (pos zero) h = absurd (omega (arith, ints))
floor_above m (pos (suc k)) h = sym (floor-over m (suc k) (omega arith))
floor_above m (negsuc k) h = absurd (omega (arith, ints))

pub floor_below : (m n : ℤ) → n <ℤ pos 0 → int_div_euclid (neg_ℤ m) (neg_ℤ n) ≡ floor_div m n
unfolding floor_div reduced
floor_below m (pos k) h = absurd (omega (arith, ints))
floor_below m (negsuc k) h = sym (floor-over (neg_ℤ m) (suc k) (omega arith))

pub rem_above : (m n : ℤ) → pos 0 <ℤ n → int_rem_euclid m n ≡ floor_rem m n
unfolding floor_rem floor_div
rem_above m n h = rest-above m n h

pub rem_below : (m n : ℤ) → n <ℤ pos 0 → neg_ℤ (int_rem_euclid (neg_ℤ m) (neg_ℤ n)) ≡ floor_rem m n
unfolding floor_rem floor_div
rem_below m n h = rest-below m n h
