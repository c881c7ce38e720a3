-- Fractions of whole numbers without bound, in lowest terms. All of this is the project's own.
use Rattle.std.specs.Prelude.{◌≡◌, ◌≢◌, ℕ, zero, suc, ◌/◌, ◌^◌, ◌<◌, ℤ, pos, negsuc, neg_ℤ, ◌*ℤ◌, unsigned_abs, Bool, cond, ◌&&◌, nat_lt, Result, Ok, Err}
use Rattle.std.specs.Int.{◌∣◌}
use Rattle.vt_frac.specs.declared.fault.FracFault.{FracFault}
use Rattle.vt_frac.specs.declared.fault.FracFault.TheVariants.{Zero, Overflow}
use Rattle.vt_frac.specs.Divisor.{gcd}

-- A whole number above the line and one below it. The sign stands above.
pub record Fraction : Type 0 where
  pub numer : ℤ
  pub denom : ℕ

-- this size with the sign of n
abbrev pub with_sign : ℤ → ℕ → ℤ
with_sign (pos n) size = pos size
with_sign (negsuc n) size = neg_ℤ (pos size)

-- n over d in lowest terms: both are divided by their greatest common divisor. Over 0 it is 0/1.
unfoldable pub over : ℤ → ℕ → Fraction
over n zero = record { numer = pos 0; denom = 1 }
over n (suc d) =
    let divisor = gcd (unsigned_abs n) (suc d) in
    record { numer = with_sign n (unsigned_abs n / divisor); denom = suc d / divisor }

-- The same where d may be negative too: the sign goes above the line. Over 0 it is 0/1.
unfoldable pub reduced : ℤ → ℤ → Fraction
reduced n (pos d) = over n d
reduced n (negsuc d) = over (neg_ℤ n) (suc d)

-- n as a fraction
abbrev pub whole : ℤ → Fraction
whole n = record { numer = n; denom = 1 }

-- both parts are at most 2^63 - 1 in size
unfoldable pub fits : Fraction → Bool
fits f = nat_lt (unsigned_abs f.numer) (2 ^ 63) && nat_lt f.denom (2 ^ 63)

-- the fraction, or overflow where it does not fit
unfoldable pub fitted : Fraction → Result Fraction FracFault
fitted f = cond (fits f) (Ok f) (Err Overflow)

-- in lowest terms, with at least 1 below the line and parts that fit: what a `Frac` is
pub record IsFraction (f : Fraction) : Type 0 where
  pub lowest : gcd (unsigned_abs f.numer) f.denom ≡ 1
  pub positive : 0 < f.denom
  pub numer_fits : unsigned_abs f.numer < 2 ^ 63
  pub denom_fits : f.denom < 2 ^ 63

-- In lowest terms: at least 1 stands below the line, and no number above 1 divides both parts.
abbrev pub ReducedIsLowest : Type 0
ReducedIsLowest =
    (n d : ℤ) → (0 < (reduced n d).denom) × ((k : ℕ) → k ∣ unsigned_abs (reduced n d).numer → k ∣ (reduced n d).denom → k ≡ 1)

-- Its value is n / d: the cross products agree.
abbrev pub ReducedKeepsTheValue : Type 0
ReducedKeepsTheValue = (n d : ℤ) → d ≢ pos 0 → (reduced n d).numer *ℤ d ≡ n *ℤ pos (reduced n d).denom

-- what a division by d answers: zero where d is 0, and else this
abbrev pub unless_zero : ℤ → Result Fraction FracFault → Result Fraction FracFault
unless_zero (pos zero) answer = Err Zero
unless_zero (pos (suc d)) answer = answer
unless_zero (negsuc d) answer = answer
