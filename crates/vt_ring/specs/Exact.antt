-- Arithmetic of a call on exact fractions: each operation gives the exact result, or overflow where that does not fit. The project's own.
use Rattle.std.specs.Prelude.{◌≡◌, ℕ, ◌+◌, ◌-◌, ◌/◌, ◌<◌, ℤ, pos, ◌*ℤ◌, ◌≤ℤ◌, unsigned_abs, int_lt, Bool, false, cond, Result, Ok, Err}
use Rattle.vt_frac.specs.Arithmetic.{sum_of, difference_of, product_of, quotient_of}
use Rattle.vt_frac.specs.Fraction.{Fraction, fits}
use Rattle.vt_value.specs.declared.fault.FaultKind.{FaultKind}
use Rattle.vt_value.specs.declared.fault.FaultKind.TheVariants.{Overflow}

-- the fraction, or overflow where a part of it is above 2^63 - 1 in size
abbrev pub exact : Fraction → Result Fraction FaultKind
exact f = cond (fits f) (Ok f) (Err Overflow)

abbrev pub exact_sum : Fraction → Fraction → Result Fraction FaultKind
exact_sum f g = exact (sum_of f g)

abbrev pub exact_difference : Fraction → Fraction → Result Fraction FaultKind
exact_difference f g = exact (difference_of f g)

abbrev pub exact_product : Fraction → Fraction → Result Fraction FaultKind
exact_product f g = exact (product_of f g)

-- f / g, for a g that is not 0
abbrev pub exact_quotient : Fraction → Fraction → Result Fraction FaultKind
exact_quotient f g = exact (quotient_of f g)

-- the size of a fraction, without its sign
abbrev pub absolute_of : Fraction → Fraction
absolute_of f = record { numer = pos (unsigned_abs f.numer); denom = f.denom }

abbrev pub is_positive : Fraction → Bool
is_positive f = int_lt (pos 0) f.numer

abbrev pub is_negative : Fraction → Bool
is_negative f = int_lt f.numer (pos 0)

-- the least whole number not below a fraction of at least 0
abbrev pub rounded_up : Fraction → ℕ
rounded_up f = (unsigned_abs f.numer + (f.denom - 1)) / f.denom

-- the fraction is not above the whole number: a / b is at most n where a is at most n * b
abbrev pub IsAtMost : Fraction → ℤ → Type 0
IsAtMost f n = f.numer ≤ℤ (n *ℤ pos f.denom)

-- the least whole number that the fraction is not above
pub record IsLeastNotBelow (f : Fraction) (n : ℤ) : Type 0 where
  pub not_below : IsAtMost f n
  pub least : (m : ℤ) → IsAtMost f m → n ≤ℤ m

-- What `rounded_up` gives for a fraction of at least 0 is the least whole number not below it.
abbrev pub RoundedUpIsLeast : Type 0
RoundedUpIsLeast = (f : Fraction) → 0 < f.denom → is_negative f ≡ false → IsLeastNotBelow f (pos (rounded_up f))
