-- The exact results of arithmetic on fractions, each in lowest terms.
use Rattle.std.specs.Prelude.{◌*◌, ℤ, pos, ◌+ℤ◌, ◌-ℤ◌, ◌*ℤ◌}
use Rattle.std.specs.Int.{int_div_euclid}
use Rattle.vt_frac.specs.Fraction.{Fraction, over, reduced, whole}

-- a/b + c/d = (a d + c b) / (b d)
unfoldable pub sum_of : Fraction → Fraction → Fraction
sum_of a b = over (a.numer *ℤ pos b.denom +ℤ b.numer *ℤ pos a.denom) (a.denom * b.denom)

-- a/b - c/d = (a d - c b) / (b d)
unfoldable pub difference_of : Fraction → Fraction → Fraction
difference_of a b = over (a.numer *ℤ pos b.denom -ℤ b.numer *ℤ pos a.denom) (a.denom * b.denom)

-- a/b * c/d = (a c) / (b d)
unfoldable pub product_of : Fraction → Fraction → Fraction
product_of a b = over (a.numer *ℤ b.numer) (a.denom * b.denom)

-- (a/b) / (c/d) = (a d) / (c b), and 0 where c is 0
unfoldable pub quotient_of : Fraction → Fraction → Fraction
quotient_of a b = reduced (a.numer *ℤ pos b.denom) (b.numer *ℤ pos a.denom)

-- The greatest whole number not above the value: by a denominator of at least 1, division with a remainder that is not negative.
unfoldable pub floor_of : Fraction → ℤ
floor_of f = int_div_euclid f.numer (pos f.denom)

-- a - b * floor(a / b)
unfoldable pub remainder_of : Fraction → Fraction → Fraction
remainder_of a b = difference_of a (product_of b (whole (floor_of (quotient_of a b))))
