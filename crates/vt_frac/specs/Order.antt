-- The order of fractions by their values.
use Rattle.std.specs.Prelude.{max, pos, ◌*ℤ◌}
use Rattle.std.specs.declared.cmp.Ordering.{Ordering}
use Rattle.std.specs.Ordering.{int_cmp, nat_cmp, on, then_cmp}
use Rattle.vt_frac.specs.Fraction.{Fraction}

-- a/b is below c/d where a d is below c b. A denominator counts as at least 1, as it is in a `Frac`.
unfoldable pub value_order : Fraction → Fraction → Ordering
value_order a b = int_cmp (a.numer *ℤ pos (max 1 b.denom)) (b.numer *ℤ pos (max 1 a.denom))

-- The order of the values. What stands behind it tells records of one value apart, and two fractions in lowest terms never need it.
unfoldable pub order_of : Fraction → Fraction → Ordering
order_of = then_cmp value_order (then_cmp (on (λ f. f.numer) int_cmp) (on (λ f. f.denom) nat_cmp))
