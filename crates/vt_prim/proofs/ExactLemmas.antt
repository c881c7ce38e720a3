-- The fractions that the calls know.
use Rattle.std.proofs.Common.{◌≡◌, pos, Ok, refl}
use Rattle.vt_frac.specs.Divisor.{gcd}
use Rattle.vt_frac.specs.Fraction.{fits, fitted, over, reduced}
use Rattle.vt_ring.specs.NumberCalls.{half}

pub half_fits : fitted (reduced (pos 1) (pos 2)) ≡ Ok half
unfolding fitted reduced over gcd fits
half_fits = refl
