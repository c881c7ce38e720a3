-- The negative of a fraction. Only a clause of a private function cites this.
use Rattle.std.specs.Prelude.{neg_ℤ}
use Rattle.vt_frac.specs.Fraction.{Fraction}

abbrev pub negated : Fraction → Fraction
negated f = record { numer = neg_ℤ f.numer; denom = f.denom }
