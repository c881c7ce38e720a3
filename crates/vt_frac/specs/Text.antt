-- The text of a fraction. The project's own.
use Rattle.std.specs.Prelude.{ℕ, List, ◌∷◌, ◌++◌, if◌then◌else◌, nat_lt, decimal}
use Rattle.std.specs.Fmt.{signed_decimal}
use Rattle.vt_frac.specs.Fraction.{Fraction}

-- `n`, or `n/d` where d is above 1
unfoldable pub fraction_text : Fraction → List ℕ
fraction_text f = if nat_lt 1 f.denom then signed_decimal f.numer ++ 47 ∷ decimal f.denom else signed_decimal f.numer
