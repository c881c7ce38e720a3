-- Which numbers fit. The project's own.
use Rattle.std.specs.Prelude.{ℕ, Bool, ◌&&◌, nat_le, List, is_ok}
use Rattle.std.specs.Str.Parse.{digits_value}
use Rattle.vt_frac.specs.Decimal as decimals

-- n digits are a whole number: at most 19, with a value up to 2^63 - 1
abbrev pub whole_fits : ℕ → List ℕ → Bool
whole_fits n digits = nat_le n 19 && nat_le (digits_value 10 digits) 9223372036854775807

-- digits, a dot and digits are a decimal number: at most 18 on each side, and the exact value is a fraction that fits
unfoldable pub decimal_fits : List ℕ → Bool
decimal_fits form = is_ok (decimals.decimal_of form)
