-- How times are spelled, in seconds: `digits`, `digits.digits` or `digits/digits`.
use Rattle.std.specs.Prelude.{ℕ, Bool, ◌==◌, if◌then◌else◌, List, Option, None, Result, Ok, Err}
use Rattle.std.specs.List.{list_any, before_first, after_first}
use Rattle.std.specs.Result.{result_ok}
use Rattle.vt_frac.specs.declared.fault.DecimalFault.{DecimalFault}
use Rattle.vt_frac.specs.declared.fault.DecimalFault.TheVariants.{Shape}
use Rattle.vt_frac.specs.Decimal.{are_digits, decimal_of, whole_decimal}
use Rattle.vt_frac.specs.Fraction.{Fraction, fitted, reduced, unless_zero}

abbrev pub is_slash : ℕ → Bool
is_slash byte = byte == 47

-- a number of digits alone
abbrev pub whole_of : List ℕ → Result Fraction DecimalFault
whole_of word = if are_digits word then whole_decimal word else Err Shape

-- one number over another that is not 0
abbrev pub ratio_of : Result Fraction DecimalFault → Result Fraction DecimalFault → Option Fraction
ratio_of (Ok above) (Ok below) = result_ok (unless_zero below.numer (fitted (reduced above.numer below.numer)))
ratio_of (Ok above) (Err fault) = None
ratio_of (Err fault) below = None

-- the time that a word spells
unfoldable pub time_of : List ℕ → Option Fraction
time_of word =
    if list_any is_slash word then ratio_of (whole_of (before_first is_slash word)) (whole_of (after_first is_slash word))
    else result_ok (decimal_of word)
