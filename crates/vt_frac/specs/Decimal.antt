-- Decimal numbers as bytes: digits, or digits, a dot and digits. The value is exact. The project's own.
use Rattle.std.specs.Prelude.{◌≡◌, ◌⊎◌, ℕ, ◌+◌, ◌*◌, ◌^◌, List, ◌∷◌, ◌++◌, length, pos, Bool, cond, if◌then◌else◌, ◌==◌, ◌&&◌, nat_lt, IsTrue, Result, Ok, Err}
use Rattle.std.specs.List.{list_all, before_first, after_first}
use Rattle.std.specs.Char.{is_ascii_digit}
use Rattle.std.specs.Str.Parse as parse
use Rattle.vt_frac.specs.declared.fault.DecimalFault.{DecimalFault}
use Rattle.vt_frac.specs.declared.fault.DecimalFault.TheVariants.{Shape, Long, Overflow}
use Rattle.vt_frac.specs.Fraction.{Fraction, over, fits}

-- the number that decimal digits write
abbrev pub digits_value : List ℕ → ℕ
digits_value digits = parse.digits_value 10 digits

-- at least one digit, and nothing else
abbrev pub are_digits : List ℕ → Bool
are_digits bytes = nat_lt 0 (length bytes) && list_all is_ascii_digit bytes

-- `before.after`: a dot with digits on each side
pub record IsPointed (before after bytes : List ℕ) : Type 0 where
  pub before_digits : IsTrue (are_digits before)
  pub after_digits : IsTrue (are_digits after)
  pub joined : bytes ≡ before ++ 46 ∷ after

-- a decimal number, of any length: digits, or digits, a dot and digits
abbrev pub IsDecimal : List ℕ → Type 0
IsDecimal bytes = IsTrue (are_digits bytes) ⊎ ((before : List ℕ) × ((after : List ℕ) × IsPointed before after bytes))

-- the fraction, or overflow where it does not fit
abbrev pub fitted_decimal : Fraction → Result Fraction DecimalFault
fitted_decimal f = cond (fits f) (Ok f) (Err Overflow)

-- What digits are worth: at most 19 of them
unfoldable pub whole_decimal : List ℕ → Result Fraction DecimalFault
whole_decimal digits = if nat_lt 19 (length digits) then Err Long else fitted_decimal (over (pos (digits_value digits)) 1)

-- What `before.after` is worth, at most 18 digits on each side: both together as one number, over 10 to the count of those after the dot
unfoldable pub pointed_decimal : List ℕ → List ℕ → Result Fraction DecimalFault
pointed_decimal before after =
    if nat_lt 18 (length before) then Err Long
    else (if nat_lt 18 (length after) then Err Long
    else fitted_decimal (over (pos (digits_value before * 10 ^ length after + digits_value after)) (10 ^ length after)))

abbrev pub is_dot : ℕ → Bool
is_dot byte = byte == 46

-- What the bytes are worth by their form: digits, or digits on both sides of the first dot, and else no decimal number
unfoldable pub decimal_of : List ℕ → Result Fraction DecimalFault
decimal_of bytes =
    if are_digits bytes then whole_decimal bytes
    else (if are_digits (before_first is_dot bytes) && are_digits (after_first is_dot bytes) then pointed_decimal (before_first is_dot bytes) (after_first is_dot bytes)
    else Err Shape)
