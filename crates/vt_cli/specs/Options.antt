-- The words behind a command: pairs of a name and a value, each name at most once, in any order. Own.
use Rattle.std.specs.Prelude.{ℕ, ◌&&◌, nat_le, if◌then◌else◌, List, [], ◌∷◌, Option, None, Some, length}
use Rattle.std.specs.Str.{bytes_eq}
use Rattle.vt_frac.specs.Decimal.{are_digits, digits_value}

-- an option as it is written: its name, with the `--` before it, and its value
abbrev pub Written : Type 0
Written = List ℕ × List ℕ

-- this one before others, where those are options
abbrev pub and_option : Written → Option (List Written) → Option (List Written)
and_option option None = None
and_option option (Some more) = Some (option ∷ more)

-- the options that words are: a name and a value, and so on
abbrev pub options_of : List (List ℕ) → Option (List Written)
options_of [] = Some []
options_of (name ∷ []) = None
options_of (name ∷ value ∷ more) = and_option (name, value) (options_of more)

-- the value of the option with this name, if it is there
abbrev pub value_of : List ℕ → List Written → Option (List ℕ)
value_of name [] = None
value_of name (option ∷ more) = if bytes_eq name option.0 then Some option.1 else value_of name more

-- a whole number: 1 to 20 digits, with a value within these limits
unfoldable pub number_within : ℕ → ℕ → List ℕ → Option ℕ
number_within least most word =
    if are_digits word && nat_le (length word) 20 && nat_le least (digits_value word) && nat_le (digits_value word) most then Some (digits_value word)
    else None

-- the number that an option has, or the one that it has where it is not there
abbrev pub number_or : ℕ → ℕ → ℕ → Option (List ℕ) → Option ℕ
number_or least most otherwise None = Some otherwise
number_or least most otherwise (Some word) = number_within least most word
