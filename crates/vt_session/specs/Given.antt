-- The values that are given with an input: whole and decimal numbers, with or without a `-`, symbols, and texts in double quotes.
use Rattle.std.specs.Prelude.{ℕ, ◌==◌, ◌&&◌, nat_le, Bool, true, false, if◌then◌else◌, List, [], ◌∷◌, length, Option, Some, None, Result, Ok, Err, neg_ℤ}
use Rattle.vt_frac.specs.declared.fault.DecimalFault.{DecimalFault}
use Rattle.vt_frac.specs.Decimal.{are_digits, decimal_of}
use Rattle.vt_frac.specs.Fraction.{Fraction}
use Rattle.vt_frac.specs.Names.{is_symbol_name}
use Rattle.vt_lex.specs.Texts.{Body, body_of}
use Rattle.vt_value.specs.declared.value.Value.{Value}
use Rattle.vt_value.specs.declared.value.Value.TheVariants.{Whole, Part, Sym, Text}

abbrev pub unsigned : Fraction → Fraction
unsigned f = f

abbrev pub negated : Fraction → Fraction
negated f = record { numer = neg_ℤ f.numer; denom = f.denom }

-- digits are a whole number, and with a dot among them they are a fraction, also where its denominator is 1
abbrev pub number_by : Bool → Fraction → Value
number_by true f = Whole f.numer
number_by false f = Part f

abbrev pub signed_by : Bool → (Fraction → Fraction) → Result Fraction DecimalFault → Option Value
signed_by whole sign (Ok f) = Some (number_by whole (sign f))
signed_by whole sign (Err fault) = None

-- a number, with its sign
abbrev pub number_given : (Fraction → Fraction) → List ℕ → Option Value
number_given sign word = signed_by (are_digits word) sign (decimal_of word)

-- the name of a symbol, behind its colon
abbrev pub symbol_given : List ℕ → Option Value
symbol_given name = if is_symbol_name name then Some (Sym name) else None

-- a text that ends where the word ends, with at most 4,096 bytes of value
abbrev pub text_by : ℕ → Option Body → Option Value
text_by len None = None
text_by len (Some body) = if body.len == len && nat_le (length body.value) 4096 then Some (Text body.value) else None

-- a text, behind its first quote
abbrev pub text_given : List ℕ → Option Value
text_given form = text_by (length form) (body_of 34 form)

-- by its first byte: a colon (58), a double quote (34), a minus (45), or another one
abbrev pub given_by : ℕ → List ℕ → Option Value
given_by first rest =
    if first == 58 then symbol_given rest
    else (if first == 34 then text_given rest
    else (if first == 45 then number_given negated rest
    else number_given unsigned (first ∷ rest)))

-- the value that a word is
unfoldable pub given_of : List ℕ → Option Value
given_of [] = None
given_of (first ∷ rest) = given_by first rest
