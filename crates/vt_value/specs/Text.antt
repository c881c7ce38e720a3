-- The text of values in a score. The project's own.
use Rattle.std.specs.Prelude.{ℕ, ◌+◌, ◌/◌, ◌%◌, List, [], ◌∷◌, ◌++◌, Bool, true, false, if◌then◌else◌, ◌==◌, ◌||◌, nat_lt, codes}
use Rattle.std.specs.List.{flat_map}
use Rattle.std.specs.Fmt.{signed_decimal}
use Rattle.vt_value.specs.declared.value.Value.{Value}
use Rattle.vt_value.specs.declared.value.Value.TheOpen.{Value-F}
use Rattle.vt_value.specs.declared.value.Value.TheFolds.{fold-Value}
use Rattle.vt_frac.specs.Text.{fraction_text}

-- a hexadecimal digit, in lower case
abbrev pub hex_digit : ℕ → ℕ
hex_digit n = if nat_lt n 10 then 48 + n else 87 + n

-- a byte of a text between double quotes: `\"`, `\\`, `\n`, `\t`, `\xhh` for the other bytes below 32 and for 127, and each other byte as it is
abbrev pub escaped : ℕ → List ℕ
escaped byte =
    if byte == 34 || byte == 92 then 92 ∷ byte ∷ []
    else (if byte == 10 then codes "\\n"
    else (if byte == 9 then codes "\\t"
    else (if nat_lt byte 32 || byte == 127 then codes "\\x" ++ hex_digit (byte / 16) ∷ hex_digit (byte % 16) ∷ []
    else byte ∷ [])))

-- a text in double quotes
abbrev pub quoted : List ℕ → List ℕ
quoted bytes = 34 ∷ flat_map escaped bytes ++ 34 ∷ []

-- texts, each after a comma and a blank
abbrev pub after_commas : List (List ℕ) → List ℕ
after_commas [] = []
after_commas (text ∷ texts) = codes ", " ++ text ++ after_commas texts

-- texts with a comma and a blank between each two
abbrev pub between_commas : List (List ℕ) → List ℕ
between_commas [] = []
between_commas (text ∷ texts) = text ++ after_commas texts

abbrev pub bool_text : Bool → List ℕ
bool_text true = codes "true"
bool_text false = codes "false"

-- one value, with the text of each item in its place
abbrev pub text_layer : Value-F (List ℕ) → List ℕ
text_layer Value-F.Nil = codes "nil"
text_layer (Value-F.Bool b) = bool_text b
text_layer (Value-F.Whole n) = signed_decimal n
text_layer (Value-F.Part f) = fraction_text f
text_layer (Value-F.Sym name) = 58 ∷ name
text_layer (Value-F.Text bytes) = quoted bytes
text_layer (Value-F.Ring texts) = 91 ∷ between_commas texts ++ 93 ∷ []

-- the text of a value
unfoldable pub value_text : Value → List ℕ
value_text = fold-Value (List ℕ) text_layer
