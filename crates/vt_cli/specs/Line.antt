-- What a line of a piece says. Own.
use Rattle.std.specs.Prelude.{ℕ, ◌==◌, ◌&&◌, Bool, true, false, if◌then◌else◌, List, [], ◌∷◌, Result, Ok, Err, codes, filter}
use Rattle.std.specs.List.{slice_split}
use Rattle.std.specs.Str.{bytes_eq}
use Rattle.vt_frac.specs.Fraction.{Fraction}
use Rattle.vt_frac.specs.Decimal.{are_digits, decimal_of}
use Rattle.vt_frac.specs.declared.fault.DecimalFault.{DecimalFault}
use Rattle.vt_lex.specs.Bytes.{is_blank}
use Rattle.vt_cli.specs.declared.line.Line.{Line}
use Rattle.vt_cli.specs.declared.line.Line.TheVariants.{Nothing, Play, Sleep, Refused}

-- a newline ends a line
abbrev pub is_newline : ℕ → Bool
is_newline b = b == 10

-- the lines of a text: what stands before, between and after its newlines
abbrev pub lines_of : List ℕ → List (List ℕ)
lines_of text = slice_split is_newline text

-- something stands between two blanks
abbrev pub is_word : List ℕ → Bool
is_word [] = false
is_word (b ∷ bs) = true

-- the words of a line: what stands between its blanks
abbrev pub words_of : List ℕ → List (List ℕ)
words_of line = filter is_word (slice_split is_blank line)

-- a note is a whole number, and so digits alone
abbrev pub play_of : Result Fraction DecimalFault → Line
play_of (Ok note) = Play (record { number = note.numer })
play_of (Err e) = Refused

-- a rest is a whole number or a decimal
abbrev pub sleep_of : Result Fraction DecimalFault → Line
sleep_of (Ok amount) = Sleep amount
sleep_of (Err e) = Refused

-- what a line of two words says
abbrev pub said : List ℕ → List ℕ → Line
said verb operand =
    if bytes_eq verb (codes "play") && are_digits operand then play_of (decimal_of operand)
    else (if bytes_eq verb (codes "sleep") then sleep_of (decimal_of operand) else Refused)

-- What the words of a line say: no words say nothing, two may say a note or a rest, and all others are refused.
abbrev pub said_by_words : List (List ℕ) → Line
said_by_words [] = Nothing
said_by_words (verb ∷ []) = Refused
said_by_words (verb ∷ operand ∷ []) = said verb operand
said_by_words (verb ∷ operand ∷ other ∷ more) = Refused

-- what a line says
unfoldable pub line_of : List ℕ → Line
line_of line = said_by_words (words_of line)
