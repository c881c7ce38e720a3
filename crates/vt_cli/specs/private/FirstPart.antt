-- The first line of a text and the first word of a line, before what follows. Own.
use Rattle.std.specs.Prelude.{ℕ, ◌≡◌, false, List, [], ◌∷◌, Option, None, Some}
use Rattle.vt_lex.specs.Bytes.{is_blank}
use Rattle.vt_cli.specs.Line.{lines_of}

-- a line before those of the text that follows it, where one does
abbrev pub line_and_more : List ℕ → Option (List ℕ) → List (List ℕ)
line_and_more line None = line ∷ []
line_and_more line (Some more) = line ∷ lines_of more

-- a word before others: without a word there are none
abbrev pub word_and_more : List ℕ → List (List ℕ) → List (List ℕ)
word_and_more [] more = []
word_and_more (b ∷ bs) more = (b ∷ bs) ∷ more

-- there are no bytes, or the first is no blank
abbrev pub BeginsLineWord : List ℕ → Type 0
BeginsLineWord [] = Unit {0}
BeginsLineWord (b ∷ bs) = is_blank b ≡ false
