-- What `check` answers: a line for each text of a session, or that the bytes are none. Own.
use Rattle.std.specs.Prelude.{ℕ, ◌+◌, Bool, true, false, List, [], ◌∷◌, ◌++◌, codes, decimal, map}
use Rattle.vt_lex.specs.Faults.{lex_word}
use Rattle.vt_check.specs.Faults.{check_word}
use Rattle.vt_session.specs.Sessions.{SessionView}
use Rattle.vt_serial.specs.declared.verdict.TextVerdict.{TextVerdict}
use Rattle.vt_serial.specs.declared.verdict.TextVerdict.TheVariants.{Good, Lex, Syntax, Check}
use Rattle.vt_serial.specs.Verdict.{verdict_of_part}
use Rattle.vt_text.specs.ScoreText.{newline}

-- the verdicts on the texts of a session, in their order
abbrev pub verdicts_of : SessionView → List TextVerdict
verdicts_of session = map verdict_of_part session.texts

-- the text can be read, and the checks allow it
abbrev pub is_good : TextVerdict → Bool
is_good (Good tree) = true
is_good (Lex line kind) = false
is_good (Syntax line) = false
is_good (Check line kind) = false

-- a verdict in words: which of the three refuses the text, for what, and on which line
abbrev pub verdict_words : TextVerdict → List ℕ
verdict_words (Good tree) = codes "ok"
verdict_words (Lex line kind) = codes "lex " ++ lex_word kind ++ codes " " ++ decimal line
verdict_words (Syntax line) = codes "syntax " ++ decimal line
verdict_words (Check line kind) = codes "check " ++ check_word kind ++ codes " " ++ decimal line

-- the line of the text with this number
abbrev pub verdict_line : ℕ → TextVerdict → List ℕ
verdict_line number verdict = codes "text " ++ decimal number ++ codes " " ++ verdict_words verdict ++ newline

-- the lines of texts, of which the first has this number
abbrev pub verdict_lines : ℕ → List TextVerdict → List ℕ
verdict_lines number [] = []
verdict_lines number (verdict ∷ more) = verdict_line number verdict ++ verdict_lines (number + 1) more
