-- The verdict on a text: the tree that it is read as, where the checks allow it, or its first fault. Own.
use Rattle.std.specs.Prelude.{ℕ, ◌⊎◌, List}
use Rattle.std.proofs.Common.{inl, inr}
use Rattle.vt_lex.specs.Lexing.{HasTokens, IsRefused}
use Rattle.vt_lex.proofs.Uniqueness.{always as lexed_or_refused}
use Rattle.vt_tree.specs.declared.statement.Block.{Block}
use Rattle.vt_grammar.specs.Tokens.{spelled}
use Rattle.vt_grammar.specs.Verdict.{Parsed, Tree, Refused}
use Rattle.vt_grammar.proofs.Judging.{parsed_of}
use Rattle.vt_check.specs.Verdict.{Judged, Allowed, Refused as Faulty}
use Rattle.vt_check.proofs.Judging.{judged_of}
use Rattle.vt_session.specs.declared.text_part.TextPart.{TextPart}
use Rattle.vt_serial.specs.declared.verdict.TextVerdict.{TextVerdict}
use Rattle.vt_serial.specs.declared.verdict.TextVerdict.TheVariants.{Good, Lex, Syntax, Check}

-- what a tree that is allowed, or refused by a check, comes to
abbrev pub judged_verdict : Block → Judged → TextVerdict
judged_verdict tree Allowed = Good tree
judged_verdict tree (Faulty line kind) = Check line kind

-- what tokens that are read as a tree, or refused on a line, come to
abbrev pub parsed_verdict : Parsed → TextVerdict
parsed_verdict (Tree tree) = judged_verdict tree (judged_of tree)
parsed_verdict (Refused line) = Syntax line

-- what a text that has tokens, or a first fault, comes to
abbrev pub lexed_verdict : (text : List ℕ) (first_line : ℕ) → HasTokens text first_line ⊎ IsRefused text first_line → TextVerdict
lexed_verdict text first_line (inl lexed) = parsed_verdict (parsed_of (spelled text lexed.tokens))
lexed_verdict text first_line (inr refused) = Lex refused.line refused.kind

-- the verdict on a text whose first line has this number; each text has tokens or a first fault, and never both
unfoldable pub verdict_of : List ℕ → ℕ → TextVerdict
verdict_of text first_line = lexed_verdict text first_line (lexed_or_refused text first_line)

-- the verdict on a text of a session
abbrev pub verdict_of_part : TextPart → TextVerdict
verdict_of_part part = verdict_of part.text part.first_line
