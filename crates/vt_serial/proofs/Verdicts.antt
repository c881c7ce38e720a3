-- What a lexed, parsed and checked text comes to is its verdict.
use Rattle.std.proofs.Common.{◌≡◌, ◌⊎◌, inl, inr, ℕ, List, sym, ap, ◌∙◌}
use Rattle.vt_lex.specs.declared.fault.LexKind.{LexKind}
use Rattle.vt_lex.specs.declared.token.Token.{Token}
use Rattle.vt_lex.specs.Lexing.{HasTokens, IsRefused, LexRefuses, Lexes}
use Rattle.vt_lex.proofs.Uniqueness.{always as lexed_or_refused, lexed_or_refused as never_both, one_fault, one_list}
use Rattle.vt_tree.specs.declared.statement.Block.{Block}
use Rattle.vt_grammar.specs.Tokens.{spelled}
use Rattle.vt_grammar.specs.Text.{Reads, SyntaxRefuses}
use Rattle.vt_grammar.specs.Verdict.{Parsed, Tree, Refused}
use Rattle.vt_grammar.proofs.Judging.{parsed_of}
use Rattle.vt_grammar.proofs.VerdictLaws.{is_line, is_tree}
use Rattle.vt_check.specs.declared.fault.CheckKind.{CheckKind}
use Rattle.vt_check.specs.Verdict.{Judged, Allowed, Refused as Faulty}
use Rattle.vt_check.proofs.Judging.{judged_of}
use Rattle.vt_check.specs.Allowed.{IsAllowed, CheckRefuses}
use Rattle.vt_check.proofs.JudgedLemmas.{allowed_where_allowed, refused_where_refused}
use Rattle.vt_serial.specs.declared.verdict.TextVerdict.TheVariants.{Good, Lex, Syntax, Check}
use Rattle.vt_serial.specs.Verdict.{judged_verdict, lexed_verdict, parsed_verdict, verdict_of}

module _ (text : List ℕ) (first_line : ℕ) where
  lex_by : (line : ℕ) (kind : LexKind) (d : HasTokens text first_line ⊎ IsRefused text first_line) → LexRefuses text first_line line kind
      → Lex line kind ≡ lexed_verdict text first_line d
  lex_by line kind (inl lexed) h = absurd (never_both text first_line lexed.tokens line kind lexed.lexes h)
  lex_by line kind (inr refused) h =
      let same = one_fault text first_line line refused.line kind refused.kind h refused.refuses in
      ap (λ l. Lex l kind) same.0 ∙ ap (Lex refused.line) same.1

  pub lex_verdict : (line : ℕ) (kind : LexKind) → LexRefuses text first_line line kind → Lex line kind ≡ verdict_of text first_line
  unfolding verdict_of
  lex_verdict line kind h = lex_by line kind (lexed_or_refused text first_line) h

  parsed_by : (tokens : List Token) (parsed : Parsed) (d : HasTokens text first_line ⊎ IsRefused text first_line) → Lexes text first_line tokens
      → parsed_of (spelled text tokens) ≡ parsed → parsed_verdict parsed ≡ lexed_verdict text first_line d
  parsed_by tokens parsed (inl lexed) h e =
      ap parsed_verdict (sym e ∙ ap (λ ts. parsed_of (spelled text ts)) (one_list text first_line tokens lexed.tokens h lexed.lexes))
  parsed_by tokens parsed (inr refused) h e = absurd (never_both text first_line tokens refused.line refused.kind h refused.refuses)

  judged_by : (tokens : List Token) (tree : Block) (judged : Judged) → Lexes text first_line tokens → Reads (spelled text tokens) tree
      → judged_of tree ≡ judged → judged_verdict tree judged ≡ verdict_of text first_line
  unfolding verdict_of
  judged_by tokens tree judged h r e =
      ap (judged_verdict tree) (sym e) ∙ parsed_by tokens (Tree tree) (lexed_or_refused text first_line) h ((is_tree (spelled text tokens) tree).1 r)

  pub good_verdict : (tokens : List Token) (tree : Block) → Lexes text first_line tokens → Reads (spelled text tokens) tree
      → IsAllowed tree → Good tree ≡ verdict_of text first_line
  good_verdict tokens tree h r allowed = judged_by tokens tree Allowed h r ((allowed_where_allowed tree).1 allowed)

  pub check_verdict : (tokens : List Token) (tree : Block) (line : ℕ) (kind : CheckKind) → Lexes text first_line tokens → Reads (spelled text tokens) tree
      → CheckRefuses tree line kind → Check line kind ≡ verdict_of text first_line
  check_verdict tokens tree line kind h r refused =
      judged_by tokens tree (Faulty line kind) h r ((refused_where_refused tree line kind).1 refused)

  pub syntax_verdict : (tokens : List Token) (line : ℕ) → Lexes text first_line tokens → SyntaxRefuses (spelled text tokens) line → Syntax line ≡ verdict_of text first_line
  unfolding verdict_of
  syntax_verdict tokens line h r =
      parsed_by tokens (Refused line) (lexed_or_refused text first_line) h ((is_line (spelled text tokens) line).1 r)
