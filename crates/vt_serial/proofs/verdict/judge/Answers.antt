use Rattle.std.proofs.Common.{◌∙◌, ◌≤◌, ap, sym, subst, length, arith}
use Rattle.vt_lex.specs.Answers.{Faults}
use Rattle.vt_grammar.specs.Tokens.{AreTokens, spelled}
use Rattle.vt_grammar.specs.Text.{Reads, SyntaxRefuses}
use Rattle.vt_parse.proofs.Lexed.{lexed_are_few, lexed_are_tokens}
use Rattle.vt_grammar.specs.Formed.{AreFormed}
use Rattle.vt_grammar.proofs.FormedTexts.{formed_where_lexed, formed_where_read}
use Rattle.vt_check.specs.Checked.{IsCause}
use Rattle.vt_serial.specs.declared.verdict.TextVerdict.TheVariants.{Good}
use Rattle.vt_serial.proofs.Verdicts.{check_verdict, good_verdict, lex_verdict, syntax_verdict}
use Rattle.vt_serial.proofs.verdict.judge.Goals as goal

pub returns-in-Err-At : goal.returns-in-Err-At
returns-in-Err-At c =
    let told = lex_verdict c.args.text.now c.args.first_line c.in-Err-At.line c.in-Err-At.kind (subst (Faults c.args.text.now c.args.first_line) c.in-Err-At.field-0-is c.in-Err-At.ensures.fault) in
    rw (c.in-Err-At.line-is, c.in-Err-At.kind-is) told

pub parse-requires-clause-tokens : goal.parse-requires-clause-tokens
parse-requires-clause-tokens c =
    subst (AreTokens c.args.text.now) (sym c.deref.ensures.value) (lexed_are_tokens c.args.text.now c.args.first_line c.in-Ok.tokens.items c.in-Ok.ensures.tokens)

pub parse-requires-clause-short : goal.parse-requires-clause-short
parse-requires-clause-short c =
    let few : length c.in-Ok.tokens.items ≤ length c.args.text.now = lexed_are_few c.args.text.now c.args.first_line c.in-Ok.tokens.items c.in-Ok.ensures.tokens in
    let same = ap length c.deref.ensures.value in
    let short : length c.args.text.now ≤ 1048576 = c.requires.short in
    omega (arith, few, same, short)

pub check-requires : goal.check-requires
check-requires c =
    formed_where_read (spelled c.args.text.now c.deref.result.now) c.in-Ok-parse.tree
    (subst (λ ts. AreFormed (spelled c.args.text.now ts)) (sym c.deref.ensures.value) (formed_where_lexed c.args.text.now c.args.first_line c.in-Ok.tokens.items c.in-Ok.ensures.tokens))
    c.in-Ok-parse.ensures.tree

pub returns-in-Ok-check : goal.returns-in-Ok-check
returns-in-Ok-check c =
    ap Good c.in-Ok-check.ensures.same
    ∙ good_verdict c.args.text.now c.args.first_line c.in-Ok.tokens.items c.in-Ok-parse.tree c.in-Ok.ensures.tokens
    (subst (λ ts. Reads (spelled c.args.text.now ts) c.in-Ok-parse.tree) c.deref.ensures.value c.in-Ok-parse.ensures.tree)
    c.in-Ok-check.ensures.allowed

pub returns-in-Err-At-check : goal.returns-in-Err-At-check
returns-in-Err-At-check c =
    check_verdict c.args.text.now c.args.first_line c.in-Ok.tokens.items c.in-Ok-parse.tree c.in-Err-At-check.line c.in-Err-At-check.kind c.in-Ok.ensures.tokens
    (subst (λ ts. Reads (spelled c.args.text.now ts) c.in-Ok-parse.tree) c.deref.ensures.value c.in-Ok-parse.ensures.tree)
    (subst (IsCause c.in-Ok-parse.tree) c.in-Err-At-check.field-0-is c.in-Err-At-check.ensures.refused)

pub returns-in-Err-At-parse : goal.returns-in-Err-At-parse
returns-in-Err-At-parse c =
    let told =
    syntax_verdict c.args.text.now c.args.first_line c.in-Ok.tokens.items c.in-Err-At-parse.line c.in-Ok.ensures.tokens
    (subst (λ ts. SyntaxRefuses (spelled c.args.text.now ts) c.in-Err-At-parse.line) c.deref.ensures.value
    (let h = rw c.in-Err-At-parse.field-0-is at c.in-Err-At-parse.ensures.refused in h)) in
    rw c.in-Err-At-parse.line-is told
