use Rattle.std.proofs.Common.{◌≤◌, ap, sym, subst, length, arith}
use Rattle.vt_grammar.specs.Formed.{AreFormed}
use Rattle.vt_grammar.specs.Tokens.{AreTokens, spelled}
use Rattle.vt_grammar.proofs.FormedTexts.{formed_where_lexed, formed_where_read}
use Rattle.vt_parse.proofs.Lexed.{lexed_are_few, lexed_are_tokens}
use Rattle.tests_language.proofs.check.checked_of.Goals as goal

pub parse-requires-clause-tokens : goal.parse-requires-clause-tokens
parse-requires-clause-tokens c =
    subst (AreTokens c.args.text.now) (sym c.deref.ensures.value) (lexed_are_tokens c.args.text.now 1 c.in-Ok.tokens.items c.in-Ok.ensures.tokens)

pub parse-requires-clause-short : goal.parse-requires-clause-short
parse-requires-clause-short c =
    let few : length c.in-Ok.tokens.items ≤ length c.args.text.now = lexed_are_few c.args.text.now 1 c.in-Ok.tokens.items c.in-Ok.ensures.tokens in
    let same = ap length c.deref.ensures.value in
    let short : length c.args.text.now ≤ 1048576 = c.requires in
    omega (arith, few, same, short)

pub check-requires : goal.check-requires
check-requires c =
    formed_where_read (spelled c.args.text.now c.deref.result.now) c.in-Ok-parse.tree
    (subst (λ ts. AreFormed (spelled c.args.text.now ts)) (sym c.deref.ensures.value) (formed_where_lexed c.args.text.now 1 c.in-Ok.tokens.items c.in-Ok.ensures.tokens))
    c.in-Ok-parse.ensures.tree
