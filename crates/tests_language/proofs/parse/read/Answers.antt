use Rattle.std.proofs.Common.{◌≤◌, ap, sym, subst, length, arith}
use Rattle.vt_grammar.specs.Tokens.{AreTokens}
use Rattle.vt_parse.proofs.Lexed.{lexed_are_few, lexed_are_tokens}
use Rattle.tests_language.proofs.parse.read.Goals as goal

pub parse-requires-clause-tokens : goal.parse-requires-clause-tokens
parse-requires-clause-tokens c =
    subst (AreTokens c.args.text.now) (sym c.deref.ensures.value) (lexed_are_tokens c.args.text.now 1 c.in_ok-tokens.tokens.items c.in_ok-tokens.ensures.tokens)

pub parse-requires-clause-short : goal.parse-requires-clause-short
parse-requires-clause-short c =
    let few : length c.in_ok-tokens.tokens.items ≤ length c.args.text.now = lexed_are_few c.args.text.now 1 c.in_ok-tokens.tokens.items c.in_ok-tokens.ensures.tokens in
    let same = ap length c.deref.ensures.value in
    let short : length c.args.text.now ≤ 1048576 = c.requires in
    omega (arith, few, same, short)
