use Rattle.std.proofs.Common.{subst, sym}
use Rattle.vt_grammar.specs.Marks.{Mark}
use Rattle.vt_grammar.specs.Values.{HasValue, literal_of}
use Rattle.vt_grammar.specs.Grammar.{literal}
use Rattle.vt_parse.proofs.Rules.{exit, made, map_read, map_stuck, valued}
use Rattle.vt_parse.proofs.parser.Parser.literal.Goals as goal

pub returns-in_err-token : goal.returns-in_err-token
unfolding literal
returns-in_err-token c =
    exit _ _ _ _ _ _ _ c.from_residual.ensures.1 (λ h. map_stuck h) c.in_err-token.ensures.token

pub make_literal-requires : goal.make_literal-requires
make_literal-requires c =
    subst (λ (m : Mark). HasValue m.terminal m.bytes) (sym c.token.view_is) c.in_ok-token.ensures.value

pub returns : goal.returns
unfolding literal literal_of
returns c =
    made _ _ _ _ _ (map_read (valued c.token.view_is c.in_ok-token.ensures.token)) c.make_literal.ensures
