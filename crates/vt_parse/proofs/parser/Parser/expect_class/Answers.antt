use Rattle.std.proofs.Common.{sym, ◌∙◌}
use Rattle.vt_parse.proofs.Rules.{among_read}
use Rattle.vt_parse.proofs.parser.Parser.expect_class.Goals as goal

pub returns-then-at_class-clause-token : goal.returns-then-at_class-clause-token
returns-then-at_class-clause-token c = among_read _ (sym c.at_class.ensures ∙ c.if-at_class.true) c.bump.ensures.passed
