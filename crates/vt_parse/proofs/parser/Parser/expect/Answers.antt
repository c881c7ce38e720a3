use Rattle.std.proofs.Common.{sym, ◌∙◌}
use Rattle.vt_parse.proofs.Rules.{terminal_read}
use Rattle.vt_parse.proofs.parser.Parser.expect.Goals as goal

pub returns-then-at : goal.returns-then-at
returns-then-at c = terminal_read (sym c.at.ensures ∙ c.if-at.true) c.bump.ensures.passed
