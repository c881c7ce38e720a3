use Rattle.std.proofs.Common.{◌∙◌, ap, sym}
use Rattle.std.specs.Option.{option_copied}
use Rattle.vt_parse.proofs.LastLine.{last_is_end}
use Rattle.vt_parse.proofs.syntax.last_line.Goals as goal

pub returns-in-Some : goal.returns-in-Some
returns-in-Some c = last_is_end c.args.tokens.now c.in-Some.token.now (sym c.last.ensures.value ∙ ap option_copied c.in-Some.is)
