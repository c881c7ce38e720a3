use Rattle.vt_parse.proofs.Heads.{head_line}
use Rattle.vt_parse.proofs.parser.Parser.line_here.Goals as goal

pub returns-in-len1-up : goal.returns-in-len1-up
returns-in-len1-up c = rw (← c.self.view_is) (head_line _ _ _ _ c.in-len1-up.len_at_least)
