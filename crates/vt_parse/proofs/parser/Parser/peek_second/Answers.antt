use Rattle.vt_parse.proofs.Heads.{head_no_second, head_second}
use Rattle.vt_parse.proofs.parser.Parser.peek_second.Goals as goal

pub returns-in_default : goal.returns-in_default
returns-in_default c = rw (← c.self.view_is) (head_no_second _ _ _ c.in_default.len_below)

pub returns-in-len2-up : goal.returns-in-len2-up
returns-in-len2-up c = rw (← c.self.view_is, c.terminal_at.ensures) (head_second _ _ _ _ c.in-len2-up.len_at_least)
