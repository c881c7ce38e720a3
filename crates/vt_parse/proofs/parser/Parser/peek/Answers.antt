use Rattle.vt_parse.proofs.Heads.{head_terminal}
use Rattle.vt_parse.proofs.parser.Parser.peek.Goals as goal

pub returns-in-len1-up : goal.returns-in-len1-up
returns-in-len1-up c = rw (← c.self.view_is, c.terminal_at.ensures) (head_terminal _ _ _ _ c.in-len1-up.len_at_least)
