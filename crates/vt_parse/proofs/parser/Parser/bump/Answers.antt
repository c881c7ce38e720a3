use Rattle.vt_parse.proofs.Heads.{head_rest, head_value}
use Rattle.vt_parse.proofs.parser.Parser.bump.Goals as goal

pub returns-clause-passed : goal.returns-clause-passed
returns-clause-passed c = rw (← c.self.view_is, c.number_with-self-inside.ensures, c.terminal_at-terminal.ensures) (head_rest _ _ _ _ c.in-len1-up.len_at_least)

pub returns-clause-value : goal.returns-clause-value
returns-clause-value c = rw c.terminal_at-terminal.ensures (head_value _ _ _ c.in-len1-up.len_at_least c.self.invariant.0)
