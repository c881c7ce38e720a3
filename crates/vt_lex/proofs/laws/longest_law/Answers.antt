use Rattle.vt_lex.proofs.Longest.{longest_operator}
use Rattle.vt_lex.proofs.Taken.{longest_taken}
use Rattle.vt_lex.proofs.laws.longest_law.Goals as goal

pub returns-clause-taken : goal.returns-clause-taken
returns-clause-taken c = longest_taken

pub returns-clause-operators : goal.returns-clause-operators
returns-clause-operators c = longest_operator
