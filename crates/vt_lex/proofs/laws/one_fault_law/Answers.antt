use Rattle.vt_lex.proofs.Uniqueness.{one_fault as the_law}
use Rattle.vt_lex.proofs.laws.one_fault_law.Goals as goal

pub returns : goal.returns
returns c = the_law
