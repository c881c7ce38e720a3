use Rattle.vt_lex.proofs.Uniqueness.{one_list as the_law}
use Rattle.vt_lex.proofs.laws.one_list_law.Goals as goal

pub returns : goal.returns
returns c = the_law
