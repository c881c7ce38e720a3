use Rattle.vt_lex.proofs.Uniqueness.{always as the_law}
use Rattle.vt_lex.proofs.laws.always_law.Goals as goal

pub returns : goal.returns
returns c = the_law
