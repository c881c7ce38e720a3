use Rattle.vt_lex.proofs.Uniqueness.{lexed_or_refused as the_law}
use Rattle.vt_lex.proofs.laws.apart_law.Goals as goal

pub returns : goal.returns
returns c = the_law
