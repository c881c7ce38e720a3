use Rattle.vt_session.proofs.LineLemmas.{nothing_lost as law}
use Rattle.vt_session.proofs.laws.nothing_is_lost.Goals as goal

pub returns : goal.returns
returns c = law
