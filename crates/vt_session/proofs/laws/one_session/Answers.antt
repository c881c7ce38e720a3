use Rattle.vt_session.proofs.LawLemmas.{one_session as law}
use Rattle.vt_session.proofs.laws.one_session.Goals as goal

pub returns : goal.returns
returns c = law
