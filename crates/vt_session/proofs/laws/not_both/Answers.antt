use Rattle.vt_session.proofs.LawLemmas.{not_both as law}
use Rattle.vt_session.proofs.laws.not_both.Goals as goal

pub returns : goal.returns
returns c = law
