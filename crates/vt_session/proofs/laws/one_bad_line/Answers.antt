use Rattle.vt_session.proofs.LawLemmas.{one_bad_line as law}
use Rattle.vt_session.proofs.laws.one_bad_line.Goals as goal

pub returns : goal.returns
returns c = law
