use Rattle.vt_session.proofs.LawLemmas.{text_one_is_first as law}
use Rattle.vt_session.proofs.laws.text_one_is_first.Goals as goal

pub returns : goal.returns
returns c = law
