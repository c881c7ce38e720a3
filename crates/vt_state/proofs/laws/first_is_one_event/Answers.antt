use Rattle.vt_state.proofs.LawLemmas.{one_first}
use Rattle.vt_state.proofs.laws.first_is_one_event.Goals as goal

pub returns : goal.returns
returns c = λ events place wants event other. one_first events place wants event other
