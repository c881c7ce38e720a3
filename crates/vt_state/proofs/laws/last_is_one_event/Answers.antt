use Rattle.vt_state.proofs.LawLemmas.{one_last}
use Rattle.vt_state.proofs.laws.last_is_one_event.Goals as goal

pub returns : goal.returns
returns c = λ events place pattern event other. one_last events place pattern event other
