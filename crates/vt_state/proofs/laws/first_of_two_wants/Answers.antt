use Rattle.vt_state.proofs.LawLemmas.{first_alone, lesser, lesser_of_more, more_alone, neither}
use Rattle.vt_state.proofs.laws.first_of_two_wants.Goals as goal

pub returns : goal.returns
returns c = record { lesser = lesser; lesser_of_more = lesser_of_more; first_alone = first_alone; more_alone = more_alone; neither = neither }
