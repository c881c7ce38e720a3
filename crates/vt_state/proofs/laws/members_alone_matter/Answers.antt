use Rattle.vt_state.proofs.LawLemmas.{first_of_same, last_of_same, none_above_of_same, none_below_of_same}
use Rattle.vt_state.proofs.laws.members_alone_matter.Goals as goal

pub returns : goal.returns
returns c = record { last = last_of_same; none_below = none_below_of_same; first = first_of_same; none_above = none_above_of_same }
