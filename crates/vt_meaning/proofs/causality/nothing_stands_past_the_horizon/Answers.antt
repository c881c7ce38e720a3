use Rattle.vt_meaning.proofs.CausalSessions.{all_within}
use Rattle.vt_meaning.proofs.causality.nothing_stands_past_the_horizon.Goals as goal

pub returns : goal.returns
returns c = λ m opening s w ws q e h. all_within m opening s w ws q e h
