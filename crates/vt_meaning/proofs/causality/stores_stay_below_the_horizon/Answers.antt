use Rattle.vt_meaning.proofs.CausalSessions.{stores_within}
use Rattle.vt_meaning.proofs.causality.stores_stay_below_the_horizon.Goals as goal

pub returns : goal.returns
returns c = stores_within
