use Rattle.vt_ring.proofs.RoundingLemmas.{rounded_up_least}
use Rattle.vt_ring.proofs.laws.rounded_up_is_least.Goals as goal

pub returns : goal.returns
returns c = rounded_up_least
