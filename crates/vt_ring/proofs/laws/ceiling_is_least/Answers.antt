use Rattle.vt_ring.proofs.RoundingLemmas.{ceiling_least}
use Rattle.vt_ring.proofs.laws.ceiling_is_least.Goals as goal

pub returns : goal.returns
returns c = ceiling_least
