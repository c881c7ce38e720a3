use Rattle.std.proofs.Common.{refl}
use Rattle.vt_rand.specs.Draw.{below_of}
use Rattle.vt_ring.proofs.shuffling.below.Goals as goal

pub returns-clause-value : goal.returns-clause-value
unfolding below_of
returns-clause-value c = rw c.from.ensures refl
