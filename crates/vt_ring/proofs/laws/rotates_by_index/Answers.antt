use Rattle.vt_ring.proofs.RotationLemmas.{rotates}
use Rattle.vt_ring.proofs.laws.rotates_by_index.Goals as goal

pub returns : goal.returns
returns c = rotates
