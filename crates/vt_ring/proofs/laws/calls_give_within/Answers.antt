use Rattle.vt_ring.proofs.limits.Calls.{called_within}
use Rattle.vt_ring.proofs.laws.calls_give_within.Goals as goal

pub returns : goal.returns
returns c = called_within
