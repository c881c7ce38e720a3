use Rattle.std.proofs.Common.{◌≡◌, ◌++◌, length}
use Rattle.vt_ring.specs.private.Knitting.{knitted}
use Rattle.vt_ring.proofs.knitting.knitted.Given as goal

abbrev pub invariant-loop-left : goal.invariant-loop-left
invariant-loop-left l = l.items ++ knitted l.left ≡ knitted l.args

abbrev pub decreases-loop-left : goal.decreases-loop-left
decreases-loop-left l = length l.left
