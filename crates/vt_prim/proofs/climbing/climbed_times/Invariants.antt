use Rattle.std.proofs.Common.{◌≡◌}
use Rattle.vt_ring.specs.NoteCalls.{climbed, times}
use Rattle.vt_prim.specs.private.Adding.{value_of}
use Rattle.vt_prim.proofs.climbing.climbed_times.Given as goal

abbrev pub invariant-loop-left : goal.invariant-loop-left
invariant-loop-left l = climbed (value_of l.top) (times l.left l.steps) ≡ climbed (value_of l.initial.top) (times l.initial.left l.steps)

abbrev pub decreases-loop-left : goal.decreases-loop-left
decreases-loop-left l = l.left
