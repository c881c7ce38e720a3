use Rattle.std.proofs.Common.{◌≡◌}
use Rattle.vt_ring.specs.NoteCalls.{steps_up, times}
use Rattle.vt_prim.specs.private.Climbing.{behind}
use Rattle.vt_prim.specs.private.Adding.{value_of}
use Rattle.vt_prim.proofs.climbing.push_times.Given as goal

abbrev pub invariant-loop-left : goal.invariant-loop-left
invariant-loop-left l = behind l.notes (steps_up (value_of l.top) (times l.left l.steps)) ≡ behind l.initial.notes (steps_up (value_of l.initial.top) (times l.initial.left l.steps))

abbrev pub decreases-loop-left : goal.decreases-loop-left
decreases-loop-left l = l.left
