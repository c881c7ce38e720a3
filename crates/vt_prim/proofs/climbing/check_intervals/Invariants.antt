use Rattle.std.proofs.Common.{◌≡◌, length, Err, IsOk}
use Rattle.vt_value.specs.declared.fault.FaultKind.{FaultKind}
use Rattle.vt_ring.specs.NoteCalls.{intervals_above}
use Rattle.vt_prim.specs.private.Climbing.{SameEnd}
use Rattle.vt_prim.specs.private.Adding.{value_of}
use Rattle.vt_prim.proofs.climbing.check_intervals.Given as goal

abbrev pub invariant-loop-interval : goal.invariant-loop-interval
invariant-loop-interval l = SameEnd (intervals_above (value_of l.note) l.rest) (intervals_above (value_of l.note) l.initial.rest)

abbrev pub decreases-loop-interval : goal.decreases-loop-interval
decreases-loop-interval l = length l.rest
