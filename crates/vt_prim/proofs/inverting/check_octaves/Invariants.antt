use Rattle.std.proofs.Common.{length}
use Rattle.vt_prim.specs.private.Climbing.{SameEnd}
use Rattle.vt_prim.specs.private.Inverting.{all_up}
use Rattle.vt_prim.proofs.inverting.check_octaves.Given as goal

abbrev pub invariant-loop-item : goal.invariant-loop-item
invariant-loop-item l = SameEnd (all_up l.octaves l.rest) (all_up l.octaves l.initial.rest)

abbrev pub decreases-loop-item : goal.decreases-loop-item
decreases-loop-item l = length l.rest
