use Rattle.std.proofs.Common.{◌≡◌, length}
use Rattle.vt_ring.specs.NoteCalls.{intervals_above}
use Rattle.vt_prim.specs.private.Climbing.{behind}
use Rattle.vt_prim.specs.private.Adding.{value_of}
use Rattle.vt_prim.proofs.climbing.notes_above.Given as goal

abbrev pub invariant-loop-interval : goal.invariant-loop-interval
invariant-loop-interval l = behind l.notes (intervals_above (value_of l.note) l.rest) ≡ intervals_above (value_of l.note) l.initial.rest

abbrev pub decreases-loop-interval : goal.decreases-loop-interval
decreases-loop-interval l = length l.rest
