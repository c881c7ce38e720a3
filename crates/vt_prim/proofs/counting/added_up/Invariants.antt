use Rattle.std.proofs.Common.{◌≡◌, length}
use Rattle.vt_ring.specs.CountCalls.{added_up}
use Rattle.vt_prim.specs.private.Adding.{value_of}
use Rattle.vt_prim.proofs.counting.added_up.Given as goal

abbrev pub invariant-loop-first : goal.invariant-loop-first
invariant-loop-first l = added_up (value_of l.total) l.rest ≡ added_up (value_of l.initial.total) l.initial.rest

abbrev pub decreases-loop-first : goal.decreases-loop-first
decreases-loop-first l = length l.rest
