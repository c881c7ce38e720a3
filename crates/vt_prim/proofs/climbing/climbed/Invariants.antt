use Rattle.std.proofs.Common.{◌≡◌, length}
use Rattle.vt_ring.specs.NoteCalls.{climbed}
use Rattle.vt_prim.specs.private.Adding.{value_of}
use Rattle.vt_prim.proofs.climbing.climbed.Given as goal

abbrev pub invariant-loop-step : goal.invariant-loop-step
invariant-loop-step l = climbed (value_of l.top) l.rest ≡ climbed (value_of l.initial.top) l.initial.rest

abbrev pub decreases-loop-step : goal.decreases-loop-step
decreases-loop-step l = length l.rest
