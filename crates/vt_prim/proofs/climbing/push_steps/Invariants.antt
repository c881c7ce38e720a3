use Rattle.std.proofs.Common.{◌≡◌, ℕ, List, ◌++◌, length}
use Rattle.vt_ring.specs.NoteCalls.{steps_up}
use Rattle.vt_prim.specs.private.Climbing.{behind}
use Rattle.vt_prim.specs.private.Adding.{value_of}
use Rattle.vt_prim.proofs.climbing.push_steps.Given as goal

abbrev pub invariant-loop-step : goal.invariant-loop-step
invariant-loop-step l = (more : List ℕ) → behind l.notes (steps_up (value_of l.top) (l.rest ++ more)) ≡ behind l.initial.notes (steps_up (value_of l.initial.top) (l.initial.rest ++ more))

abbrev pub decreases-loop-step : goal.decreases-loop-step
decreases-loop-step l = length l.rest
