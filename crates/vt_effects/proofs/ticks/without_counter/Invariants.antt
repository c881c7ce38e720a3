use Rattle.std.proofs.Common.{◌≡◌, ◌++◌, length}
use Rattle.vt_run.specs.calls.TickCalls.{without_counter}
use Rattle.vt_effects.proofs.ticks.without_counter.Given as goal

abbrev pub invariant-loop-counter : goal.invariant-loop-counter
invariant-loop-counter l = l.others ++ without_counter l.name l.left ≡ without_counter l.name l.ticks

abbrev pub decreases-loop-counter : goal.decreases-loop-counter
decreases-loop-counter l = length l.left
