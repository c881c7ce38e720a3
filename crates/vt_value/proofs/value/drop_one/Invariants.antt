use Rattle.std.proofs.Common.{◌≤◌, ◌+◌}
use Rattle.vt_value.specs.private.Weights.{weight_of, weights_of}
use Rattle.vt_value.proofs.value.drop_one.Given as goal

abbrev pub invariant-loop-ring : goal.invariant-loop-ring
invariant-loop-ring l = weights_of l.outer.items + weight_of l.value ≤ weights_of l.initial.outer.items + weight_of l.initial.value

abbrev pub decreases-loop-ring : goal.decreases-loop-ring
decreases-loop-ring l = weight_of l.value
