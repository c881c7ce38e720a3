use Rattle.std.proofs.Common.{◌≡◌, ◌≤◌, ◌+◌}
use Rattle.vt_value.specs.private.Walks.{assembled, open_weight}
use Rattle.vt_value.specs.private.Weights.{weight_of}
use Rattle.vt_value.proofs.copy.copy_first.Given as goal

abbrev pub invariant-loop-first : goal.invariant-loop-first
invariant-loop-first l = (assembled l.rings.items l.at ≡ assembled l.initial.rings.items l.initial.at) × (open_weight l.rings.items + weight_of l.at ≤ open_weight l.initial.rings.items + weight_of l.initial.at)

abbrev pub decreases-loop-first : goal.decreases-loop-first
decreases-loop-first l = weight_of l.at
