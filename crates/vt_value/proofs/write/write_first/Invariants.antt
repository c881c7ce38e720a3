use Rattle.std.proofs.Common.{◌≡◌, ◌≤◌, ◌+◌, ◌++◌}
use Rattle.vt_value.specs.Text.{value_text}
use Rattle.vt_value.specs.private.Walks.{left_text, left_weight}
use Rattle.vt_value.specs.private.Weights.{weight_of}
use Rattle.vt_value.proofs.write.write_first.Given as goal

abbrev pub invariant-loop-first : goal.invariant-loop-first
invariant-loop-first l = (l.text.items ++ value_text l.at ++ left_text l.rings.items ≡ l.initial.text.items ++ value_text l.initial.at ++ left_text l.initial.rings.items) × (left_weight l.rings.items + weight_of l.at ≤ left_weight l.initial.rings.items + weight_of l.initial.at)

abbrev pub decreases-loop-first : goal.decreases-loop-first
decreases-loop-first l = weight_of l.at
