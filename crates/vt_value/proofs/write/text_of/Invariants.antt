use Rattle.std.proofs.Common.{◌≡◌, ◌+◌, ◌++◌}
use Rattle.vt_value.specs.Text.{value_text}
use Rattle.vt_value.specs.private.Walks.{left_text, left_weight}
use Rattle.vt_value.specs.private.Weights.{weight_of}
use Rattle.vt_value.proofs.write.text_of.Given as goal

abbrev pub invariant-loop-rings : goal.invariant-loop-rings
invariant-loop-rings l = l.text.items ++ value_text l.at ++ left_text l.rings.items ≡ value_text l.value

abbrev pub decreases-loop-rings : goal.decreases-loop-rings
decreases-loop-rings l = left_weight l.rings.items + weight_of l.at
