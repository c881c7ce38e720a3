use Rattle.std.proofs.Common.{◌≡◌, ◌≤◌, ◌++◌, vec_len}
use Rattle.vt_value.specs.private.Walks.{left_text, left_weight}
use Rattle.vt_value.proofs.write.write_on.Given as goal

abbrev pub invariant-loop-ring : goal.invariant-loop-ring
invariant-loop-ring l = (l.text.items ++ left_text l.rings.items ≡ l.initial.text.items ++ left_text l.initial.rings.items) × (left_weight l.rings.items ≤ left_weight l.initial.rings.items)

abbrev pub decreases-loop-ring : goal.decreases-loop-ring
decreases-loop-ring l = vec_len l.rings
