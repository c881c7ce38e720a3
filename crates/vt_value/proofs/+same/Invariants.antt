use Rattle.std.proofs.Common.{◌≡◌, ◌+◌, ◌*◌, ◌≤◌, drop, length}
use Rattle.vt_value.specs.Same.{same_as, all_same_as}
use Rattle.vt_value.specs.private.Weights.{weight_of, weights_of}
use Rattle.vt_value.proofs.+same.Given as goal

abbrev pub invariant-same::all_same-loop-i : goal.invariant-same::all_same-loop-i
invariant-same::all_same-loop-i l = (all_same_as (drop l.i l.left) (drop l.i l.right) ≡ all_same_as l.left l.right) × (weights_of (drop l.i l.left) ≤ weights_of l.left) × (length l.left ≡ length l.right)

abbrev pub invariant-value::Value::same-loop-parts : goal.invariant-value::Value::same-loop-parts
invariant-value::Value::same-loop-parts l = (same_as l.left l.right ≡ same_as l.self l.other) × (weight_of l.left ≤ weight_of l.self)

abbrev pub decreases-value::Value::same-loop-parts : goal.decreases-value::Value::same-loop-parts
decreases-value::Value::same-loop-parts l = weight_of l.left

abbrev pub decreases-value::Value::same : goal.decreases-value::Value::same
decreases-value::Value::same l = 2 * weight_of l.self.now

abbrev pub decreases-same::all_same : goal.decreases-same::all_same
decreases-same::all_same l = 2 * weights_of l.left.now + 1
