use Rattle.std.proofs.Common.{◌≡◌, ◌^◌, ◌-◌, ◌+◌, ◌*◌, ◌≤◌, min, drop}
use Rattle.vt_value.specs.Sizes.{size_of, sizes_of}
use Rattle.vt_value.specs.private.Weights.{weight_of, weights_of}
use Rattle.vt_value.proofs.+size.Given as goal

abbrev pub invariant-size::sizes-loop-value : goal.invariant-size::sizes-loop-value
invariant-size::sizes-loop-value l = (min (2 ^ 64 - 1) (l.total + sizes_of (drop l.value-index l.values)) ≡ min (2 ^ 64 - 1) (sizes_of l.values)) × (weights_of (drop l.value-index l.values) ≤ weights_of l.values) × (l.total ≤ 2 ^ 64 - 1)

abbrev pub invariant-value::Value::size-loop-parts : goal.invariant-value::Value::size-loop-parts
invariant-value::Value::size-loop-parts l = (min (2 ^ 64 - 1) (l.before + size_of l.value) ≡ min (2 ^ 64 - 1) (size_of l.self)) × (weight_of l.value ≤ weight_of l.self)

abbrev pub decreases-value::Value::size-loop-parts : goal.decreases-value::Value::size-loop-parts
decreases-value::Value::size-loop-parts l = weight_of l.value

abbrev pub decreases-value::Value::size : goal.decreases-value::Value::size
decreases-value::Value::size l = 2 * weight_of l.self.now

abbrev pub decreases-size::sizes : goal.decreases-size::sizes
decreases-size::sizes l = 2 * weights_of l.values.now + 1
