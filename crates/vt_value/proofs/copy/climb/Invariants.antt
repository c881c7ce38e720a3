use Rattle.std.proofs.Common.{◌≡◌, ◌≤◌, vec_len}
use Rattle.vt_value.specs.private.Walks.{assembled, open_weight}
use Rattle.vt_value.proofs.copy.climb.Given as goal

abbrev pub invariant-loop-ring : goal.invariant-loop-ring
invariant-loop-ring l = (assembled l.rings.items l.copied ≡ assembled l.initial.rings.items l.initial.copied) × (open_weight l.rings.items ≤ open_weight l.initial.rings.items)

abbrev pub decreases-loop-ring : goal.decreases-loop-ring
decreases-loop-ring l = vec_len l.rings
