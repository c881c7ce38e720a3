use Rattle.std.proofs.Common.{◌≡◌, ◌+◌}
use Rattle.vt_value.specs.private.Walks.{assembled, open_weight}
use Rattle.vt_value.specs.private.Weights.{weight_of}
use Rattle.vt_value.proofs.value.Value.copy.Given as goal

abbrev pub invariant-loop-rings : goal.invariant-loop-rings
invariant-loop-rings l = assembled l.rings.items l.value ≡ l.self

abbrev pub decreases-loop-rings : goal.decreases-loop-rings
decreases-loop-rings l = open_weight l.rings.items + weight_of l.value
