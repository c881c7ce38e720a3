use Rattle.std.proofs.Common.{◌≡◌, Ok, take}
use Rattle.vt_ring.specs.Building.{bools_without_limit}
use Rattle.vt_ring.proofs.truths.truths.Given as goal

abbrev pub invariant-loop-arg : goal.invariant-loop-arg
invariant-loop-arg l = bools_without_limit (take l.arg-index l.args) ≡ Ok l.items
