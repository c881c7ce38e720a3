use Rattle.std.proofs.Common.{◌≡◌}
use Rattle.vt_ring.specs.Repeating.{repeated}
use Rattle.vt_ring.proofs.repeating.whole_times.Given as goal

abbrev pub invariant-loop-made : goal.invariant-loop-made
invariant-loop-made l = l.list ≡ repeated l._made l.items
