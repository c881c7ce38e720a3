use Rattle.std.proofs.Common.{◌≡◌, ◌++◌, replicate}
use Rattle.vt_ring.proofs.copies.push_times.Given as goal

abbrev pub invariant-loop-made : goal.invariant-loop-made
invariant-loop-made l = l.items ≡ l.initial.items ++ replicate l._made l.value
