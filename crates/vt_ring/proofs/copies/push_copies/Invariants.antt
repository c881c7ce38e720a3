use Rattle.std.proofs.Common.{◌≡◌, ◌++◌, take}
use Rattle.vt_ring.proofs.copies.push_copies.Given as goal

abbrev pub invariant-loop-value : goal.invariant-loop-value
invariant-loop-value l = l.items ≡ l.initial.items ++ take l.value-index l.values
