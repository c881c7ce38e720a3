use Rattle.std.proofs.Common.{◌≡◌, ◌++◌, length, reverse}
use Rattle.vt_ring.proofs.copies.push_backwards.Given as goal

abbrev pub invariant-loop-last : goal.invariant-loop-last
invariant-loop-last l = l.items ++ reverse l.left ≡ l.initial.items ++ reverse l.values

abbrev pub decreases-loop-last : goal.decreases-loop-last
decreases-loop-last l = length l.left
