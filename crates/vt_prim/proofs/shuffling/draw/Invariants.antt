use Rattle.std.proofs.Common.{◌≡◌}
use Rattle.vt_ring.specs.Streams.{moved_on}
use Rattle.vt_prim.proofs.shuffling.draw.Given as goal

abbrev pub invariant-loop-k : goal.invariant-loop-k
invariant-loop-k l = l.stream ≡ moved_on l._k l.initial.stream
