use Rattle.std.proofs.Common.{◌≡◌, ◌+◌, length}
use Rattle.vt_value.specs.Sizes.{sizes_of}
use Rattle.vt_ring.specs.private.Knitting.{knitted}
use Rattle.vt_ring.proofs.LimitLemmas.{capped}
use Rattle.vt_ring.proofs.within.is_knit_within.Given as goal

abbrev pub invariant-loop-left : goal.invariant-loop-left
invariant-loop-left l = record {
  items : capped (l.count + length (knitted l.left)) ≡ capped (length (knitted l.args));
  sizes : capped (l.size + sizes_of (knitted l.left)) ≡ capped (sizes_of (knitted l.args));
}

abbrev pub decreases-loop-left : goal.decreases-loop-left
decreases-loop-left l = length l.left
