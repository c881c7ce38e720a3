use Rattle.std.proofs.Common.{length, arith}
use Rattle.vt_value.specs.Sizes.{sizes_of}
use Rattle.vt_ring.specs.private.Knitting.{knitted}
use Rattle.vt_ring.proofs.LimitLemmas.{capped, knit_count, knit_size}
use Rattle.vt_ring.proofs.within.is_knit_within.Goals as goal

pub loop-left-preserved : goal.loop-left-preserved
loop-left-preserved c =
    let left = c.loop-left.left.now in
    let times = c.count_or_zero-times.result in
    record {
      items = knit_count left c.value-item.result c.copies-item.result c.loop-left.count c.saturating_add-count.result times (capped (length (knitted c.args.args.now))) c.in-len2-up.len_at_least c.value-item.is c.copies-item.is c.count_or_zero-times.ensures (omega (arith, c.saturating_add-count.ensures)) c.loop-left.invariant.items;
      sizes = knit_size left c.value-item.result c.copies-item.result c.loop-left.size c.saturating_add-size.result times c.size.result c.saturating_mul.result (capped (sizes_of (knitted c.args.args.now))) c.in-len2-up.len_at_least c.value-item.is c.copies-item.is c.count_or_zero-times.ensures c.size.ensures (omega (arith, c.saturating_mul.ensures)) (omega (arith, c.saturating_add-size.ensures)) c.loop-left.invariant.sizes;
    }
