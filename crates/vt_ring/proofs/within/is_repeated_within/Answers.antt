use Rattle.std.proofs.Common.{◌*◌, length, ◌∙◌}
use Rattle.vt_value.specs.Sizes.{sizes_of}
use Rattle.vt_ring.specs.Repeating.{repeated}
use Rattle.vt_ring.proofs.LimitLemmas.{within_by, length-repeated, sizes-repeated}
use Rattle.vt_ring.proofs.within.is_repeated_within.Goals as goal

pub returns : goal.returns
returns c =
    let items = c.args.items.now in
    let times = c.args.times in
    c.is_within_times.ensures ∙ within_by (repeated times items) (length items * times) (sizes_of items * times) (length-repeated times items) (sizes-repeated times items)
