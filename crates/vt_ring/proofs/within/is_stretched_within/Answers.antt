use Rattle.std.proofs.Common.{◌*◌, length, ◌∙◌}
use Rattle.vt_value.specs.Sizes.{sizes_of}
use Rattle.vt_ring.specs.Repeating.{stretched}
use Rattle.vt_ring.proofs.LimitLemmas.{within_by, length-stretched, sizes-stretched}
use Rattle.vt_ring.proofs.within.is_stretched_within.Goals as goal

pub returns : goal.returns
returns c =
    let items = c.args.items.now in
    let times = c.args.times in
    c.is_within_times.ensures ∙ within_by (stretched times items) (length items * times) (sizes_of items * times) (length-stretched times items) (sizes-stretched times items)
