use Rattle.std.proofs.Common.{◌-◌, arith}
use Rattle.vt_event.specs.Order.{place_of}
use Rattle.vt_index.proofs.CutLemmas.{found_above_at, found_below_at, none_above_at, none_below_at}
use Rattle.vt_index.proofs.row.nearest_in_row.Goals as goal

pub returns-then-count-eq0 : goal.returns-then-count-eq0
returns-then-count-eq0 c =
    none_below_at c.args.events.now c.args.at.now c.args.side (place_of c.args.place.now) c.count_in_front-count.result c.in-Below.is c.count_in_front-count.ensures c.if-count-eq0.true

pub returns-else-count-eq0 : goal.returns-else-count-eq0
returns-else-count-eq0 c =
    found_below_at c.args.events.now c.args.at.now c.args.side (place_of c.args.place.now) c.count_in_front-count.result (c.count_in_front-count.result - 1) c.event_at.result.now c.in-Below.is
    c.requires.rising c.count_in_front-count.ensures (omega (arith, c.if-count-eq0.false)) c.event_at.ensures

pub returns-then-count-at : goal.returns-then-count-at
returns-then-count-at c =
    none_above_at c.args.events.now c.args.at.now c.args.side (place_of c.args.place.now) c.count_in_front-count.result c.in-Above.is c.count_in_front-count.ensures c.if-count-at.true

pub returns-else-count-at : goal.returns-else-count-at
returns-else-count-at c =
    found_above_at c.args.events.now c.args.at.now c.args.side (place_of c.args.place.now) c.count_in_front-count.result c.event_at-in-Above.result.now c.in-Above.is
    c.requires.rising c.count_in_front-count.ensures c.event_at-in-Above.ensures
