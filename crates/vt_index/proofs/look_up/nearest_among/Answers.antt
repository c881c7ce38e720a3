use Rattle.std.proofs.Common.{sym}
use Rattle.vt_event.specs.Order.{place_of}
use Rattle.vt_index.proofs.LookUpLemmas.{none_at_start, rows_end, rows_step}
use Rattle.vt_index.proofs.look_up.nearest_among.Goals as goal

pub nearer-found-requires : goal.nearer-found-requires
nearer-found-requires c = c.requires c.row-item.result (c.loop-row.row-index, c.loop-row-test.true, sym c.row-item.is)

pub loop-row-init : goal.loop-row-init
loop-row-init c = none_at_start c.args.events.now c.args.pattern.now c.args.side (place_of c.args.place.now)

pub loop-row-preserved : goal.loop-row-preserved
loop-row-preserved c =
    rows_step c.args.events.now c.args.rows.now c.loop-row.row-index c.row-item.result c.args.pattern.now c.args.side (place_of c.args.place.now) c.loop-row.found c.nearer-found.result
    c.loop-row-test.true c.row-item.is c.loop-row.invariant c.nearer-found.ensures

pub returns : goal.returns
returns c =
    rows_end c.args.events.now c.args.rows.now c.loop-row.row-index c.args.pattern.now c.args.side (place_of c.args.place.now) c.loop-row.found c.loop-row-test.false c.loop-row.invariant
