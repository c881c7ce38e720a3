use Rattle.std.proofs.Common.{[], ◌∷◌}
use Rattle.vt_event.specs.Order.{place_of}
use Rattle.vt_state.proofs.ScanLemmas.{first_of_all, first_step, none_above_start}
use Rattle.vt_state.proofs.scan.first_above.Goals as goal

pub loop-event-init : goal.loop-event-init
loop-event-init c = none_above_start (place_of c.args.after.now) (c.args.pattern.now ∷ [])

pub loop-event-preserved : goal.loop-event-preserved
loop-event-preserved c =
    first_step c.args.events.now (place_of c.args.after.now) (c.args.pattern.now ∷ []) c.loop-event.event-index c.event-item.result c.loop-event.found c.earlier-found.result c.requires
    c.loop-event-test.true c.event-item.is c.loop-event.invariant c.earlier-found.ensures

pub returns : goal.returns
returns c = first_of_all c.args.events.now (place_of c.args.after.now) (c.args.pattern.now ∷ []) c.loop-event.event-index c.loop-event.found c.loop-event-test.false c.loop-event.invariant
