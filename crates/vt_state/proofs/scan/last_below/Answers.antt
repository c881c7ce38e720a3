use Rattle.vt_event.specs.Order.{place_of}
use Rattle.vt_state.proofs.ScanLemmas.{last_of_all, last_step, none_below_start}
use Rattle.vt_state.proofs.scan.last_below.Goals as goal

pub loop-event-init : goal.loop-event-init
loop-event-init c = none_below_start (place_of c.args.before.now) c.args.pattern.now

pub loop-event-preserved : goal.loop-event-preserved
loop-event-preserved c =
    last_step c.args.events.now (place_of c.args.before.now) c.args.pattern.now c.loop-event.event-index c.event-item.result c.loop-event.found c.later-found.result c.requires
    c.loop-event-test.true c.event-item.is c.loop-event.invariant c.later-found.ensures

pub returns : goal.returns
returns c = last_of_all c.args.events.now (place_of c.args.before.now) c.args.pattern.now c.loop-event.event-index c.loop-event.found c.loop-event-test.false c.loop-event.invariant
