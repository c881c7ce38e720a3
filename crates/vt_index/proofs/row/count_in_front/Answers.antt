use Rattle.std.proofs.Common.{◌+◌, ◌-◌, ◌/◌, ◌<◌, arith}
use Rattle.vt_event.specs.Order.{place_of}
use Rattle.vt_index.proofs.CutLemmas.{behind_from, cut_found, front_up_to, middle_below}
use Rattle.vt_index.proofs.row.count_in_front.Goals as goal

pub halves-preserved-then-is_in_front : goal.halves-preserved-then-is_in_front
halves-preserved-then-is_in_front c =
    let middle = c.halves.low + (c.halves.high - c.halves.low) / 2 in
    let below : middle < c.halves.high = middle_below c.halves.low c.halves.high c.halves-test.true in
    record {
      order = omega (arith, below);
      within = c.halves.invariant.within;
      front = front_up_to c.args.events.now c.args.at.now c.args.side (place_of c.args.place.now) middle c.event_at.ensures.position c.event_at.result.now c.requires.rising
          c.event_at.ensures.leads c.event_at.ensures.stands c.if-is_in_front.ensures;
      behind = c.halves.invariant.behind;
    }

pub halves-preserved : goal.halves-preserved
halves-preserved c =
    let middle = c.halves.low + (c.halves.high - c.halves.low) / 2 in
    let below : middle < c.halves.high = middle_below c.halves.low c.halves.high c.halves-test.true in
    record {
      order = omega arith;
      within = omega (arith, below, c.halves.invariant.within);
      front = c.halves.invariant.front;
      behind = behind_from c.args.events.now c.args.at.now c.args.side (place_of c.args.place.now) middle c.event_at.ensures.position c.event_at.result.now c.requires.rising
          c.event_at.ensures.leads c.event_at.ensures.stands c.if-is_in_front.ensures;
    }

pub returns : goal.returns
returns c =
    cut_found c.args.events.now c.args.at.now c.args.side (place_of c.args.place.now) c.halves.low c.halves.high c.halves-test.false c.halves.invariant.within c.halves.invariant.order
    c.halves.invariant.front c.halves.invariant.behind
