use Rattle.std.proofs.Common.{◌-◌, length, arith}
use Rattle.vt_event.specs.Order.{place_of}
use Rattle.vt_index.proofs.CutLemmas.{all_in_front, told}
use Rattle.vt_index.proofs.row.are_in_front.Goals as goal

pub returns : goal.returns
returns c =
    told c.is_in_front.result _ _ _ c.is_in_front.ensures
    (λ front. all_in_front c.args.events.now c.args.at.now (place_of c.args.place.now) (length c.args.at.now - 1) c.event_at.ensures.position c.event_at.result.now c.requires.rising
    (omega (arith, c.if-count-eq0.false)) c.event_at.ensures.leads c.event_at.ensures.stands front)
