use Rattle.std.proofs.Common.{◌↔◌, IsTrue, ◌∙◌, ap, subst, sym, Bool, ◌≡◌}
use Rattle.std.specs.Ordering.{is_lt}
use Rattle.vt_event.specs.Order.{IsBefore, place_of, place_order}
use Rattle.vt_state.proofs.ScanLemmas.{is_less}
use Rattle.vt_state.proofs.scan.is_before.Goals as goal

pub returns : goal.returns
returns c =
    let e : c.is_lt.result ≡ is_lt (place_order (place_of c.args.place.now) (place_of c.args.other.now)) = c.is_lt.ensures ∙ ap is_lt c.cmp.ensures in
    subst (λ (b : Bool). IsTrue b ↔ IsBefore (place_of c.args.place.now) (place_of c.args.other.now)) (sym e) (is_less (place_order (place_of c.args.place.now) (place_of c.args.other.now)))
