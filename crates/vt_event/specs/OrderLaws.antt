-- The order of places is total and exact. The laws of `Ord` cite this.
use Rattle.std.specs.Cmp.{IsTotalOrder}
use Rattle.std.proofs.lemmas.Cmp.{on_total, then_total, nat_cmp_total, nat_list_cmp_total}
use Rattle.vt_frac.specs.OrderLaws.{order_total}
use Rattle.vt_event.specs.declared.place.PlaceRef.{PlaceRef}
use Rattle.vt_event.specs.Order.{place_order, place_of, thread_order}

pub thread_total : IsTotalOrder thread_order
thread_total = nat_list_cmp_total

pub place_total : IsTotalOrder place_order
place_total =
    then_total (on_total (λ p. p.time) order_total)
    (then_total (on_total (λ p. p.micro) nat_cmp_total)
    (then_total (on_total (λ p. p.thread) thread_total) (on_total (λ p. p.step) nat_cmp_total)))

pub place_ref_total : IsTotalOrder (λ (p q : PlaceRef). place_order (place_of p) (place_of q))
place_ref_total = on_total place_of place_total
