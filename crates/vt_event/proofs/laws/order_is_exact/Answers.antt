use Rattle.vt_event.proofs.Order.{place-equal, equal-place}
use Rattle.vt_event.proofs.laws.order_is_exact.Goals as goal

pub returns : goal.returns
returns c = λ p q. (place-equal p q, equal-place p q)
