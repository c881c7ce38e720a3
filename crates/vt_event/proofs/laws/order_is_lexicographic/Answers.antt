use Rattle.vt_event.proofs.Order.{place-before, before-place}
use Rattle.vt_event.proofs.laws.order_is_lexicographic.Goals as goal

pub returns : goal.returns
returns c = λ p q. (place-before p q, before-place p q)
