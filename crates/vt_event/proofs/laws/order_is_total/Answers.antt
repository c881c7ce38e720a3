use Rattle.vt_event.proofs.Order.{compared}
use Rattle.vt_event.proofs.laws.order_is_total.Goals as goal

pub returns : goal.returns
returns c = λ p q. compared p q
