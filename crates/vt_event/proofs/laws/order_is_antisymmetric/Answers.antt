use Rattle.vt_event.proofs.Order.{before-not_after}
use Rattle.vt_event.proofs.laws.order_is_antisymmetric.Goals as goal

pub returns : goal.returns
returns c = λ p q. before-not_after p q
