use Rattle.vt_event.specs.OrderLaws.{place_total}
use Rattle.vt_event.proofs.laws.order_is_transitive.Goals as goal

pub returns : goal.returns
returns c = λ p q r h k. place_total.trans p q r h k
