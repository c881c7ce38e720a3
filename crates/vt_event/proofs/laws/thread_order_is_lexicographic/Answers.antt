use Rattle.vt_event.proofs.Order.{thread-before, before-thread}
use Rattle.vt_event.proofs.laws.thread_order_is_lexicographic.Goals as goal

pub returns : goal.returns
returns c = λ p q. (thread-before p q, before-thread p q)
