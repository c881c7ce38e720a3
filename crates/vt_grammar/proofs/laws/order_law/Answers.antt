use Rattle.vt_grammar.proofs.OrderTexts.{in_order}
use Rattle.vt_grammar.proofs.laws.order_law.Goals as goal

pub returns : goal.returns
returns c = in_order
