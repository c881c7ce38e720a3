use Rattle.vt_ring.proofs.SortLemmas.{sorts}
use Rattle.vt_ring.proofs.laws.sort_is_in_order.Goals as goal

pub returns : goal.returns
returns c = sorts
