use Rattle.vt_meaning.proofs.RestingThreads.{clear_true, true_clear}
use Rattle.vt_meaning.proofs.stores.front_is_tested.Goals as goal

pub returns : goal.returns
returns c = λ m opening these p. (clear_true m opening these p, true_clear m opening these p)
