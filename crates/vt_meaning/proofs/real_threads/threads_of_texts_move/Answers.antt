use Rattle.vt_meaning.proofs.RealReach.{texts_move}
use Rattle.vt_meaning.proofs.real_threads.threads_of_texts_move.Goals as goal

pub returns : goal.returns
returns c = texts_move c.threads_of_texts_act.ensures c.actions_are_within_limits.ensures
