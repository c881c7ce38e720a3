use Rattle.vt_meaning.proofs.RealReach.{texts_breed}
use Rattle.vt_meaning.proofs.real_threads.threads_of_texts_breed.Goals as goal

pub returns : goal.returns
returns c = texts_breed c.threads_of_texts_act.ensures c.actions_are_within_limits.ensures
