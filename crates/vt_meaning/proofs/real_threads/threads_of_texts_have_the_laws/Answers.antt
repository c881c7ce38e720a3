use Rattle.vt_meaning.proofs.RealReach.{texts_are_acts}
use Rattle.vt_meaning.proofs.real_threads.threads_of_texts_have_the_laws.Goals as goal

pub returns : goal.returns
returns c = texts_are_acts c.threads_of_texts_act.ensures c.threads_of_texts_move.ensures c.threads_of_texts_breed.ensures c.threads_of_texts_tell.ensures
