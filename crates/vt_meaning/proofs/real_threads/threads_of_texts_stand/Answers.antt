use Rattle.vt_meaning.proofs.RealThreads.{texts_stand}
use Rattle.vt_meaning.proofs.real_threads.threads_of_texts_stand.Goals as goal

pub returns : goal.returns
returns c = texts_stand c.fewer_steps_are_a_prefix.ensures c.actions_stand_in_place.ensures c.standing_tells_what_is_next.ensures
