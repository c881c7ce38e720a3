use Rattle.vt_meaning.proofs.RealThreads.{texts_start_low}
use Rattle.vt_meaning.proofs.real_threads.threads_of_texts_start_low.Goals as goal

pub returns : goal.returns
returns c = texts_start_low c.fewer_steps_are_a_prefix.ensures c.actions_stand_in_place.ensures c.standing_tells_what_is_next.ensures c.children_are_numbered.ensures
