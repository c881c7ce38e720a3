use Rattle.vt_meaning.proofs.RealThreads.{texts_are_prompt}
use Rattle.vt_meaning.proofs.real_threads.threads_of_texts_are_prompt.Goals as goal

pub returns : goal.returns
returns c = texts_are_prompt c.fewer_steps_are_a_prefix.ensures c.actions_stand_in_place.ensures c.standing_tells_what_is_next.ensures c.children_are_numbered.ensures
