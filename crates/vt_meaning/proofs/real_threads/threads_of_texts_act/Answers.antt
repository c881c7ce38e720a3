use Rattle.vt_meaning.proofs.RealThreads.{texts_act}
use Rattle.vt_meaning.proofs.real_threads.threads_of_texts_act.Goals as goal

pub returns : goal.returns
returns c = texts_act c.fewer_steps_are_a_prefix.ensures c.actions_stand_in_place.ensures c.standing_tells_what_is_next.ensures c.answers_only_extend.ensures c.each_step_costs.ensures c.children_are_numbered.ensures
