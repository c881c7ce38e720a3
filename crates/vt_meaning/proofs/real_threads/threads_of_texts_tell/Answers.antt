use Rattle.vt_meaning.proofs.RealReach.{texts_tell}
use Rattle.vt_meaning.proofs.real_threads.threads_of_texts_tell.Goals as goal

pub returns : goal.returns
returns c = texts_tell c.threads_of_texts_act.ensures c.actions_are_within_limits.ensures c.events_have_paths_by_kind.ensures
