use Rattle.vt_meaning.proofs.ReachTold.{texts_act_by_reach}
use Rattle.vt_meaning.proofs.leading.threads_of_checked_texts_have_the_laws.Goals as goal

pub returns : goal.returns
returns c = texts_act_by_reach c.functions_tell_the_reach.ensures c.threads_of_texts_keep_within_their_reach.ensures
