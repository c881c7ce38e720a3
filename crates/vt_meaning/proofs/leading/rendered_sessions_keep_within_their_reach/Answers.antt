use Rattle.vt_meaning.proofs.ReachTold.{rendered_by_reach}
use Rattle.vt_meaning.proofs.leading.rendered_sessions_keep_within_their_reach.Goals as goal

pub returns : goal.returns
returns c = rendered_by_reach c.functions_tell_the_reach.ensures c.threads_of_texts_lead.ensures c.openings_begin_as_texts_can.ensures
