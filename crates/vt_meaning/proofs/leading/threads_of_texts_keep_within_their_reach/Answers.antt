use Rattle.vt_meaning.proofs.RealLeading.{texts_reach}
use Rattle.vt_meaning.proofs.leading.threads_of_texts_keep_within_their_reach.Goals as goal

pub returns : goal.returns
returns c = texts_reach c.threads_of_texts_lead.ensures c.threads_of_texts_have_the_laws.ensures
