use Rattle.vt_meaning.proofs.RealOpening.{openings_are_within}
use Rattle.vt_meaning.proofs.real_threads.openings_are_within.Goals as goal

pub returns : goal.returns
returns c = openings_are_within c.openings_are_orderly.ensures c.threads_of_texts_are_prompt.ensures
