use Rattle.vt_meaning.proofs.WholeScores.{scores_have_all}
use Rattle.vt_meaning.proofs.stores.scores_have_all_events.Goals as goal

pub returns : goal.returns
returns c = scores_have_all
