use Rattle.vt_meaning.proofs.ReachTold.{texts_tell_reach}
use Rattle.vt_meaning.proofs.leading.functions_tell_the_reach.Goals as goal

pub returns : goal.returns
returns c = texts_tell_reach c.match_test_is_right.ensures
