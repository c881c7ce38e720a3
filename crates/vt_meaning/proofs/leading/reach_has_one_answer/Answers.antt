use Rattle.vt_meaning.proofs.ReachTold.{may_is_one}
use Rattle.vt_meaning.proofs.leading.reach_has_one_answer.Goals as goal

pub returns : goal.returns
returns c = may_is_one c.match_test_is_right.ensures
