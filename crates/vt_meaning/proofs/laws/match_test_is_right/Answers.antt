use Rattle.vt_meaning.proofs.Matching.{match_test_is_right}
use Rattle.vt_meaning.proofs.laws.match_test_is_right.Goals as goal

pub returns : goal.returns
returns c = match_test_is_right
