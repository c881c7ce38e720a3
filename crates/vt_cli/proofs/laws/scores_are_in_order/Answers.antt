use Rattle.vt_cli.proofs.Scores.{in_order}
use Rattle.vt_cli.proofs.laws.scores_are_in_order.Goals as goal

pub returns : goal.returns
returns c = in_order
