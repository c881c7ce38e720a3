use Rattle.vt_run.proofs.steps.NextPlaces.{count_law}
use Rattle.vt_run.proofs.laws.numbers_follow_steps.Goals as goal

pub returns : goal.returns
returns c = count_law
