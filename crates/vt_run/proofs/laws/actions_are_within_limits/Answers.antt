use Rattle.vt_run.proofs.steps.ThreadSteps.{limits_law}
use Rattle.vt_run.proofs.laws.actions_are_within_limits.Goals as goal

pub returns : goal.returns
returns c = limits_law
