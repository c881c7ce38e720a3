use Rattle.vt_run.proofs.steps.ThreadSteps.{last_law}
use Rattle.vt_run.proofs.laws.last_steps_are_last.Goals as goal

pub returns : goal.returns
returns c = last_law
