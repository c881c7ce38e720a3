use Rattle.vt_run.proofs.steps.ThreadSteps.{costs_law}
use Rattle.vt_run.proofs.laws.each_step_costs.Goals as goal

pub returns : goal.returns
returns c = costs_law
