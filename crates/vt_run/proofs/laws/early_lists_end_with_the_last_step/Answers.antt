use Rattle.vt_run.proofs.steps.ThreadSteps.{closing_law}
use Rattle.vt_run.proofs.laws.early_lists_end_with_the_last_step.Goals as goal

pub returns : goal.returns
returns c = closing_law
