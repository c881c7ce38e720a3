use Rattle.vt_run.proofs.steps.StepNumbers.{numbers_law}
use Rattle.vt_run.proofs.laws.actions_are_numbered.Goals as goal

pub returns : goal.returns
returns c = numbers_law
