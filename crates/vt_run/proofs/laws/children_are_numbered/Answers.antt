use Rattle.vt_run.proofs.steps.ThreadSteps.{children_law}
use Rattle.vt_run.proofs.laws.children_are_numbered.Goals as goal

pub returns : goal.returns
returns c = children_law
