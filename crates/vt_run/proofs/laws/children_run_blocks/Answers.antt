use Rattle.vt_run.proofs.steps.ThreadSteps.{blocks_law}
use Rattle.vt_run.proofs.laws.children_run_blocks.Goals as goal

pub returns : goal.returns
returns c = blocks_law
