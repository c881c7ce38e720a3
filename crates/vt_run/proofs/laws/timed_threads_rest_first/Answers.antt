use Rattle.vt_run.proofs.steps.FirstSteps.{timed_law}
use Rattle.vt_run.proofs.laws.timed_threads_rest_first.Goals as goal

pub returns : goal.returns
returns c = timed_law
