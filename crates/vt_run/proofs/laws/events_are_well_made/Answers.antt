use Rattle.vt_run.proofs.steps.ThreadSteps.{events_law}
use Rattle.vt_run.proofs.laws.events_are_well_made.Goals as goal

pub returns : goal.returns
returns c = events_law
