use Rattle.vt_run.proofs.steps.ThreadSteps.{event_paths_law}
use Rattle.vt_run.proofs.laws.events_have_paths_by_kind.Goals as goal

pub returns : goal.returns
returns c = event_paths_law
