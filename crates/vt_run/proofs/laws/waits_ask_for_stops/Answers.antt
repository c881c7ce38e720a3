use Rattle.vt_run.proofs.steps.ThreadSteps.{stops_law}
use Rattle.vt_run.proofs.laws.waits_ask_for_stops.Goals as goal

pub returns : goal.returns
returns c = stops_law
