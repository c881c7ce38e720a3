use Rattle.vt_run.proofs.steps.NextPlaces.{micro_law}
use Rattle.vt_run.proofs.laws.micro_steps_follow_events.Goals as goal

pub returns : goal.returns
returns c = micro_law
