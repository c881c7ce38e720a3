use Rattle.vt_run.proofs.steps.ThreadSteps.{places_law}
use Rattle.vt_run.proofs.laws.actions_stand_in_place.Goals as goal

pub returns : goal.returns
returns c = places_law
