use Rattle.vt_run.proofs.steps.RisingPlaces.{horizon_law}
use Rattle.vt_run.proofs.laws.actions_stand_below_the_horizon.Goals as goal

pub returns : goal.returns
returns c = horizon_law
