use Rattle.vt_run.proofs.steps.RisingPlaces.{rising_law}
use Rattle.vt_run.proofs.laws.places_rise.Goals as goal

pub returns : goal.returns
returns c = rising_law
