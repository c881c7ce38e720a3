use Rattle.vt_run.proofs.steps.RisingPlaces.{next_place_law}
use Rattle.vt_run.proofs.laws.places_rise_to_the_next.Goals as goal

pub returns : goal.returns
returns c = next_place_law
