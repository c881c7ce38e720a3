use Rattle.vt_meaning.proofs.FrontAndBounds.{bounds_are_least, bounds_are_one, front_is_least, fronts_are_one}
use Rattle.vt_meaning.proofs.stores.bounds_are_least.Goals as goal

pub returns : goal.returns
returns c = record { bound = bounds_are_least; front = front_is_least; one_bound = bounds_are_one; one_front = fronts_are_one }
