use Rattle.vt_lock.proofs.NumberLemmas.{halves}
use Rattle.vt_lock.proofs.laws.halves_are_numbers.Goals as goal

pub returns : goal.returns
returns c = halves
