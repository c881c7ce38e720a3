use Rattle.vt_lock.proofs.NumberLemmas.{all_stand}
use Rattle.vt_lock.proofs.laws.all_numbers_are_there.Goals as goal

pub returns : goal.returns
returns c = all_stand
