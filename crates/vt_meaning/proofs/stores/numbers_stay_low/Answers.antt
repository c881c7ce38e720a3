use Rattle.vt_meaning.proofs.Numbers.{numbers_stay_low}
use Rattle.vt_meaning.proofs.stores.numbers_stay_low.Goals as goal

pub returns : goal.returns
returns c = numbers_stay_low
