use Rattle.vt_frac.proofs.FractionLemmas.{reduced_is_lowest}
use Rattle.vt_frac.proofs.laws.reduced_is_lowest.Goals as goal

pub returns : goal.returns
returns c = reduced_is_lowest
