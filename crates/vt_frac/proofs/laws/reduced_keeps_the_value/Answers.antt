use Rattle.vt_frac.proofs.FractionLemmas.{reduced_keeps_the_value}
use Rattle.vt_frac.proofs.laws.reduced_keeps_the_value.Goals as goal

pub returns : goal.returns
returns c = reduced_keeps_the_value
