use Rattle.vt_rand.proofs.WordLemmas.{after_draws-after_draws}
use Rattle.vt_rand.proofs.laws.draws_add_up.Goals as goal

pub returns : goal.returns
returns c = after_draws-after_draws
