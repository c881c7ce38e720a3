use Rattle.vt_rand.proofs.WordLemmas.{word_fits}
use Rattle.vt_rand.proofs.laws.words_fit.Goals as goal

pub returns : goal.returns
returns c = word_fits
