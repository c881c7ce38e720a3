use Rattle.vt_rand.proofs.WordLemmas.{word-mod}
use Rattle.vt_rand.proofs.laws.words_repeat.Goals as goal

pub returns : goal.returns
returns c = word-mod
