use Rattle.vt_meaning.proofs.Opening.{opening_threads_are_of_texts}
use Rattle.vt_meaning.proofs.laws.opening_threads_are_of_texts.Goals as goal

pub returns : goal.returns
returns c = opening_threads_are_of_texts
