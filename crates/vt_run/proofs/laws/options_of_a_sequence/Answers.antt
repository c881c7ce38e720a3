use Rattle.vt_run.proofs.Composition.{options_law}
use Rattle.vt_run.proofs.laws.options_of_a_sequence.Goals as goal

pub returns : goal.returns
returns c = options_law
