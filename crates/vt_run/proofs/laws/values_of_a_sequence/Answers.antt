use Rattle.vt_run.proofs.Composition.{values_law}
use Rattle.vt_run.proofs.laws.values_of_a_sequence.Goals as goal

pub returns : goal.returns
returns c = values_law
