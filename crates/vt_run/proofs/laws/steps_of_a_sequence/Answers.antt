use Rattle.vt_run.proofs.Composition.{sequence_law}
use Rattle.vt_run.proofs.laws.steps_of_a_sequence.Goals as goal

pub returns : goal.returns
returns c = sequence_law
