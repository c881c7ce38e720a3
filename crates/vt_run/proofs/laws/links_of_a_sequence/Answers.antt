use Rattle.vt_run.proofs.Composition.{links_law}
use Rattle.vt_run.proofs.laws.links_of_a_sequence.Goals as goal

pub returns : goal.returns
returns c = links_law
