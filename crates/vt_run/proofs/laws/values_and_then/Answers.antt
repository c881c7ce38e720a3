use Rattle.vt_run.proofs.Composition.{after_values_law}
use Rattle.vt_run.proofs.laws.values_and_then.Goals as goal

pub returns : goal.returns
returns c = after_values_law
