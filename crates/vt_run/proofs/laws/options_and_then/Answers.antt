use Rattle.vt_run.proofs.Composition.{after_options_law}
use Rattle.vt_run.proofs.laws.options_and_then.Goals as goal

pub returns : goal.returns
returns c = after_options_law
