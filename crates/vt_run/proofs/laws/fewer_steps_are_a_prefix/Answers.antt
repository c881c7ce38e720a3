use Rattle.vt_run.proofs.steps.Prefixes.{prefix_law}
use Rattle.vt_run.proofs.laws.fewer_steps_are_a_prefix.Goals as goal

pub returns : goal.returns
returns c = prefix_law
