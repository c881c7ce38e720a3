use Rattle.vt_run.proofs.facts.InputFacts.{input_law}
use Rattle.vt_run.proofs.laws.inputs_are_within_limits.Goals as goal

pub returns : goal.returns
returns c = input_law
