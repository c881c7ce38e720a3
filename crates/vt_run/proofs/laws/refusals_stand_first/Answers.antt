use Rattle.vt_run.proofs.facts.TextFacts.{refusal_law}
use Rattle.vt_run.proofs.laws.refusals_stand_first.Goals as goal

pub returns : goal.returns
returns c = refusal_law
