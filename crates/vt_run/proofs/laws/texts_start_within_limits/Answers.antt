use Rattle.vt_run.proofs.facts.TextFacts.{text_start_law}
use Rattle.vt_run.proofs.laws.texts_start_within_limits.Goals as goal

pub returns : goal.returns
returns c = text_start_law
