use Rattle.vt_meaning.proofs.LogSteps.{logs_are_orderly}
use Rattle.vt_meaning.proofs.logs.logs_are_orderly.Goals as goal

pub returns : goal.returns
returns c = logs_are_orderly
