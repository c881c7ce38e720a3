use Rattle.vt_meaning.proofs.LogSteps.{one_is_out}
use Rattle.vt_meaning.proofs.logs.one_record_is_out.Goals as goal

pub returns : goal.returns
returns c = one_is_out
