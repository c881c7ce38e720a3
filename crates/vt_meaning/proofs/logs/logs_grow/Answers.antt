use Rattle.vt_meaning.proofs.LogJobs.{log_grows}
use Rattle.vt_meaning.proofs.logs.logs_grow.Goals as goal

pub returns : goal.returns
returns c = log_grows
