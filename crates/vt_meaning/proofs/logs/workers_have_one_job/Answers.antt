use Rattle.vt_meaning.proofs.LogJobs.{one_job}
use Rattle.vt_meaning.proofs.logs.workers_have_one_job.Goals as goal

pub returns : goal.returns
returns c = one_job
