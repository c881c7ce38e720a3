use Rattle.vt_meaning.proofs.LogJobs.{job_stays}
use Rattle.vt_meaning.proofs.logs.jobs_stay.Goals as goal

pub returns : goal.returns
returns c = job_stays
