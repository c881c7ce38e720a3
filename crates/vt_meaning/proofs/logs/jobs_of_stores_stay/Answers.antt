use Rattle.vt_meaning.proofs.LogJobs.{store_jobs_stay}
use Rattle.vt_meaning.proofs.logs.jobs_of_stores_stay.Goals as goal

pub returns : goal.returns
returns c = store_jobs_stay c.logs_leave_their_stores.ensures c.jobs_stay.ensures
