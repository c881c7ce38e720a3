use Rattle.vt_meaning.proofs.Workers.{workers_do_not_matter}
use Rattle.vt_meaning.proofs.laws.workers_do_not_matter.Goals as goal

pub returns : goal.returns
returns c = workers_do_not_matter
