use Rattle.vt_meaning.proofs.LogComputes.{log_computes}
use Rattle.vt_meaning.proofs.logs.log_of_two_threads.Goals as goal

pub returns : goal.returns
returns c = log_computes
