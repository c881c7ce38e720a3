use Rattle.vt_meaning.proofs.NotPast.{none_stands_past}
use Rattle.vt_meaning.proofs.real_threads.no_thread_stands_past_the_horizon.Goals as goal

pub returns : goal.returns
returns c = none_stands_past
