use Rattle.vt_run.proofs.steps.NextPlaces.{thread_law}
use Rattle.vt_run.proofs.steps.ThreadSteps.{places_law}
use Rattle.vt_run.proofs.laws.actions_stand_in_their_thread.Goals as goal

pub returns : goal.returns
returns c = thread_law places_law
