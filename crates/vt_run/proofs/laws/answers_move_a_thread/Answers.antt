use Rattle.vt_run.proofs.steps.Standings.{answer_law}
use Rattle.vt_run.proofs.steps.ThreadSteps.{last_law, places_law}
use Rattle.vt_run.proofs.laws.answers_move_a_thread.Goals as goal

pub returns : goal.returns
returns c = answer_law last_law places_law
