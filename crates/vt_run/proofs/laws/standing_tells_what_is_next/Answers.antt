use Rattle.vt_run.proofs.steps.Prefixes.{prefix_law}
use Rattle.vt_run.proofs.steps.Standings.{standing_law}
use Rattle.vt_run.proofs.steps.ThreadSteps.{closing_law, last_law, places_law}
use Rattle.vt_run.proofs.laws.standing_tells_what_is_next.Goals as goal

pub returns : goal.returns
returns c = standing_law closing_law last_law prefix_law places_law
