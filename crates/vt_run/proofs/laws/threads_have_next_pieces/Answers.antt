use Rattle.vt_run.proofs.steps.FurtherAnswers.{answers_law}
use Rattle.vt_run.proofs.steps.NextPieces.{next_law}
use Rattle.vt_run.proofs.steps.Prefixes.{prefix_law}
use Rattle.vt_run.proofs.steps.ThreadSteps.{closing_law, costs_law}
use Rattle.vt_run.proofs.laws.threads_have_next_pieces.Goals as goal

pub returns : goal.returns
returns c = next_law closing_law costs_law answers_law prefix_law
