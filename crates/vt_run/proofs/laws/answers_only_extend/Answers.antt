use Rattle.vt_run.proofs.steps.FurtherAnswers.{answers_law}
use Rattle.vt_run.proofs.laws.answers_only_extend.Goals as goal

pub returns : goal.returns
returns c = answers_law
