use Rattle.vt_meaning.proofs.LogSteps.{caps_do_not_matter}
use Rattle.vt_meaning.proofs.logs.caps_do_not_matter.Goals as goal

pub returns : goal.returns
returns c = caps_do_not_matter
