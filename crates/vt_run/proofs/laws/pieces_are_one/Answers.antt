use Rattle.vt_run.proofs.steps.NextPieces.{pieces_law}
use Rattle.vt_run.proofs.steps.Prefixes.{prefix_law}
use Rattle.vt_run.proofs.laws.pieces_are_one.Goals as goal

pub returns : goal.returns
returns c = pieces_law prefix_law
