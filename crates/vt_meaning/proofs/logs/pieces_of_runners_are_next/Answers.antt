use Rattle.vt_meaning.proofs.NextPieces.{pieces_are_next}
use Rattle.vt_meaning.proofs.logs.pieces_of_runners_are_next.Goals as goal

pub returns : goal.returns
returns c = pieces_are_next c.threads_of_texts_act.ensures
