use Rattle.vt_run.proofs.notes.Noted.{piece_noted}
use Rattle.vt_run.proofs.laws.noted_steps_are_a_piece.Goals as goal

pub returns : goal.returns
returns c = piece_noted
