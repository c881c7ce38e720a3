use Rattle.vt_cli.proofs.Pieces.{Played}
use Rattle.vt_cli.proofs.piece.play_lines.Given as goal

abbrev pub invariant-play : goal.invariant-play
invariant-play l = Played l.lines l.index l.events l.time l.step
