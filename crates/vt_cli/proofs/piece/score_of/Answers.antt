use Rattle.std.proofs.Common.{◌∙◌, ap}
use Rattle.vt_cli.specs.Piece.{score_of, score_of_lines}
use Rattle.vt_cli.proofs.Pieces.{if-ok}
use Rattle.vt_cli.proofs.piece.score_of.Goals as goal

pub returns : goal.returns
unfolding score_of
returns c =
    if-ok c.score_of_lines.result
    (λ score made. made ∙ ap score_of_lines (c.deref.ensures.value ∙ c.in_ok-lines.ensures.lines))
    c.score_of_lines.ensures
