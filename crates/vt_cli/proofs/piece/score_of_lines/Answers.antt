use Rattle.std.proofs.Common.{◌∙◌, ap, sym}
use Rattle.vt_cli.specs.Piece.{score_of_lines, score_unless_refused}
use Rattle.vt_cli.proofs.Pieces.{if-ok}
use Rattle.vt_cli.proofs.piece.score_of_lines.Goals as goal

pub returns-in-Some : goal.returns-in-Some
unfolding score_of_lines
returns-in-Some c =
    if-ok c.refused.result
    (λ score made. made ∙ ap (λ found. score_unless_refused found c.args.lines.now) (sym c.in-Some.is ∙ c.first_refused.ensures.found))
    c.refused.ensures

pub returns-in-None : goal.returns-in-None
unfolding score_of_lines
returns-in-None c =
    if-ok c.play_lines.result
    (λ score made. made ∙ ap (λ found. score_unless_refused found c.args.lines.now) (sym c.in-None.is ∙ c.first_refused.ensures.found))
    c.play_lines.ensures
