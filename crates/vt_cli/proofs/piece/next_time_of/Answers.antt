use Rattle.std.proofs.Common.{◌∙◌, ap, sym, true, false}
use Rattle.std.specs.Ordering.{is_lt}
use Rattle.vt_cli.specs.Piece.{is_below}
use Rattle.vt_cli.proofs.Pieces.{next-is, next-unfit}
use Rattle.vt_cli.proofs.piece.next_time_of.Goals as goal

pub returns-then-is_lt : goal.returns-then-is_lt
returns-then-is_lt c =
    next-is _ c.in-Ok.later true (sym c.add.ensures ∙ c.in-Ok.is)
    (ap (is_below c.in-Ok.later) (sym c.horizon.ensures) ∙ ap is_lt (sym c.cmp.ensures.values) ∙ sym c.is_lt.ensures ∙ c.if-is_lt.true)

pub returns-else-is_lt : goal.returns-else-is_lt
returns-else-is_lt c =
    next-is _ c.in-Ok.later false (sym c.add.ensures ∙ c.in-Ok.is)
    (ap (is_below c.in-Ok.later) (sym c.horizon.ensures) ∙ ap is_lt (sym c.cmp.ensures.values) ∙ sym c.is_lt.ensures ∙ c.if-is_lt.false)

pub returns-in-Err : goal.returns-in-Err
returns-in-Err c = next-unfit _ _ (sym c.add.ensures ∙ c.in-Err.is)
