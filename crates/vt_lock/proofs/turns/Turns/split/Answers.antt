use Rattle.std.proofs.Common.{sym, ap, ◌∙◌, arith}
use Rattle.vt_lock.proofs.BetweenCalls.{may_split}
use Rattle.vt_lock.proofs.turns.Turns.split.Goals as goal

pub split_seat-other-requires : goal.split_seat-other-requires
split_seat-other-requires g c = let sized = c.self.invariant.0 in (
  ap (λ k. k.lock) c.seat.view_is ∙ c.requires.own ∙ sym c.self.view_is,
  omega (arith, sized),
  may_split g.T.Kept.key g.T.Kept.log g.T.Kept.worker _ _ c.seat.inside.pass.table_id c.seat.inside.pass.me _ c.seat.view_is c.seat.invariant c.requires.free,
)
