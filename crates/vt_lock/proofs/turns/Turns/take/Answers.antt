use Rattle.std.proofs.Common.{sym, ap, ◌∙◌, arith}
use Rattle.vt_lock.proofs.BetweenCalls.{may_draw}
use Rattle.vt_lock.proofs.turns.Turns.take.Goals as goal

pub fetch_add-ticket-requires : goal.fetch_add-ticket-requires
fetch_add-ticket-requires g c = let sized = c.self.invariant.0 in (
  ap (λ k. k.lock) c.seat.view_is ∙ c.requires.own ∙ sym c.self.view_is,
  omega (arith, sized),
  may_draw g.T.Kept.key g.T.Kept.log g.T.Kept.worker _ _ _ c.seat.inside.pass.table_id c.seat.inside.pass.me _ c.seat.view_is c.seat.invariant c.requires.free,
)
