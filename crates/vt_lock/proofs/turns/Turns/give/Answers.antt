use Rattle.std.proofs.Common.{sym, ap, ◌∙◌, arith}
use Rattle.vt_lock.proofs.BetweenCalls.{may_give}
use Rattle.vt_lock.proofs.turns.Turns.give.Goals as goal

pub fetch_add-requires : goal.fetch_add-requires
fetch_add-requires g c = let e = c.exchange.ensures in let sized = c.self.invariant.0 in (
  e.0 ∙ (ap (λ k. k.lock) c.seat.view_is ∙ c.requires.own ∙ sym c.self.view_is),
  omega (arith, sized),
  may_give g.T.Kept.key g.T.Kept.log g.T.Kept.worker _ _ _ c.seat.inside.pass.table_id c.seat.inside.pass.me _ _ c.args.value c.seat.view_is c.seat.invariant c.requires.turn c.requires.key c.requires.log e.3,
)
