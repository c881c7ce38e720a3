use Rattle.std.proofs.Common.{sym, ap, ◌∙◌, arith}
use Rattle.vt_lock.proofs.BetweenCalls.{may_join, may_settle}
use Rattle.vt_lock.proofs.turns.Turns.join.Goals as goal

pub join_seat-requires : goal.join_seat-requires
join_seat-requires g c = let sized = c.self.invariant.0 in
    let may = may_join g.T.Kept.key g.T.Kept.log g.T.Kept.worker c.self.inside.table.shared.key c.a.inside.pass.id c.b.inside.pass.id c.a.inside.pass.table_id c.b.inside.pass.table_id c.a.inside.pass.me c.b.inside.pass.me _ _ c.a.view_is c.b.view_is c.a.invariant c.b.invariant c.requires.free.0 c.requires.free.1 in (
      ap (λ k. k.lock) c.a.view_is ∙ c.requires.own.0 ∙ sym c.self.view_is,
      ap (λ k. k.lock) c.b.view_is ∙ c.requires.own.1 ∙ sym c.self.view_is,
      may.0,
      omega (arith, sized),
      may.1,
    )

pub load-requires : goal.load-requires
load-requires g c = let sized = c.self.invariant.0 in (
  c.join_seat.ensures.0 ∙ (ap (λ k. k.lock) c.a.view_is ∙ c.requires.own.0 ∙ sym c.self.view_is),
  omega (arith, sized),
  may_settle g.T.Kept.key g.T.Kept.log g.T.Kept.worker _ _ _ c.a.inside.pass.table_id c.a.inside.pass.me _ c.b.inside.pass.me.0 _ c.a.view_is c.a.invariant c.requires.free.0 c.join_seat.ensures.2,
)
