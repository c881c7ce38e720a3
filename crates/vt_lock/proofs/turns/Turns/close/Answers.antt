use Rattle.std.proofs.Common.{sym, refl, subst}
use Rattle.std.specs.Option.{IsSome}
use Rattle.vt_lock.proofs.BetweenCalls.{may_close, closes}
use Rattle.vt_lock.proofs.turns.Turns.close.Goals as goal

pub unwrap-requires : goal.unwrap-requires
unwrap-requires g c =
    let v = may_close g.T.Kept.key g.T.Kept.log g.T.Kept.worker c.self.inside.table.shared.key _ _ c.seat.inside.pass.id c.seat.inside.pass.table_id c.seat.inside.pass.me c.take-value.result _ c.seat.view_is c.seat.invariant c.requires.free c.requires.all c.close_with-closed.ensures.values.2 c.take-value.ensures.value in
    subst IsSome (sym v.1) refl

pub returns-clause-key : goal.returns-clause-key
returns-clause-key g c =
    let v = may_close g.T.Kept.key g.T.Kept.log g.T.Kept.worker c.self.inside.table.shared.key _ _ c.seat.inside.pass.id c.seat.inside.pass.table_id c.seat.inside.pass.me c.take-value.result _ c.seat.view_is c.seat.invariant c.requires.free c.requires.all c.close_with-closed.ensures.values.2 c.take-value.ensures.value in
    (closes g.T.Kept.key g.T.Kept.log g.T.Kept.worker c.self.inside.table.shared.key c.take-value.result c.unwrap.result c.args.seat c.unwrap.ensures v).0

pub returns-clause-log : goal.returns-clause-log
returns-clause-log g c =
    let v = may_close g.T.Kept.key g.T.Kept.log g.T.Kept.worker c.self.inside.table.shared.key _ _ c.seat.inside.pass.id c.seat.inside.pass.table_id c.seat.inside.pass.me c.take-value.result _ c.seat.view_is c.seat.invariant c.requires.free c.requires.all c.close_with-closed.ensures.values.2 c.take-value.ensures.value in
    (closes g.T.Kept.key g.T.Kept.log g.T.Kept.worker c.self.inside.table.shared.key c.take-value.result c.unwrap.result c.args.seat c.unwrap.ensures v).1
