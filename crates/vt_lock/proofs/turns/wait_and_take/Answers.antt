use Rattle.std.proofs.Common.{◌∙◌, arith}
use Rattle.vt_lock.proofs.BetweenCalls.{may_look, has_come, has_slot}
use Rattle.vt_lock.proofs.turns.wait_and_take.Goals as goal

pub load-requires : goal.load-requires
load-requires g c = let sized = c.requires.own.1 in (
  c.loop.invariant.0 ∙ c.requires.own.0,
  omega (arith, sized),
  may_look g.T.Kept.key g.T.Kept.log g.T.Kept.worker _ _ _ c.args.ticket c.args.pass.now.me c.loop.pass.me c.loop.invariant.1 c.requires.waits,
)

pub exchange-requires : goal.exchange-requires
exchange-requires g c = (
  c.load.ensures.0 ∙ (c.loop.invariant.0 ∙ c.requires.own.0),
  has_slot g.T.Kept.key g.T.Kept.log g.T.Kept.worker c.args.board.now.key c.args.pass.now.me c.load.new.seat.me
      (has_come g.T.Kept.key g.T.Kept.log g.T.Kept.worker c.args.board.now.key c.args.ticket c.load.result c.args.pass.now.me c.loop.pass.me c.load.new.seat.me c.loop.invariant.1 c.requires.waits c.load.ensures.2 c.if-load-ticket.true),
)
