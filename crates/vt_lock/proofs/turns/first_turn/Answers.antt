use Rattle.std.proofs.Common.{arith}
use Rattle.vt_lock.proofs.Steps.{open_keeps}
use Rattle.vt_lock.proofs.turns.first_turn.Goals as goal

pub load-requires : goal.load-requires
load-requires g c = let sized = c.requires.own.1 in (
  c.requires.own.0,
  omega (arith, sized),
  open_keeps g.T.Kept.key g.T.Kept.log g.T.Kept.worker _ _ _ c.args.pass.me c.requires.first.0 c.requires.first.2,
)
