use Rattle.vt_lock.proofs.StartAndEnd.{opening_holds}
use Rattle.vt_lock.proofs.turns.Turns.make.Goals as goal

pub vacant-requires : goal.vacant-requires
vacant-requires g c = opening_holds g.T.Kept.key g.T.Kept.log g.T.Kept.worker c.args.value c.requires.workers
