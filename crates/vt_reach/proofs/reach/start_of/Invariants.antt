use Rattle.vt_reach.specs.private.Order.{StandsAt}
use Rattle.vt_reach.proofs.Places.{NoneOf}
use Rattle.vt_reach.proofs.reach.start_of.Given as goal

abbrev pub invariant-loop-start : goal.invariant-loop-start
invariant-loop-start l = NoneOf (StandsAt l.rows l.text) l.starts l.start-index
