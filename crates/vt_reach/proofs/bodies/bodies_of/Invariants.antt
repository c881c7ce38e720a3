use Rattle.vt_reach.specs.private.Bodies.{RunsAt}
use Rattle.vt_reach.proofs.Places.{Picks}
use Rattle.vt_reach.proofs.bodies.bodies_of.Given as goal

abbrev pub invariant-loop-at : goal.invariant-loop-at
invariant-loop-at l = Picks (RunsAt l.rows l.mentions) l.at l.bodies
