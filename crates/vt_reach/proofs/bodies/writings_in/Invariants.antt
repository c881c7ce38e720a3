use Rattle.vt_reach.specs.private.Bodies.{WritesAt}
use Rattle.vt_reach.proofs.Places.{Picks}
use Rattle.vt_reach.proofs.bodies.writings_in.Given as goal

abbrev pub invariant-loop-at : goal.invariant-loop-at
invariant-loop-at l = Picks (WritesAt l.mentions) l.at l.writings
