use Rattle.vt_reach.proofs.ReachLemmas.{Writers}
use Rattle.vt_reach.proofs.lists.writers.Given as goal

abbrev pub invariant-loop-place : goal.invariant-loop-place
invariant-loop-place l = Writers l.writings l.places l.place-index l.found
