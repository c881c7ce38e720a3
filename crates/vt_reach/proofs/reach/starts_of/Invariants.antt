use Rattle.vt_reach.specs.private.Order.{IsFirst}
use Rattle.vt_reach.proofs.Places.{Picks}
use Rattle.vt_reach.proofs.reach.starts_of.Given as goal

abbrev pub invariant-loop-place : goal.invariant-loop-place
invariant-loop-place l = Picks (IsFirst l.rows) l.place l.starts
