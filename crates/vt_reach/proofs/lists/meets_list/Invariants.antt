use Rattle.vt_reach.specs.private.Lists.{MeetsAt}
use Rattle.vt_reach.proofs.Places.{NoneOf}
use Rattle.vt_reach.proofs.lists.meets_list.Given as goal

abbrev pub invariant-loop-place : goal.invariant-loop-place
invariant-loop-place l = NoneOf (λ place. MeetsAt l.rows place l.pattern) l.list l.place-index
