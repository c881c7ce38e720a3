use Rattle.vt_reach.specs.private.Lists.{MeetsMention}
use Rattle.vt_reach.proofs.Places.{NoneOf}
use Rattle.vt_reach.proofs.lists.meets_row.Given as goal

abbrev pub invariant-loop-place : goal.invariant-loop-place
invariant-loop-place l = NoneOf (λ place. MeetsMention l.mentions place l.pattern) l.writings l.place-index
