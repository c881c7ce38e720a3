use Rattle.std.proofs.Common.{take}
use Rattle.vt_reach.specs.private.Search.{Adds}
use Rattle.vt_reach.proofs.search.add_all.Given as goal

abbrev pub invariant-loop-place : goal.invariant-loop-place
invariant-loop-place l = Adds (take l.place-index l.more) l.initial.marks.items l.marks.items l.initial.found.items l.found.items
