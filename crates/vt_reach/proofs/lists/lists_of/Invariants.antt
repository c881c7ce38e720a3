use Rattle.vt_reach.specs.private.Lists.{IsList}
use Rattle.vt_reach.proofs.Places.{Fills}
use Rattle.vt_reach.proofs.lists.lists_of.Given as goal

abbrev pub invariant-loop-from : goal.invariant-loop-from
invariant-loop-from l = Fills (IsList l.graph l.writings) l.from l.lists
