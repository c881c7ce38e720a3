use Rattle.std.proofs.Common.{length}
use Rattle.vt_effects.proofs.ScopeLemmas.{Leaves}
use Rattle.vt_effects.proofs.scopes.last_named.Given as goal

abbrev pub invariant-loop-local : goal.invariant-loop-local
invariant-loop-local l = Leaves l.name l.left l.locals

abbrev pub decreases-loop-local : goal.decreases-loop-local
decreases-loop-local l = length l.left
