use Rattle.std.proofs.Common.{◌≡◌, length}
use Rattle.vt_run.specs.Scopes.{lookup}
use Rattle.vt_effects.proofs.scopes.lookup.Given as goal

abbrev pub invariant-loop-local : goal.invariant-loop-local
invariant-loop-local l = lookup l.name l.left ≡ lookup l.name l.locals

abbrev pub decreases-loop-local : goal.decreases-loop-local
decreases-loop-local l = length l.left
