use Rattle.std.proofs.Common.{◌≡◌, ◌++◌, length}
use Rattle.vt_run.specs.Scopes.{params_with}
use Rattle.vt_effects.proofs.scopes.push_params.Given as goal

abbrev pub invariant-loop-name : goal.invariant-loop-name
invariant-loop-name l = l.locals ++ params_with l.names l.left ≡ l.fn.locals ++ params_with l.params l.values

abbrev pub decreases-loop-name : goal.decreases-loop-name
decreases-loop-name l = length l.names
