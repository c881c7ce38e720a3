use Rattle.std.proofs.Common.{◌≡◌, ◌++◌, ℕ, List, length}
use Rattle.std.specs.Prelude.{filter, not}
use Rattle.vt_value.specs.declared.value.Value.{Value}
use Rattle.vt_run.specs.calls.PlayCalls.{has_name, with_defaults}
use Rattle.vt_effects.proofs.plays.with_defaults.Given as goal

abbrev pub invariant-loop-default : goal.invariant-loop-default
invariant-loop-default l = l.all ++ filter (λ (option : List ℕ × Value). not (has_name l.options option.0)) l.left ≡ with_defaults l.options l.defaults

abbrev pub decreases-loop-default : goal.decreases-loop-default
decreases-loop-default l = length l.left
