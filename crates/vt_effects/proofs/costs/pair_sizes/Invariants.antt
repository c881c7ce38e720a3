use Rattle.std.proofs.Common.{◌≡◌, ◌≤◌, ◌+◌, ◌-◌, ◌^◌, length}
use Rattle.vt_run.specs.Costs.{pair_sizes}
use Rattle.vt_run.specs.Notes.{capped}
use Rattle.vt_effects.proofs.costs.pair_sizes.Given as goal

abbrev pub invariant-loop-pair : goal.invariant-loop-pair
invariant-loop-pair l = (capped (l.total + pair_sizes l.left) ≡ capped (pair_sizes l.pairs)) × (l.total ≤ 2 ^ 64 - 1)

abbrev pub decreases-loop-pair : goal.decreases-loop-pair
decreases-loop-pair l = length l.left
