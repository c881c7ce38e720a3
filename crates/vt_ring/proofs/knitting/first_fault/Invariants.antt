use Rattle.std.proofs.Common.{◌≡◌, length}
use Rattle.std.specs.Result.{result_err}
use Rattle.vt_ring.specs.Building.{in_pairs, runs_of}
use Rattle.vt_ring.proofs.KnitLemmas.{fault_of}
use Rattle.vt_ring.proofs.knitting.first_fault.Given as goal

abbrev pub invariant-loop-left : goal.invariant-loop-left
invariant-loop-left l = fault_of l.is_bad (in_pairs l.left) ≡ result_err (runs_of (in_pairs l.args))

abbrev pub decreases-loop-left : goal.decreases-loop-left
decreases-loop-left l = length l.left
