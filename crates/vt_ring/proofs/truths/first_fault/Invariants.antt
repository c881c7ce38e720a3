use Rattle.std.proofs.Common.{IsOk, map, take}
use Rattle.vt_ring.specs.Answers.{all_of}
use Rattle.vt_ring.specs.Arguments.{whole_argument}
use Rattle.vt_ring.proofs.truths.first_fault.Given as goal

abbrev pub invariant-loop-arg : goal.invariant-loop-arg
invariant-loop-arg l = IsOk (all_of (map whole_argument (take l.arg-index l.args)))
