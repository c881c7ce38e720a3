use Rattle.std.proofs.Common.{IsOk, map, take}
use Rattle.vt_ring.specs.Answers.{all_of}
use Rattle.vt_ring.specs.Signatures.{number_argument}
use Rattle.vt_given.proofs.timings.check_numbers.Given as goal

abbrev pub invariant-loop-value : goal.invariant-loop-value
invariant-loop-value l = IsOk (all_of (map number_argument (take l.value-index l.values)))
