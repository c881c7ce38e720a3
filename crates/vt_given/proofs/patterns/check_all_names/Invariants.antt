use Rattle.std.proofs.Common.{IsOk, map, take}
use Rattle.vt_ring.specs.Answers.{all_of}
use Rattle.vt_given.proofs.PatternLemmas.{names_of}
use Rattle.vt_given.proofs.patterns.check_all_names.Given as goal

abbrev pub invariant-loop-value : goal.invariant-loop-value
invariant-loop-value l = IsOk (all_of (map names_of (take l.value-index l.values)))
