use Rattle.std.proofs.Common.{IsOk, map, take}
use Rattle.vt_ring.specs.Answers.{all_of}
use Rattle.vt_run.specs.calls.PlayCalls.{notes_asked}
use Rattle.vt_given.proofs.patterns.check_all_kinds.Given as goal

abbrev pub invariant-loop-value : goal.invariant-loop-value
invariant-loop-value l = IsOk (all_of (map notes_asked (take l.value-index l.values)))
