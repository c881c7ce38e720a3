use Rattle.std.proofs.Common.{IsOk, map, take}
use Rattle.vt_ring.specs.Answers.{all_of}
use Rattle.vt_run.specs.calls.PlayCalls.{note_to_play}
use Rattle.vt_given.proofs.notes.check_kinds.Given as goal

abbrev pub invariant-loop-value : goal.invariant-loop-value
invariant-loop-value l = IsOk (all_of (map note_to_play (take l.value-index l.values)))
