use Rattle.std.proofs.Common.{IsOk, map, take}
use Rattle.vt_ring.specs.Answers.{all_of}
use Rattle.vt_given.specs.Notes.{note_or_fault}
use Rattle.vt_given.proofs.notes.check_names.Given as goal

abbrev pub invariant-loop-value : goal.invariant-loop-value
invariant-loop-value l = IsOk (all_of (map note_or_fault (take l.value-index l.values)))
