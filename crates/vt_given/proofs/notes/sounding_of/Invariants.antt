use Rattle.std.proofs.Common.{◌≡◌, Ok, take}
use Rattle.vt_given.specs.Notes.{sounding_of}
use Rattle.vt_given.proofs.notes.sounding_of.Given as goal

abbrev pub invariant-loop-value : goal.invariant-loop-value
invariant-loop-value l = sounding_of (take l.value-index l.values) ≡ Ok l.notes
