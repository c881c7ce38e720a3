use Rattle.std.proofs.Common.{length}
use Rattle.vt_session.specs.private.Standing.{standing_of}
use Rattle.vt_session.proofs.ReadLemmas.{Reads}
use Rattle.vt_session.proofs.reader.read_session.Given as goal

abbrev pub invariant-lines : goal.invariant-lines
invariant-lines l = Reads l.bytes l.left (standing_of l.reader)

abbrev pub decreases-lines : goal.decreases-lines
decreases-lines l = length l.left
