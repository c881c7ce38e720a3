use Rattle.std.proofs.Common.{length}
use Rattle.vt_session.specs.private.Reading.{bytes_of}
use Rattle.vt_session.proofs.WordLemmas.{Splits}
use Rattle.vt_session.proofs.words.split_words.Given as goal

abbrev pub invariant-reading : goal.invariant-reading
invariant-reading l = Splits l.bytes l.left (bytes_of l.words.items)

abbrev pub decreases-reading : goal.decreases-reading
decreases-reading l = length l.left
