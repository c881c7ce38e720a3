use Rattle.std.proofs.Common.{◌≡◌}
use Rattle.vt_ring.specs.RandomCalls.{choices}
use Rattle.vt_ring.specs.Streams.{moved_on, words_from}
use Rattle.vt_prim.proofs.picking.copies_of_choices.Given as goal

abbrev pub invariant-loop-k : goal.invariant-loop-k
invariant-loop-k l = (l.list ≡ choices l.items (words_from l.initial.words) l._k) × (l.words ≡ moved_on l._k l.initial.words)
