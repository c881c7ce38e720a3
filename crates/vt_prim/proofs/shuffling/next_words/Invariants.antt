use Rattle.std.proofs.Common.{◌≡◌, map}
use Rattle.vt_ring.specs.Items.{indices}
use Rattle.vt_ring.specs.Streams.{moved_on, words_from}
use Rattle.vt_prim.proofs.shuffling.next_words.Given as goal

abbrev pub invariant-loop-k : goal.invariant-loop-k
invariant-loop-k l = (l.list.items ≡ map (words_from l.initial.words) (indices l._k)) × (l.words ≡ moved_on l._k l.initial.words)
