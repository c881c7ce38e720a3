use Rattle.std.proofs.Common.{◌≡◌, ◌+◌, length, take}
use Rattle.std.specs.Prelude.{fold}
use Rattle.vt_ring.specs.Shuffling.{exchanged}
use Rattle.vt_ring.proofs.ShuffleLemmas.{exchanges}
use Rattle.vt_ring.proofs.shuffling.exchange_all.Given as goal

abbrev pub invariant-loop-word : goal.invariant-loop-word
invariant-loop-word l = record {
  place : l.last + l.word-index ≡ length l.initial.items;
  same_length : length l.items ≡ length l.initial.items;
  so_far : l.items ≡ fold exchanged l.initial.items (take l.word-index (exchanges (length l.initial.items) l.words));
}
