use Rattle.std.proofs.Common.{◌≡◌, ◌-◌, ◌^◌, min}
use Rattle.vt_value.specs.Sizes.{sizes_of}
use Rattle.vt_ring.specs.RandomCalls.{choices}
use Rattle.vt_ring.specs.Streams.{moved_on, words_from}
use Rattle.vt_prim.proofs.picking.size_of_choices.Given as goal

abbrev pub invariant-loop-k : goal.invariant-loop-k
invariant-loop-k l = (l.total ≡ min (2 ^ 64 - 1) (sizes_of (choices l.items (words_from l.initial.stream) l._k))) × (l.stream ≡ moved_on l._k l.initial.stream)
