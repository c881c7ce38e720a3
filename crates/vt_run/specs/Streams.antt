-- The random stream of a child. The project's own.
use Rattle.std.specs.Prelude.{ℕ}
use Rattle.vt_rand.specs.Draw.{RandomStream, child_seed_of}
use Rattle.vt_ring.specs.Streams.{words_from}

-- the seed of a child: of the next two words
abbrev pub next_child_seed : RandomStream → ℕ
next_child_seed stream = child_seed_of (words_from stream 0) (words_from stream 1)
