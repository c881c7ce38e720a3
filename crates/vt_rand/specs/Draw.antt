-- What a stream is, and what a draw makes of a word. All of this is the project's own.
use Rattle.std.specs.Prelude.{◌≡◌, ℕ, ◌+◌, ◌*◌, ◌/◌, ◌%◌, ◌^◌, pos}
use Rattle.vt_frac.specs.Fraction.{Fraction, over}

-- A stream: a seed, and how many of its words have been drawn, counted modulo 2^64, since the words repeat after that many. The next word is `word seed drawn`.
pub record RandomStream : Type 0 where
  pub seed : ℕ
  pub drawn : ℕ

-- the stream that a seed begins: no word has been drawn
abbrev pub random_stream_of : ℕ → RandomStream
random_stream_of seed = record { seed = seed; drawn = 0 }

-- the stream after n more words
abbrev pub after_draws : ℕ → RandomStream → RandomStream
after_draws n stream = record { seed = stream.seed; drawn = (stream.drawn + n) % 2 ^ 64 }

-- n words and then m more are n + m.
abbrev pub DrawsAddUp : Type 0
DrawsAddUp = (n m : ℕ) (stream : RandomStream) → after_draws m (after_draws n stream) ≡ after_draws (n + m) stream

-- k/65536, where k is the upper 16 bits of the word: a fraction from 0 on and below 1
unfoldable pub unit_of : ℕ → Fraction
unit_of word = over (pos (word / 2 ^ 16)) (2 ^ 16)

-- floor(word * n / 2^32): one of the numbers 0 to n - 1
unfoldable pub below_of : ℕ → ℕ → ℕ
below_of word n = word * n / 2 ^ 32

-- the seed of a child: the first word above, the second below
unfoldable pub child_seed_of : ℕ → ℕ → ℕ
child_seed_of first second = first * 2 ^ 32 + second
