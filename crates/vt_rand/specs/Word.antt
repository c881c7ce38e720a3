-- The words of a random stream: those of PCG-XSH-RR 64/32 (O'Neill, "PCG: A Family of Simple Fast Space-Efficient Statistically Good Algorithms for Random Number Generation", 2014), as the kit's crates `rand_pcg` and `rand_core` state them. That a stream is this generator is the project's own choice.
use Rattle.std.specs.Prelude.{◌≡◌, ℕ, ◌%◌, ◌^◌, ◌<◌}
use Rattle.rand_core.specs.Pcg32Seed.{pcg32_seed}
use Rattle.rand_pcg.specs.Lcg.{Lcg, advance}
use Rattle.rand_pcg.specs.Pcg.{multiplier_64, pcg32, pcg32_of_seed}

-- the generator that `seed_from_u64` makes of a number: 16 bytes are made of it, and they are its state and its increment
unfoldable pub generator_of : ℕ → Lcg
generator_of seed = pcg32_of_seed (pcg32_seed 16 seed)

-- the generator of a seed after k words: each word takes one step
unfoldable pub generator_after : ℕ → ℕ → Lcg
generator_after seed k = advance 64 multiplier_64 k (generator_of seed)

-- Word k of a seed, where k counts from 0: the word that comes after k others
unfoldable pub word : ℕ → ℕ → ℕ
word seed k = (pcg32 (generator_after seed k)).0

-- Each word is a number of 32 bits.
abbrev pub WordsFit : Type 0
WordsFit = (seed k : ℕ) → word seed k < 2 ^ 32

-- After 2^64 words they begin anew: the word after k others is the one after k mod 2^64 others, for a k without bound.
abbrev pub WordsRepeat : Type 0
WordsRepeat = (seed k : ℕ) → word seed (k % 2 ^ 64) ≡ word seed k
