-- Choices of workers: own.
use Rattle.std.specs.Prelude.{ℕ, ◌%◌, List, map}
use Rattle.std.specs.List.{range_with_len}
use Rattle.vt_rand.specs.Word.{word}

-- the first n words of a seed, each modulo the number of workers
unfoldable pub choices_of : ℕ → ℕ → ℕ → List ℕ
choices_of seed n workers = map (λ k. word seed k % workers) (range_with_len 0 n)
