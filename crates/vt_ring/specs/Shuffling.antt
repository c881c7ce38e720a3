-- The call `shuffle`, for the words that it draws. The project's own, after Fisher and Yates.
use Rattle.std.specs.Prelude.{ℕ, ◌+◌, ◌-◌, List, length, reverse, fold, zip, swap, Result}
use Rattle.std.specs.List.{range_with_len}
use Rattle.vt_rand.specs.Draw.{below_of}
use Rattle.vt_value.specs.declared.fault.FaultKind.{FaultKind}
use Rattle.vt_value.specs.declared.value.Value.{Value}
use Rattle.vt_ring.specs.Limits.{within_limits}

-- item i is exchanged with one of the items 0 to i, which a word chooses
abbrev pub exchanged : List Value → ℕ × ℕ → List Value
exchanged items (i, word) = swap items i (below_of word (i + 1))

-- the numbers from n - 1 down to 1
abbrev pub last_to_one : ℕ → List ℕ
last_to_one n = reverse (range_with_len 1 (n - 1))

-- for each index from the last down to 1 an exchange, and for each exchange the next word
abbrev pub shuffled_by : List Value → List ℕ → List Value
shuffled_by items words = fold exchanged items (zip (last_to_one (length items)) words)

abbrev pub shuffle_of : List Value → List ℕ → Result (List Value) FaultKind
shuffle_of items words = within_limits (shuffled_by items words)
