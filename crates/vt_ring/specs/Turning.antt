-- The calls `rotate`, `reverse`, `mirror` and `reflect`. After the Sonic Pi tutorial, chapter 8.5; overflow and limits are the project's own.
use Rattle.std.specs.Prelude.{◌≡◌, ◌<◌, ℕ, ℤ, pos, ◌+ℤ◌, List, ◌++◌, length, map, take, drop, reverse, Result}
use Rattle.vt_value.specs.declared.fault.FaultKind.{FaultKind}
use Rattle.vt_value.specs.declared.value.Value.{Value}
use Rattle.vt_value.specs.Arithmetic.{fitting}
use Rattle.vt_ring.specs.Answers.{and_then, all_of}
use Rattle.vt_ring.specs.Items.{indices, item_at, wrapped}
use Rattle.vt_ring.specs.Limits.{within_limits}

-- i + n for each index i below the count, each of which must fit
abbrev pub moved_indices : ℕ → ℤ → Result (List ℤ) FaultKind
moved_indices count n = all_of (map (λ i. fitting (pos i +ℤ n)) (indices count))

-- the items from place k on, and behind them the first k
abbrev pub turned : List Value → ℕ → List Value
turned items k = drop k items ++ take k items

-- Item i of it is item i + n, wrapping: the items from place n modulo their number on, and then those before. Overflow where a sum i + n does not fit; no item is no fault.
abbrev pub rotate_of : List Value → ℤ → Result (List Value) FaultKind
rotate_of items n = and_then (moved_indices (length items) n) (λ moved. within_limits (turned items (wrapped n (length items))))

-- Item i of the turned list is item i + n of the list, counted round and round.
abbrev pub RotatesByIndex : Type 0
RotatesByIndex = (items : List Value) (n : ℤ) (i : ℕ) → i < length items → item_at (turned items (wrapped n (length items))) (pos i) ≡ item_at items (pos i +ℤ n)

-- the items backwards
abbrev pub reverse_of : List Value → Result (List Value) FaultKind
reverse_of items = within_limits (reverse items)

-- the items, and then the items backwards
abbrev pub mirror_of : List Value → Result (List Value) FaultKind
mirror_of items = within_limits (items ++ reverse items)

-- the items, and then the items backwards without the first of these
abbrev pub reflect_of : List Value → Result (List Value) FaultKind
reflect_of items = within_limits (items ++ drop 1 (reverse items))
