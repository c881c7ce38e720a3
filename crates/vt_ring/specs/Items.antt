-- The items of a ring by their numbers. The project's own.
use Rattle.std.specs.Prelude.{ℕ, ℤ, pos, unsigned_abs, List, length, slice_get, ok_or, Result}
use Rattle.std.specs.Int.{int_rem_euclid}
use Rattle.std.specs.List.{range_with_len}
use Rattle.vt_value.specs.declared.fault.FaultKind.{FaultKind}
use Rattle.vt_value.specs.declared.fault.FaultKind.TheVariants.{EmptyRing}
use Rattle.vt_value.specs.declared.value.Value.{Value}

-- 0, 1, 2 and so on, n numbers
abbrev pub indices : ℕ → List ℕ
indices n = range_with_len 0 n

-- where an index stands among n items that are counted round and round: what is left of it, from 0 on, modulo n
abbrev pub wrapped : ℤ → ℕ → ℕ
wrapped index n = unsigned_abs (int_rem_euclid index (pos n))

-- the item at an index, wrapping, or empty_ring where there is no item
abbrev pub item_at : List Value → ℤ → Result Value FaultKind
item_at items index = ok_or (slice_get items (wrapped index (length items))) EmptyRing
