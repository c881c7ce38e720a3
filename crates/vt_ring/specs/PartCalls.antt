-- The calls that give parts of a ring, or turn or repeat one. After the Sonic Pi tutorial, chapter 8; kinds, faults and limits are the project's own.
use Rattle.std.specs.Prelude.{◌-◌, ℤ, List, length, take, drop, slice_get, ok_or, Result}
use Rattle.vt_value.specs.declared.fault.FaultKind.{FaultKind}
use Rattle.vt_value.specs.declared.fault.FaultKind.TheVariants.{EmptyRing}
use Rattle.vt_value.specs.declared.value.Value.{Value}
use Rattle.vt_ring.specs.Answers.{and_then}
use Rattle.vt_ring.specs.Arguments.{count_from}
use Rattle.vt_ring.specs.Called.{as_ring}
use Rattle.vt_ring.specs.Limits.{within_limits}
use Rattle.vt_ring.specs.TakeAndDrop.{take_of, drop_of}
use Rattle.vt_ring.specs.Repeating.{stretch_of, repeat_of}
use Rattle.vt_ring.specs.Turning.{rotate_of, reverse_of, mirror_of, reflect_of}
use Rattle.vt_ring.specs.Signatures.{a_ring, a_ring_and_a_whole, a_ring_and_perhaps_a_whole}

-- `take r, n`
unfoldable pub take_call : List Value → Result Value FaultKind
take_call args = and_then (a_ring_and_a_whole args) (λ (items, n). as_ring (take_of items n))

-- `drop r, n`
unfoldable pub drop_call : List Value → Result Value FaultKind
drop_call args = and_then (a_ring_and_a_whole args) (λ (items, n). as_ring (drop_of items n))

-- the last n items, or all where there are no more
abbrev pub take_last_of : List Value → ℤ → Result (List Value) FaultKind
take_last_of items n = and_then (count_from n) (λ count. within_limits (drop (length items - count) items))

-- all but the last n items, or none where there are no more
abbrev pub drop_last_of : List Value → ℤ → Result (List Value) FaultKind
drop_last_of items n = and_then (count_from n) (λ count. within_limits (take (length items - count) items))

-- `take_last r, n`
unfoldable pub take_last_call : List Value → Result Value FaultKind
take_last_call args = and_then (a_ring_and_a_whole args) (λ (items, n). as_ring (take_last_of items n))

-- `drop_last r, n`
unfoldable pub drop_last_call : List Value → Result Value FaultKind
drop_last_call args = and_then (a_ring_and_a_whole args) (λ (items, n). as_ring (drop_last_of items n))

-- `butlast r`
unfoldable pub butlast_call : List Value → Result Value FaultKind
butlast_call args = and_then (a_ring args) (λ items. as_ring (within_limits (take (length items - 1) items)))

-- `first r`
unfoldable pub first_call : List Value → Result Value FaultKind
first_call args = and_then (a_ring args) (λ items. ok_or (slice_get items 0) EmptyRing)

-- `last r`
unfoldable pub last_call : List Value → Result Value FaultKind
last_call args = and_then (a_ring args) (λ items. ok_or (slice_get items (length items - 1)) EmptyRing)

-- `reverse r`
unfoldable pub reverse_call : List Value → Result Value FaultKind
reverse_call args = and_then (a_ring args) (λ items. as_ring (reverse_of items))

-- `mirror r`
unfoldable pub mirror_call : List Value → Result Value FaultKind
mirror_call args = and_then (a_ring args) (λ items. as_ring (mirror_of items))

-- `reflect r`
unfoldable pub reflect_call : List Value → Result Value FaultKind
reflect_call args = and_then (a_ring args) (λ items. as_ring (reflect_of items))

-- `rotate r`, `rotate r, n`
unfoldable pub rotate_call : List Value → Result Value FaultKind
rotate_call args = and_then (a_ring_and_perhaps_a_whole args) (λ (items, n). as_ring (rotate_of items n))

-- `stretch r, n`
unfoldable pub stretch_call : List Value → Result Value FaultKind
stretch_call args = and_then (a_ring_and_a_whole args) (λ (items, n). as_ring (stretch_of items n))

-- `repeat r, n`
unfoldable pub repeat_call : List Value → Result Value FaultKind
repeat_call args = and_then (a_ring_and_a_whole args) (λ (items, n). as_ring (repeat_of items n))
