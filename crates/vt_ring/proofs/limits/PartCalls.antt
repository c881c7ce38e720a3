-- What the calls give that take parts of a ring, turn, repeat, count, sort or sum one, is within the limits of the language.
use Rattle.std.specs.Prelude.{if◌then◌else◌, slice_get}
use Rattle.std.specs.Result.{IfOk}
use Rattle.std.proofs.Common.{ℕ, ◌≤◌, ◌-◌, ◌++◌, ℤ, pos, Bool, true, false, List, [], ◌∷◌, length, take, drop, reverse, replicate, arith}
use Rattle.vt_value.specs.declared.arithmetic.ArithOp.TheVariants.{Add}
use Rattle.vt_value.specs.declared.fault.FaultKind.TheVariants.{EmptyRing, WrongKind}
use Rattle.vt_value.specs.declared.value.Value.{Value}
use Rattle.vt_value.specs.declared.value.Value.TheVariants.{Whole}
use Rattle.vt_value.specs.Arithmetic.{arith_of}
use Rattle.vt_value.specs.Limits.{IsWithin, AreWithin}
use Rattle.vt_ring.specs.Arguments.{count_from}
use Rattle.vt_ring.specs.Called.{as_ring}
use Rattle.vt_ring.specs.CountCalls.{added_up, are_numbers, count_call, count_of, in_order, is_below, length_call, put_in_order, size_call, sort_call, sum_call}
use Rattle.vt_ring.specs.Items.{wrapped}
use Rattle.vt_ring.specs.Limits.{within_limits}
use Rattle.vt_ring.specs.PartCalls.{butlast_call, drop_call, drop_last_call, drop_last_of, first_call, last_call, mirror_call, reflect_call, repeat_call, reverse_call, rotate_call, stretch_call, take_call, take_last_call, take_last_of}
use Rattle.vt_ring.specs.TakeAndDrop.{drop_of, take_of}
use Rattle.vt_ring.specs.Repeating.{repeat_of, repeated, stretch_of, stretched}
use Rattle.vt_ring.specs.Signatures.{a_ring, a_ring_and_a_whole, a_ring_and_perhaps_a_whole}
use Rattle.vt_ring.specs.Turning.{mirror_of, moved_indices, reflect_of, reverse_of, rotate_of, turned}
use Rattle.vt_ring.proofs.LimitLemmas.{within_few}
use Rattle.vt_ring.proofs.limits.Arguments.{a_ring_and_a_whole_give, a_ring_and_perhaps_a_whole_give, a_ring_gives}
use Rattle.vt_ring.proofs.Elements.{each_append, each_drop, each_flat_map, each_found, each_replicate, each_reverse, each_take}
use Rattle.vt_ring.proofs.limits.Arithmetic.{arith_gives}
use Rattle.vt_ring.proofs.limits.Answers.{and_then_any, and_then_gives, cond_gives, ok_or_gives}
use Rattle.vt_ring.proofs.limits.Values.{IsRingWithin, as_ring_gives, within_limits_gives, within_whole}

-- Parts

take_of_gives : (items : List Value) (n : ℤ) → AreWithin items → IfOk (take_of items n) IsRingWithin
take_of_gives items n h = and_then_any (count_from n) _ IsRingWithin (λ count. within_limits_gives (take count items) (each_take IsWithin count items h))

drop_of_gives : (items : List Value) (n : ℤ) → AreWithin items → IfOk (drop_of items n) IsRingWithin
drop_of_gives items n h = and_then_any (count_from n) _ IsRingWithin (λ count. within_limits_gives (drop count items) (each_drop IsWithin count items h))

take_last_of_gives : (items : List Value) (n : ℤ) → AreWithin items → IfOk (take_last_of items n) IsRingWithin
take_last_of_gives items n h = and_then_any (count_from n) _ IsRingWithin (λ count. within_limits_gives (drop (length items - count) items) (each_drop IsWithin (length items - count) items h))

drop_last_of_gives : (items : List Value) (n : ℤ) → AreWithin items → IfOk (drop_last_of items n) IsRingWithin
drop_last_of_gives items n h = and_then_any (count_from n) _ IsRingWithin (λ count. within_limits_gives (take (length items - count) items) (each_take IsWithin (length items - count) items h))

pub take_gives : (args : List Value) → AreWithin args → IfOk (take_call args) IsWithin
unfolding take_call
take_gives args h = and_then_gives (a_ring_and_a_whole args) _ _ IsWithin (a_ring_and_a_whole_give args h) (λ both w. as_ring_gives (take_of both.0 both.1) (take_of_gives both.0 both.1 w.0.each))

pub drop_gives : (args : List Value) → AreWithin args → IfOk (drop_call args) IsWithin
unfolding drop_call
drop_gives args h = and_then_gives (a_ring_and_a_whole args) _ _ IsWithin (a_ring_and_a_whole_give args h) (λ both w. as_ring_gives (drop_of both.0 both.1) (drop_of_gives both.0 both.1 w.0.each))

pub take_last_gives : (args : List Value) → AreWithin args → IfOk (take_last_call args) IsWithin
unfolding take_last_call
take_last_gives args h = and_then_gives (a_ring_and_a_whole args) _ _ IsWithin (a_ring_and_a_whole_give args h) (λ both w. as_ring_gives (take_last_of both.0 both.1) (take_last_of_gives both.0 both.1 w.0.each))

pub drop_last_gives : (args : List Value) → AreWithin args → IfOk (drop_last_call args) IsWithin
unfolding drop_last_call
drop_last_gives args h = and_then_gives (a_ring_and_a_whole args) _ _ IsWithin (a_ring_and_a_whole_give args h) (λ both w. as_ring_gives (drop_last_of both.0 both.1) (drop_last_of_gives both.0 both.1 w.0.each))

pub butlast_gives : (args : List Value) → AreWithin args → IfOk (butlast_call args) IsWithin
unfolding butlast_call
butlast_gives args h =
    and_then_gives (a_ring args) _ _ IsWithin (a_ring_gives args h) (λ items w.
    as_ring_gives (within_limits (take (length items - 1) items)) (within_limits_gives (take (length items - 1) items) (each_take IsWithin (length items - 1) items w.each)))

pub first_gives : (args : List Value) → AreWithin args → IfOk (first_call args) IsWithin
unfolding first_call
first_gives args h =
    and_then_gives (a_ring args) _ _ IsWithin (a_ring_gives args h) (λ items w.
    ok_or_gives (slice_get items 0) EmptyRing IsWithin (each_found IsWithin items 0 w.each))

pub last_gives : (args : List Value) → AreWithin args → IfOk (last_call args) IsWithin
unfolding last_call
last_gives args h =
    and_then_gives (a_ring args) _ _ IsWithin (a_ring_gives args h) (λ items w.
    ok_or_gives (slice_get items (length items - 1)) EmptyRing IsWithin (each_found IsWithin items (length items - 1) w.each))

-- Turning and repeating

rotate_of_gives : (items : List Value) (n : ℤ) → AreWithin items → IfOk (rotate_of items n) IsRingWithin
rotate_of_gives items n h =
    and_then_any (moved_indices (length items) n) _ IsRingWithin (λ moved.
    within_limits_gives (turned items (wrapped n (length items)))
    (each_append IsWithin (drop (wrapped n (length items)) items) (take (wrapped n (length items)) items) (each_drop IsWithin (wrapped n (length items)) items h) (each_take IsWithin (wrapped n (length items)) items h)))

pub rotate_gives : (args : List Value) → AreWithin args → IfOk (rotate_call args) IsWithin
unfolding rotate_call
rotate_gives args h = and_then_gives (a_ring_and_perhaps_a_whole args) _ _ IsWithin (a_ring_and_perhaps_a_whole_give args h) (λ both w. as_ring_gives (rotate_of both.0 both.1) (rotate_of_gives both.0 both.1 w.0.each))

pub reverse_gives : (args : List Value) → AreWithin args → IfOk (reverse_call args) IsWithin
unfolding reverse_call
reverse_gives args h =
    and_then_gives (a_ring args) _ _ IsWithin (a_ring_gives args h) (λ items w.
    as_ring_gives (reverse_of items) (within_limits_gives (reverse items) (each_reverse IsWithin items w.each)))

pub mirror_gives : (args : List Value) → AreWithin args → IfOk (mirror_call args) IsWithin
unfolding mirror_call
mirror_gives args h =
    and_then_gives (a_ring args) _ _ IsWithin (a_ring_gives args h) (λ items w.
    as_ring_gives (mirror_of items) (within_limits_gives (items ++ reverse items) (each_append IsWithin items (reverse items) w.each (each_reverse IsWithin items w.each))))

pub reflect_gives : (args : List Value) → AreWithin args → IfOk (reflect_call args) IsWithin
unfolding reflect_call
reflect_gives args h =
    and_then_gives (a_ring args) _ _ IsWithin (a_ring_gives args h) (λ items w.
    as_ring_gives (reflect_of items) (within_limits_gives (items ++ drop 1 (reverse items))
    (each_append IsWithin items (drop 1 (reverse items)) w.each (each_drop IsWithin 1 (reverse items) (each_reverse IsWithin items w.each)))))

stretch_of_gives : (items : List Value) (n : ℤ) → AreWithin items → IfOk (stretch_of items n) IsRingWithin
stretch_of_gives items n h =
    and_then_any (count_from n) _ IsRingWithin (λ times.
    within_limits_gives (stretched times items) (each_flat_map IsWithin IsWithin (replicate times) (λ item k. each_replicate IsWithin times item k) items h))

pub stretch_gives : (args : List Value) → AreWithin args → IfOk (stretch_call args) IsWithin
unfolding stretch_call
stretch_gives args h = and_then_gives (a_ring_and_a_whole args) _ _ IsWithin (a_ring_and_a_whole_give args h) (λ both w. as_ring_gives (stretch_of both.0 both.1) (stretch_of_gives both.0 both.1 w.0.each))

repeated_within : (n : ℕ) (items : List Value) → AreWithin items → AreWithin (repeated n items)
repeated_within n items h = each_flat_map AreWithin IsWithin (λ copy. copy) (λ copy k. k) (replicate n items) (each_replicate AreWithin n items h)

repeat_of_gives : (items : List Value) (n : ℤ) → AreWithin items → IfOk (repeat_of items n) IsRingWithin
repeat_of_gives items n h = and_then_any (count_from n) _ IsRingWithin (λ times. within_limits_gives (repeated times items) (repeated_within times items h))

pub repeat_gives : (args : List Value) → AreWithin args → IfOk (repeat_call args) IsWithin
unfolding repeat_call
repeat_gives args h = and_then_gives (a_ring_and_a_whole args) _ _ IsWithin (a_ring_and_a_whole_give args h) (λ both w. as_ring_gives (repeat_of both.0 both.1) (repeat_of_gives both.0 both.1 w.0.each))

-- Counting, sorting and summing

count_within : (items : List Value) → IsRingWithin items → IsWithin (count_of items)
count_within items h = let few : length items ≤ 4096 = within_few items h.few in within_whole (pos (length items)) (omega arith)

pub length_gives : (args : List Value) → AreWithin args → IfOk (length_call args) IsWithin
unfolding length_call
length_gives args h = and_then_gives (a_ring args) _ _ IsWithin (a_ring_gives args h) count_within

pub size_gives : (args : List Value) → AreWithin args → IfOk (size_call args) IsWithin
unfolding size_call
size_gives args h = and_then_gives (a_ring args) _ _ IsWithin (a_ring_gives args h) count_within

pub count_gives : (args : List Value) → AreWithin args → IfOk (count_call args) IsWithin
unfolding count_call
count_gives args h = and_then_gives (a_ring args) _ _ IsWithin (a_ring_gives args h) count_within

either : (test : Bool) (xs ys : List Value) → AreWithin xs → AreWithin ys → AreWithin (if test then xs else ys)
either true xs ys h k = h
either false xs ys h k = k

put_within : (value : Value) (items : List Value) → IsWithin value → AreWithin items → AreWithin (put_in_order value items)
put_within value [] w h = (w, tt)
put_within value (item ∷ items) w h = either (is_below item value) (item ∷ put_in_order value items) (value ∷ item ∷ items) (h.0, put_within value items w h.1) (w, h)

order_within : (items : List Value) → AreWithin items → AreWithin (in_order items)
order_within [] h = tt
order_within (item ∷ items) h = put_within item (in_order items) h.0 (order_within items h.1)

pub sort_gives : (args : List Value) → AreWithin args → IfOk (sort_call args) IsWithin
unfolding sort_call
sort_gives args h =
    and_then_gives (a_ring args) _ _ IsWithin (a_ring_gives args h) (λ items w.
    cond_gives (are_numbers items) (as_ring (within_limits (in_order items))) WrongKind IsWithin (λ e.
    as_ring_gives (within_limits (in_order items)) (within_limits_gives (in_order items) (order_within items w.each))))

added_up_gives : (total : Value) (items : List Value) → IsWithin total → AreWithin items → IfOk (added_up total items) IsWithin
added_up_gives total [] w h = w
added_up_gives total (item ∷ items) w h = and_then_gives (arith_of Add total item) _ _ IsWithin (arith_gives Add total item w h.0) (λ more k. added_up_gives more items k h.1)

pub sum_call_gives : (args : List Value) → AreWithin args → IfOk (sum_call args) IsWithin
unfolding sum_call
sum_call_gives args h =
    and_then_gives (a_ring args) _ _ IsWithin (a_ring_gives args h) (λ items w.
    cond_gives (are_numbers items) (added_up (Whole (pos 0)) items) WrongKind IsWithin (λ e.
    added_up_gives (Whole (pos 0)) items (within_whole (pos 0) (omega arith)) w.each))
