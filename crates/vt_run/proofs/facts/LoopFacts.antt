-- What the calls that run a block in turns are given, within the limits of the language.
use Rattle.std.proofs.Common.{◌≡◌, ◌≤◌, ◌<◌, ℕ, zero, suc, ◌+◌, List, map, Ok, arith}
use Rattle.std.specs.Prelude.{ℤ, pos, negsuc, ◌^◌, unsigned_abs, IsTrue}
use Rattle.std.specs.List.{range_with_len}
use Rattle.vt_ring.specs.Signatures.{a_ring, a_whole}
use Rattle.vt_ring.proofs.limits.Values.{within_whole}
use Rattle.vt_ring.proofs.limits.Arguments.{a_ring_known, a_whole_known}
use Rattle.vt_value.specs.declared.value.Value.{Value}
use Rattle.vt_value.specs.declared.value.Value.TheVariants.{Whole}
use Rattle.vt_value.specs.Arithmetic.{are_within}
use Rattle.vt_value.specs.Limits.{AreWithin}
use Rattle.vt_run.specs.calls.Arguments.{Given, all_args}
use Rattle.vt_run.specs.calls.LoopCalls.{numbers_below}
use Rattle.vt_run.proofs.facts.Known.{IsGivenWithin}

pub whole_fits : (given : Given) (n : ℤ) → a_whole (all_args given) ≡ Ok n → IsGivenWithin given → unsigned_abs n < 2 ^ 63
whole_fits given n is g = a_whole_known (all_args given) n is g.args

pub ring_items : (given : Given) (items : List Value) → a_ring (all_args given) ≡ Ok items → IsGivenWithin given → IsTrue (are_within items) × AreWithin items
ring_items given items is g = let r = a_ring_known (all_args given) items is g.args in (r.few, r.each)

numbers_from : (a n most : ℕ) → a + n ≤ most → most < 2 ^ 63 → AreWithin (map (λ i. Whole (pos i)) (range_with_len a n))
numbers_from a zero most le few = tt
numbers_from a (suc n) most le few = (within_whole (pos a) (omega (arith, le, few)), numbers_from (a + 1) n most (omega (arith, le)) few)

pub numbers_within : (n : ℤ) → unsigned_abs n < 2 ^ 63 → AreWithin (numbers_below n)
numbers_within (pos n) few = numbers_from 0 n n (omega arith) few
numbers_within (negsuc n) few = tt

-- the numbers of the turns of a density
pub below_within : (n : ℕ) → n ≤ 64 → AreWithin (numbers_below (pos n))
below_within n few = numbers_within (pos n) (omega (arith, few))
