-- What `rotate` needs of its sums and places.
use Rattle.std.proofs.Common.{◌≡◌, ◌≤◌, ◌<◌, ◌+◌, ◌-◌, ◌%◌, ◌^◌, ℕ, zero, suc, ℤ, pos, negsuc, ◌+ℤ◌, ◌<ℤ◌, unsigned_abs, List, [], ◌∷◌, map, Result, Ok, Err, IsOk, cond, refl, ap, ◌∙◌, subst, inl, inr, arith}
use Rattle.std.specs.List.{range_with_len}
use Rattle.std.specs.Result.{is_ok}
use Rattle.std.proofs.lemmas.Bool.{cases_lt, lt-ltb, le-ltb, false≢true}
use Rattle.std.proofs.lemmas.Int.{ints}
use Rattle.vt_value.specs.declared.fault.FaultKind.{FaultKind}
use Rattle.vt_value.specs.declared.fault.FaultKind.TheVariants.{Overflow}
use Rattle.vt_value.specs.declared.value.Value.{Value}
use Rattle.vt_value.specs.Arithmetic.{fitting}
use Rattle.vt_ring.specs.Answers.{and_then, all_of}
use Rattle.vt_ring.specs.Items.{wrapped}
use Rattle.vt_ring.specs.Turning.{moved_indices, turned}

fits_here : (z : ℤ) → unsigned_abs z < 2 ^ 63 → fitting z ≡ Ok z
fits_here z h = ap (λ b. cond b (Ok z) (Err Overflow)) (lt-ltb (unsigned_abs z) (2 ^ 63) h)

over_here : (z : ℤ) → 2 ^ 63 ≤ unsigned_abs z → fitting z ≡ Err Overflow
over_here z h = ap (λ b. cond b (Ok z) (Err Overflow)) (le-ltb (unsigned_abs z) (2 ^ 63) h)

good_cons : (first : Result ℤ FaultKind) (rest : Result (List ℤ) FaultKind) (z : ℤ) → first ≡ Ok z → IsOk rest → IsOk (and_then first (λ value. and_then rest (λ values. Ok (value ∷ values))))
good_cons first (Ok values) z e h = ap (λ a. is_ok (and_then a (λ value. Ok (value ∷ values)))) e
good_cons first (Err kind) z e h = absurd (false≢true h)

bad_cons : (first : Result ℤ FaultKind) (rest : Result (List ℤ) FaultKind) (z : ℤ) (kind : FaultKind) → first ≡ Ok z → rest ≡ Err kind → and_then first (λ value. and_then rest (λ values. Ok (value ∷ values))) ≡ Err kind
bad_cons first rest z kind e h = ap (λ a. and_then a (λ value. and_then rest (λ values. Ok (value ∷ values)))) e ∙ ap (λ r. and_then r (λ values. Ok (z ∷ values))) h

sums_fit : (n : ℤ) (from count : ℕ) → ((i : ℕ) → from ≤ i → i < from + count → unsigned_abs (pos i +ℤ n) < 2 ^ 63) → IsOk (all_of (map (λ i. fitting (pos i +ℤ n)) (range_with_len from count)))
sums_fit n from zero h = refl
sums_fit n from (suc count) h =
    good_cons (fitting (pos from +ℤ n)) (all_of (map (λ i. fitting (pos i +ℤ n)) (range_with_len (from + 1) count))) (pos from +ℤ n)
    (fits_here (pos from +ℤ n) (h from (omega arith) (omega arith)))
    (sums_fit n (from + 1) count (λ i low high. h i (omega arith) (omega arith)))

sum_over : (n : ℤ) (from count i : ℕ) → from ≤ i → i < from + count → 2 ^ 63 ≤ unsigned_abs (pos i +ℤ n) → all_of (map (λ i. fitting (pos i +ℤ n)) (range_with_len from count)) ≡ Err Overflow
sum_over n from zero i low high h = absurd (omega arith)
sum_over n from (suc count) i low high h =
    elim (cases_lt (unsigned_abs (pos from +ℤ n)) (2 ^ 63)) [
      | inl fits ↦ elim (cases_lt from i) [
        | inl above ↦ bad_cons (fitting (pos from +ℤ n)) (all_of (map (λ i. fitting (pos i +ℤ n)) (range_with_len (from + 1) count))) (pos from +ℤ n) Overflow (fits_here (pos from +ℤ n) fits) (sum_over n (from + 1) count i (omega arith) (omega arith) h)
        | inr same ↦ absurd (let e : from ≡ i = omega arith in let at : unsigned_abs (pos i +ℤ n) < 2 ^ 63 = subst (λ k. unsigned_abs (pos k +ℤ n) < 2 ^ 63) e fits in omega arith)
      ]
      | inr over ↦ ap (λ a. and_then a (λ value. and_then (all_of (map (λ i. fitting (pos i +ℤ n)) (range_with_len (from + 1) count))) (λ values. Ok (value ∷ values)))) (over_here (pos from +ℤ n) over)
    ]

-- all sums fit where the first and the last do
pub moved_fit : (count : ℕ) (n : ℤ) → unsigned_abs n < 2 ^ 63 → ((i : ℕ) → i < count → unsigned_abs (pos i +ℤ n) < 2 ^ 63) → IsOk (moved_indices count n)
moved_fit count n h all = sums_fit n 0 count (λ i low high. all i (omega arith))

pub moved_over : (count : ℕ) (n : ℤ) (i : ℕ) → i < count → 2 ^ 63 ≤ unsigned_abs (pos i +ℤ n) → moved_indices count n ≡ Err Overflow
moved_over count n i below h = sum_over n 0 count i (omega arith) (omega arith) h
