-- Division that rounds up, and which whole number it gives.
use Rattle.std.proofs.Common.{◌≡◌, ℕ, ◌+◌, ◌-◌, ◌*◌, ◌/◌, ◌%◌, ◌≤◌, ◌<◌, ℤ, pos, negsuc, ◌+ℤ◌, ◌*ℤ◌, ◌≤ℤ◌, ◌<ℤ◌, unsigned_abs, false, refl, sym, subst, arith}
use Rattle.std.specs.Prelude.{neg_ℤ, int_lt}
use Rattle.std.specs.Int.{int_div_euclid}
use Rattle.std.proofs.Math.Nat.{mod-lt, mul-le-mul_right}
use Rattle.std.proofs.lemmas.Bool.{true≢false}
use Rattle.std.proofs.lemmas.Int.{ints, by_lt_z}
use Rattle.std.proofs.lemmas.Nat.{div-add-mod'}
use borrow.Author.Differences.{up, down, same_in, neg_is, lt_out}
use Rattle.vt_frac.specs.OrderLaws.{up-times, down-times}
use Rattle.vt_ring.specs.Exact.{IsLeastNotBelow, RoundedUpIsLeast}
use Rattle.vt_ring.specs.NumberCalls.{CeilingIsLeast, ceiling_of}

-- between a multiple of d and the next
floor_split : (a : ℤ) (d : ℕ) → 0 < d → ((int_div_euclid a (pos d) *ℤ pos d) ≤ℤ a) × (a <ℤ (int_div_euclid a (pos d) *ℤ pos d +ℤ pos d))
floor_split (pos n) d h = let small : n % d < d = mod-lt n h in (omega (arith, ints, div-add-mod' n d), omega (arith, ints, div-add-mod' n d))
floor_split (negsuc n) d h = let small : n % d < d = mod-lt n h in (omega (arith, ints, div-add-mod' n d), omega (arith, ints, div-add-mod' n d))

-- no multiple of d lies between
greatest : (q m a : ℤ) (d : ℕ) → a <ℤ (q *ℤ pos d +ℤ pos d) → (m *ℤ pos d) ≤ℤ a → m ≤ℤ q
greatest q m a d next low = by_lt_z q m (λ h. absurd (far h)) (λ h. h)
  where
    far : q <ℤ m → ⊥
    far h =
        let steps : (up q + down m + 1) * d ≤ (up m + down q) * d = mul-le-mul_right d (omega (arith, lt_out q m h)) in
        omega (arith, ints, up-times q d, down-times q d, up-times m d, down-times m d)

negated_times : (z : ℤ) (d : ℕ) → neg_ℤ z *ℤ pos d ≡ neg_ℤ (z *ℤ pos d)
negated_times z d = same_in (neg_ℤ z *ℤ pos d) (neg_ℤ (z *ℤ pos d)) (rw ((neg_is (z *ℤ pos d)).0, (neg_is (z *ℤ pos d)).1, up-times, down-times, up-times, down-times, (neg_is z).0, (neg_is z).1) refl)

pub ceiling_least : CeilingIsLeast
unfolding ceiling_of
ceiling_least f h =
    let q = int_div_euclid (neg_ℤ f.numer) (pos f.denom) in
    let split = floor_split (neg_ℤ f.numer) f.denom h in
    record {
      not_below = turned q f.numer f.denom split.0;
      least = λ m k. let back : neg_ℤ m ≤ℤ q = greatest q (neg_ℤ m) (neg_ℤ f.numer) f.denom split.1 (turned_back m f.numer f.denom k) in omega (arith, ints);
    }
  where
    turned : (q n : ℤ) (d : ℕ) → (q *ℤ pos d) ≤ℤ neg_ℤ n → n ≤ℤ (neg_ℤ q *ℤ pos d)
    turned q n d h = subst (λ (z : ℤ). n ≤ℤ z) (sym (negated_times q d)) (omega (arith, ints))

    turned_back : (m n : ℤ) (d : ℕ) → n ≤ℤ (m *ℤ pos d) → (neg_ℤ m *ℤ pos d) ≤ℤ neg_ℤ n
    turned_back m n d h = subst (λ (z : ℤ). z ≤ℤ neg_ℤ n) (sym (negated_times m d)) (omega (arith, ints))

rounded_least : (n d : ℕ) → 0 < d → IsLeastNotBelow (record { numer = pos n; denom = d }) (pos ((n + (d - 1)) / d))
rounded_least n d h =
    let small : (n + (d - 1)) % d < d = mod-lt (n + (d - 1)) h in
    record { not_below = omega (arith, ints, div-add-mod' (n + (d - 1)) d); least = λ m k. least_one m k }
  where
    least_one : (m : ℤ) → pos n ≤ℤ (m *ℤ pos d) → pos ((n + (d - 1)) / d) ≤ℤ m
    least_one m k = greatest m (pos ((n + (d - 1)) / d)) (pos (n + (d - 1))) d (omega (arith, ints)) (omega (arith, ints, div-add-mod' (n + (d - 1)) d))

pub rounded_up_least : RoundedUpIsLeast
rounded_up_least f h e = by_sign f.numer f.denom h e
  where
    by_sign : (n : ℤ) (d : ℕ) → 0 < d → int_lt n (pos 0) ≡ false → IsLeastNotBelow (record { numer = n; denom = d }) (pos ((unsigned_abs n + (d - 1)) / d))
    by_sign (pos n) d h e = rounded_least n d h
    by_sign (negsuc n) d h e = absurd (true≢false e)
