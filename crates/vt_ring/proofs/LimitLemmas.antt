-- Counts and sizes of lists, and whether they are within the limits.
use Rattle.std.proofs.Common.{◌≡◌, ◌≤◌, ◌<◌, ◌+◌, ◌*◌, ◌-◌, ◌^◌, ℕ, zero, suc, min, List, [], ◌∷◌, length, replicate, reverse, take, drop, get_or, Bool, true, false, ◌&&◌, refl, sym, ap, ◌∙◌, inl, inr, arith, length-append}
use Rattle.std.proofs.lemmas.List.{length-replicate, reverse-append}
use Rattle.std.specs.Prelude.{nat_le}
use Rattle.std.proofs.lemmas.Bool.{cases_lt, false≢true, leb-true}
use Rattle.std.proofs.lemmas.Bool.Decides.{nat_tests}
use Rattle.vt_value.specs.declared.value.Value.{Value}
use Rattle.vt_value.specs.Arithmetic.{are_within}
use Rattle.vt_value.specs.Sizes.{size_of, sizes_of}
use Rattle.vt_value.proofs.Layers.{sizes-append}
use Rattle.vt_value.specs.Kinds.{whole_of}
use Rattle.vt_ring.specs.private.Knitting.{count_or_zero, knitted}
use Rattle.vt_ring.proofs.KnitLemmas.{first_two}
use Rattle.vt_ring.specs.Repeating.{stretched, repeated}

-- at most 2^64 - 1
abbrev pub capped : ℕ → ℕ
capped n = min (2 ^ 64 - 1) n

-- the limits see no difference
pub few_capped : (n : ℕ) → nat_le (capped n) 4096 ≡ nat_le n 4096
few_capped n = grind (arith, nat_tests)

pub small_capped : (n : ℕ) → nat_le (1 + capped n) 65536 ≡ nat_le (1 + n) 65536
small_capped n = grind (arith, nat_tests)

-- a product of a capped number is capped alike
product : (m s n : ℕ) → min m (min m s * n) ≡ min m (s * n)
product m s zero = omega arith
product m s (suc n) = elim (cases_lt s m) [ inl h ↦ ap (λ k. min m (k * suc n)) (small h) | inr h ↦ large h ]
  where
    small : s < m → min m s ≡ s
    small h = omega arith

    large : m ≤ s → min m (min m s * suc n) ≡ min m (s * suc n)
    large h = omega arith

pub capped_product : (s n : ℕ) → capped (capped s * n) ≡ capped (s * n)
capped_product s n = product (2 ^ 64 - 1) s n

-- are_within by the count and the size
pub within_by : (items : List Value) (count size : ℕ) → length items ≡ count → sizes_of items ≡ size → (nat_le count 4096 && nat_le (1 + size) 65536) ≡ are_within items
within_by items count size few small = sym (ap (λ n. nat_le n 4096 && nat_le (1 + sizes_of items) 65536) few ∙ ap (λ n. nat_le count 4096 && nat_le (1 + n) 65536) small)

pub within_same : (xs ys : List Value) → length xs ≡ length ys → sizes_of xs ≡ sizes_of ys → are_within xs ≡ are_within ys
within_same xs ys few small = sym (within_by xs (length ys) (sizes_of ys) few small)

pub sizes-replicate : (n : ℕ) (value : Value) → sizes_of (replicate n value) ≡ size_of value * n
sizes-replicate zero value = omega arith
sizes-replicate (suc n) value = omega (arith, sizes-replicate n value)

pub sizes-reverse : (items : List Value) → sizes_of (reverse items) ≡ sizes_of items
sizes-reverse [] = refl
sizes-reverse (item ∷ items) = ap sizes_of (reverse-append (item ∷ []) items) ∙ sizes-append (reverse items) (item ∷ []) ∙ omega (arith, sizes-reverse items)

pub length-stretched : (n : ℕ) (items : List Value) → length (stretched n items) ≡ length items * n
length-stretched n [] = omega arith
length-stretched n (item ∷ items) = length-append (replicate n item) (stretched n items) ∙ omega (arith, length-replicate n item, length-stretched n items)

pub sizes-stretched : (n : ℕ) (items : List Value) → sizes_of (stretched n items) ≡ sizes_of items * n
sizes-stretched n [] = omega arith
sizes-stretched n (item ∷ items) = sizes-append (replicate n item) (stretched n items) ∙ omega (arith, sizes-replicate n item, sizes-stretched n items)

pub repeated_none : (n : ℕ) → repeated n [] ≡ []
repeated_none zero = refl
repeated_none (suc n) = repeated_none n

pub length-repeated : (n : ℕ) (items : List Value) → length (repeated n items) ≡ length items * n
length-repeated zero items = omega arith
length-repeated (suc n) items = length-append items (repeated n items) ∙ omega (arith, length-repeated n items)

pub sizes-repeated : (n : ℕ) (items : List Value) → sizes_of (repeated n items) ≡ sizes_of items * n
sizes-repeated zero items = omega arith
sizes-repeated (suc n) items = sizes-append items (repeated n items) ∙ omega (arith, sizes-repeated n items)

-- one more value of `knit`
pub knit_count : (left : List Value) (value count : Value) (before after n total : ℕ) → 2 ≤ length left → value ≡ get_or left 0 value → count ≡ get_or left 1 count → n ≡ count_or_zero (whole_of count) → after ≡ capped (before + n) → capped (before + length (knitted left)) ≡ total → capped (after + length (knitted (take (length left - 2) (drop 2 left)))) ≡ total
knit_count left value count before after n total long a b is sum h =
    let split : length (knitted left) ≡ count_or_zero (whole_of count) + length (knitted (take (length left - 2) (drop 2 left))) = ap (λ xs. length (knitted xs)) (first_two left value count long a b) ∙ length-append (replicate (count_or_zero (whole_of count)) value) (knitted (take (length left - 2) (drop 2 left))) ∙ ap (λ m. m + length (knitted (take (length left - 2) (drop 2 left)))) (length-replicate (count_or_zero (whole_of count)) value) in
    omega arith

pub knit_size : (left : List Value) (value count : Value) (before after n size product total : ℕ) → 2 ≤ length left → value ≡ get_or left 0 value → count ≡ get_or left 1 count → n ≡ count_or_zero (whole_of count) → size ≡ capped (size_of value) → product ≡ capped (size * n) → after ≡ capped (before + product) → capped (before + sizes_of (knitted left)) ≡ total → capped (after + sizes_of (knitted (take (length left - 2) (drop 2 left)))) ≡ total
knit_size left value count before after n size product total long a b is one many sum h =
    let split : sizes_of (knitted left) ≡ size_of value * count_or_zero (whole_of count) + sizes_of (knitted (take (length left - 2) (drop 2 left))) = ap (λ xs. sizes_of (knitted xs)) (first_two left value count long a b) ∙ sizes-append (replicate (count_or_zero (whole_of count)) value) (knitted (take (length left - 2) (drop 2 left))) ∙ ap (λ m. m + sizes_of (knitted (take (length left - 2) (drop 2 left)))) (sizes-replicate (count_or_zero (whole_of count)) value) in
    let all : product ≡ capped (size_of value * count_or_zero (whole_of count)) = many ∙ ap (λ m. capped (m * n)) one ∙ capped_product (size_of value) n ∙ ap (λ m. capped (size_of value * m)) is in
    knit_sum before after product total (size_of value * count_or_zero (whole_of count)) (sizes_of (knitted (take (length left - 2) (drop 2 left)))) (sizes_of (knitted left)) split all sum h
  where
    knit_sum : (before after product total added rest whole : ℕ) → whole ≡ added + rest → product ≡ capped added → after ≡ capped (before + product) → capped (before + whole) ≡ total → capped (after + rest) ≡ total
    knit_sum before after product total added rest whole s p a h = omega arith

pub within_few : (items : List Value) → are_within items ≡ true → length items ≤ 4096
within_few items h = leb-true (length items) 4096 (first (nat_le (length items) 4096) (nat_le (1 + sizes_of items) 65536) h)
  where
    first : (a b : Bool) → (a && b) ≡ true → a ≡ true
    first true b h = refl
    first false b h = absurd (false≢true h)
