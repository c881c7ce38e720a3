-- The exchanges of `shuffle`.
use Rattle.std.proofs.Common.{◌≡◌, ◌≤◌, ◌<◌, ◌+◌, ◌-◌, ◌*◌, ◌^◌, ℕ, suc, min, List, [], ◌∷◌, length, take, get_or, set, refl, sym, ap, ◌∙◌, subst, inl, inr, lit<, arith, length-set}
use Rattle.std.specs.Prelude.{◌⊎◌, fold, zip, swap}
use Rattle.std.specs.List.{range_with_len, sum_by}
use Rattle.std.proofs.lemmas.Bool.{cases_eq}
use Rattle.std.proofs.lemmas.List.{get_or-set_same, get_or-set_other, get_or-reverse, length-reverse, take_all}
use Rattle.std.proofs.lemmas.List.Edits.{length-swap}
use Rattle.std.proofs.lemmas.List.FromFn.{length-range_with_len, get_or-range_with_len}
use Rattle.std.proofs.lemmas.List.Recursion.{is_sum_by}
use Rattle.std.proofs.lemmas.List.Sums.{fold_more, sum_by-set}
use Rattle.std.proofs.lemmas.Slice.Zip.{length-zip, get_or-zip}
use Rattle.std.proofs.Math.Nat.{div-lt_iff_lt-mul, mul-lt-mul_of_pos_left, mul_comm}
use Rattle.vt_rand.specs.Draw.{below_of}
use Rattle.vt_value.specs.declared.value.Value.{Value}
use Rattle.vt_value.specs.Sizes.{size_of, sizes_of}
use Rattle.vt_ring.specs.Shuffling.{exchanged, last_to_one, shuffled_by}

-- the exchanges of n items by these words
abbrev pub exchanges : ℕ → List ℕ → List (ℕ × ℕ)
exchanges n words = zip (last_to_one n) words

length-last_to_one : (n : ℕ) → length (last_to_one n) ≡ n - 1
length-last_to_one n = length-reverse (range_with_len 1 (n - 1)) ∙ length-range_with_len 1 (n - 1)

last_to_one-at : (n i d : ℕ) → i < n - 1 → get_or (last_to_one n) i d ≡ n - 1 - i
last_to_one-at n i d h =
    let long : length (range_with_len 1 (n - 1)) ≡ n - 1 = length-range_with_len 1 (n - 1) in
    get_or-reverse (range_with_len 1 (n - 1)) i d (omega arith)
    ∙ ap (λ k. get_or (range_with_len 1 (n - 1)) (k - 1 - i) d) long
    ∙ get_or-range_with_len 1 (n - 1) (n - 1 - 1 - i) d (omega arith)
    ∙ (let e : 1 + (n - 1 - 1 - i) ≡ n - 1 - i = omega arith in e)

exchanges-at : (n : ℕ) (words : List ℕ) (i : ℕ) → i < n - 1 → i < length words → get_or (exchanges n words) i (0, 0) ≡ (n - 1 - i, get_or words i 0)
exchanges-at n words i low high =
    let long : length (last_to_one n) ≡ n - 1 = length-last_to_one n in
    get_or-zip (last_to_one n) words i (0, 0) (omega arith) high ∙ ap (λ k. (k, get_or words i 0)) (last_to_one-at n i 0 low)

length-exchanges : (n : ℕ) (words : List ℕ) → length (exchanges n words) ≡ min (n - 1) (length words)
length-exchanges n words = length-zip (last_to_one n) words ∙ ap (λ k. min k (length words)) (length-last_to_one n)

-- one more exchange
pub exchange_more : (items : List Value) (words : List ℕ) (i last word : ℕ) → last + i ≡ length items → 1 < last → i < length words → word ≡ get_or words i 0 →
    fold exchanged items (take (i + 1) (exchanges (length items) words)) ≡ swap (fold exchanged items (take i (exchanges (length items) words))) (last - 1) (below_of word (last - 1 + 1))
exchange_more items words i last word place more within is =
    let many : length (exchanges (length items) words) ≡ min (length items - 1) (length words) = length-exchanges (length items) words in
    let at : length items - 1 - i ≡ last - 1 = omega arith in
    fold_more exchanged items (exchanges (length items) words) i (0, 0) (omega arith)
    ∙ ap (exchanged (fold exchanged items (take i (exchanges (length items) words)))) (exchanges-at (length items) words i (omega arith) within ∙ ap (λ k. (k, get_or words i 0)) at ∙ ap (λ w. (last - 1, w)) (sym is))

-- none is left
pub exchange_all_made : (items : List Value) (words : List ℕ) (i : ℕ) → (length items - 1 ≤ i) ⊎ (length words ≤ i) → fold exchanged items (take i (exchanges (length items) words)) ≡ shuffled_by items words
exchange_all_made items words i (inl h) =
    let many : length (exchanges (length items) words) ≡ min (length items - 1) (length words) = length-exchanges (length items) words in
    ap (fold exchanged items) (take_all i (exchanges (length items) words) (omega arith))
exchange_all_made items words i (inr h) =
    let many : length (exchanges (length items) words) ≡ min (length items - 1) (length words) = length-exchanges (length items) words in
    ap (fold exchanged items) (take_all i (exchanges (length items) words) (omega arith))

-- an exchange keeps the count and the size
sizes-sum : (items : List Value) → sizes_of items ≡ sum_by size_of items
sizes-sum items = is_sum_by sizes_of size_of refl (λ _ _. refl) items

written : (items : List Value) (i j : ℕ) (d : Value) → i < length items → get_or (set items i (get_or items j d)) j d ≡ get_or items j d
written items i j d h = elim (cases_eq j i) [ inl same ↦ ap (λ k. get_or (set items i (get_or items j d)) k d) same ∙ get_or-set_same items i (get_or items j d) d h | inr other ↦ get_or-set_other items i j (get_or items j d) d other ]

sizes-swap : (items : List Value) (i j : ℕ) → i < length items → j < length items → sizes_of (swap items i j) ≡ sizes_of items
sizes-swap [] i j low high = refl
sizes-swap (d ∷ ys) i j low high =
    let xs = d ∷ ys in
    let first : sum_by size_of (set (d ∷ ys) i (get_or (d ∷ ys) j d)) + size_of (get_or (d ∷ ys) i d) ≡ sum_by size_of (d ∷ ys) + size_of (get_or (d ∷ ys) j d) = sum_by-set size_of (d ∷ ys) i (get_or (d ∷ ys) j d) d low in
    let long : length (set (d ∷ ys) i (get_or (d ∷ ys) j d)) ≡ length (d ∷ ys) = length-set (d ∷ ys) i (get_or (d ∷ ys) j d) in
    let second : sum_by size_of (set (set (d ∷ ys) i (get_or (d ∷ ys) j d)) j (get_or (d ∷ ys) i d)) + size_of (get_or (set (d ∷ ys) i (get_or (d ∷ ys) j d)) j d) ≡ sum_by size_of (set (d ∷ ys) i (get_or (d ∷ ys) j d)) + size_of (get_or (d ∷ ys) i d) = sum_by-set size_of (set (d ∷ ys) i (get_or (d ∷ ys) j d)) j (get_or (d ∷ ys) i d) d (subst (λ n. j < n) (sym long) high) in
    let third : size_of (get_or (set (d ∷ ys) i (get_or (d ∷ ys) j d)) j d) ≡ size_of (get_or (d ∷ ys) j d) = ap size_of (written (d ∷ ys) i j d low) in
    sizes-sum (swap (d ∷ ys) i j) ∙ same_sum (sum_by size_of (swap (d ∷ ys) i j)) (sum_by size_of (set (d ∷ ys) i (get_or (d ∷ ys) j d))) (sum_by size_of (d ∷ ys)) (size_of (get_or (d ∷ ys) i d)) (size_of (get_or (d ∷ ys) j d)) (size_of (get_or (set (d ∷ ys) i (get_or (d ∷ ys) j d)) j d)) first second third ∙ sym (sizes-sum (d ∷ ys))
  where
    same_sum : (two one none a b c : ℕ) → one + a ≡ none + b → two + c ≡ one + a → c ≡ b → two ≡ none
    same_sum two one none a b c f s t = omega arith

-- each exchange is of items that are there
abbrev AreWithin : ℕ → List (ℕ × ℕ) → Type 0
AreWithin n [] = Unit {0}
AreWithin n (pair ∷ rest) = (pair.0 < n) × (pair.1 < 2 ^ 32) × AreWithin n rest

chosen_below : (word n : ℕ) → word < 2 ^ 32 → below_of word (n + 1) < n + 1
unfolding below_of
chosen_below word n h = (div-lt_iff_lt-mul {k = 2 ^ 32} {x = word * (n + 1)} {y = n + 1} (lit< tt)).1 (below word n h)
  where
    below : (word n : ℕ) → word < 2 ^ 32 → word * (n + 1) < (n + 1) * 2 ^ 32
    below word n h = rw mul_comm (mul-lt-mul_of_pos_left h (omega arith))

exchanged_same : (items : List Value) (i word : ℕ) → i < length items → word < 2 ^ 32 → (length (exchanged items (i, word)) ≡ length items) × (sizes_of (exchanged items (i, word)) ≡ sizes_of items)
exchanged_same items i word low high =
    let chosen : below_of word (i + 1) < i + 1 = chosen_below word i high in
    (length-swap items i (below_of word (i + 1)), sizes-swap items i (below_of word (i + 1)) low (omega arith))

all_exchanged : (n : ℕ) (pairs : List (ℕ × ℕ)) (items : List Value) → AreWithin n pairs → length items ≡ n → (length (fold exchanged items pairs) ≡ n) × (sizes_of (fold exchanged items pairs) ≡ sizes_of items)
all_exchanged n [] items h long = (long, refl)
all_exchanged n ((i, word) ∷ pairs) items h long =
    let here = exchanged_same items i word (subst (λ m. i < m) (sym long) h.0) h.1 in
    let rest = all_exchanged n pairs (exchanged items (i, word)) h.2 (here.0 ∙ long) in
    (rest.0, rest.1 ∙ here.1)

within_zip : (n : ℕ) (places words : List ℕ) → ((i : ℕ) → i < length places → get_or places i 0 < n) → ((i : ℕ) → i < length words → get_or words i 0 < 2 ^ 32) → AreWithin n (zip places words)
within_zip n [] words p w = tt
within_zip n (place ∷ places) [] p w = tt
within_zip n (place ∷ places) (word ∷ words) p w = (p 0 (omega arith), w 0 (omega arith), within_zip n places words (λ i h. p (suc i) (omega arith)) (λ i h. w (suc i) (omega arith)))

places_within : (n i : ℕ) → i < length (last_to_one n) → get_or (last_to_one n) i 0 < n
places_within n i h =
    let long : length (last_to_one n) ≡ n - 1 = length-last_to_one n in
    let at : get_or (last_to_one n) i 0 ≡ n - 1 - i = last_to_one-at n i 0 (omega arith) in
    omega arith

-- a shuffled list is as long and as large
pub shuffled_same : (items : List Value) (words : List ℕ) → ((i : ℕ) → i < length words → get_or words i 0 < 2 ^ 32) → (length (shuffled_by items words) ≡ length items) × (sizes_of (shuffled_by items words) ≡ sizes_of items)
shuffled_same items words h = all_exchanged (length items) (exchanges (length items) words) items (within_zip (length items) (last_to_one (length items)) words (places_within (length items)) h) refl
