-- The items of a turned list by their places.
use Rattle.std.proofs.Common.{◌≡◌, ◌≤◌, ◌<◌, ◌+◌, ◌-◌, ◌*◌, ◌/◌, ◌%◌, ℕ, zero, suc, ℤ, pos, negsuc, ◌+ℤ◌, unsigned_abs, List, [], ◌∷◌, length, take, drop, get_or, Some, refl, sym, ap, ◌∙◌, inl, inr, arith, length-append, length-drop, length-take}
use Rattle.std.specs.Prelude.{slice_get, ok_or}
use Rattle.std.proofs.Math.Nat.{add-mod-mod}
use Rattle.std.proofs.lemmas.Bool.{cases_lt}
use Rattle.std.proofs.lemmas.Int.{ints, int_rem_euclid_is}
use Rattle.std.proofs.lemmas.List.{get_or_append_left, get_or-append_right, get_or-drop, get_or-take}
use Rattle.std.proofs.lemmas.Nat.{mod-mul-add}
use Rattle.vt_value.specs.declared.fault.FaultKind.TheVariants.{EmptyRing}
use Rattle.vt_value.specs.declared.value.Value.{Value}
use Rattle.vt_ring.specs.Items.{wrapped}
use Rattle.vt_ring.specs.Turning.{RotatesByIndex, turned}

-- an item by its place
at_place : {X : Type 0} (xs : List X) (i : ℕ) (d : X) → i < length xs → slice_get xs i ≡ Some (get_or xs i d)
at_place [] i d h = absurd (omega arith)
at_place (x ∷ xs) zero d h = refl
at_place (x ∷ xs) (suc i) d h = at_place xs i d (omega arith)

length-turned : (items : List Value) (k : ℕ) → k ≤ length items → length (turned items k) ≡ length items
length-turned items k h = omega (arith, length-append (drop k items) (take k items), length-drop k items, length-take k items)

turned_low : (items : List Value) (k i : ℕ) (d : Value) → i + k < length items → get_or (turned items k) i d ≡ get_or items (k + i) d
turned_low items k i d h = get_or_append_left (drop k items) (take k items) d i (omega (arith, length-drop k items)) ∙ get_or-drop k items i d

turned_high : (items : List Value) (k i : ℕ) (d : Value) → k ≤ length items → length items ≤ i + k → i < length items → get_or (turned items k) i d ≡ get_or items (i + k - length items) d
turned_high items k i d small high low =
    let place : i - (length items - k) ≡ i + k - length items = omega arith in
    get_or-append_right (drop k items) (take k items) (length items - k) i d (length-drop k items) (omega arith)
    ∙ get_or-take k items (i - (length items - k)) d (omega arith)
    ∙ ap (λ m. get_or items m d) place

wrapped_small : (n : ℤ) (l : ℕ) → 0 < l → wrapped n l < l
wrapped_small (pos a) l h = omega arith
wrapped_small (negsuc a) l h = omega arith

-- the place of i + n
places : (n : ℤ) (l i : ℕ) → 0 < l → wrapped (pos i +ℤ n) l ≡ (i + wrapped n l) % l
places (pos a) l i h = sym (add-mod-mod i a l)
places (negsuc a) l i h =
    let whole : l * (a / l) + a % l ≡ a = omega arith in
    ap unsigned_abs (int_rem_euclid_is (pos i +ℤ negsuc a) (pos l) l (a / l + 1) (i + (l - 1 - a % l)) h refl (omega (arith, ints, whole)))

once_round : (m l : ℕ) → l ≤ m → m < l + l → m % l ≡ m - l
once_round m l low high = let e : m ≡ 1 * l + (m - l) = omega arith in ap (λ k. k % l) e ∙ mod-mul-add 1 l (m - l) (omega arith)

not_round : (m l : ℕ) → m < l → m % l ≡ m
not_round m l h = let e : m ≡ 0 * l + m = omega arith in ap (λ k. k % l) e ∙ mod-mul-add 0 l m h

turned_at : (items : List Value) (k i : ℕ) (d : Value) → k < length items → i < length items → get_or (turned items k) i d ≡ get_or items ((i + k) % length items) d
turned_at items k i d small low = elim (cases_lt (i + k) (length items)) [
  | inl h ↦ turned_low items k i d h ∙ ap (λ m. get_or items m d) (let e : k + i ≡ i + k = omega arith in e ∙ sym (not_round (i + k) (length items) h))
  | inr h ↦ turned_high items k i d (omega arith) h low ∙ ap (λ m. get_or items m d) (sym (once_round (i + k) (length items) h (omega arith)))
]

pub rotates : RotatesByIndex
rotates [] n i h = absurd (omega arith)
rotates (d ∷ rest) n i h =
    let l = length (d ∷ rest) in
    let k = wrapped n (length (d ∷ rest)) in
    let small : wrapped n (length (d ∷ rest)) < length (d ∷ rest) = wrapped_small n (length (d ∷ rest)) (omega arith) in
    let long : length (turned (d ∷ rest) (wrapped n (length (d ∷ rest)))) ≡ length (d ∷ rest) = length-turned (d ∷ rest) (wrapped n (length (d ∷ rest))) (omega arith) in
    let within : i < length (turned (d ∷ rest) (wrapped n (length (d ∷ rest)))) = omega arith in
    let back : (i + wrapped n (length (d ∷ rest))) % length (d ∷ rest) < length (d ∷ rest) = wrapped_small (pos (i + wrapped n (length (d ∷ rest)))) (length (d ∷ rest)) (omega arith) in
    ap (λ m. ok_or (slice_get (turned (d ∷ rest) (wrapped n (length (d ∷ rest)))) m) EmptyRing) (not_round i (length (turned (d ∷ rest) (wrapped n (length (d ∷ rest))))) within)
    ∙ ap (λ o. ok_or o EmptyRing) (at_place (turned (d ∷ rest) (wrapped n (length (d ∷ rest)))) i d within ∙ ap (λ v. Some v) (turned_at (d ∷ rest) (wrapped n (length (d ∷ rest))) i d small h) ∙ sym (at_place (d ∷ rest) ((i + wrapped n (length (d ∷ rest))) % length (d ∷ rest)) d back))
    ∙ ap (λ m. ok_or (slice_get (d ∷ rest) m) EmptyRing) (sym (places n (length (d ∷ rest)) i (omega arith)))
