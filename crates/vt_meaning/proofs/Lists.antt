-- Places in lists: what stands at a number after a change.
use Rattle.std.proofs.Common.{◌≡◌, ℕ, ◌+◌, ◌<◌, List, [], ◌∷◌, ◌++◌, length, take, refl, ap, inl, inr, ◌⊎◌, arith, zero, suc, Option, Some, None, subst, sym, ◌∙◌, ◌≤◌}
use Rattle.std.specs.Prelude.{slice_get, slice_set}
use Rattle.std.proofs.lemmas.Option.{slice_get_cases}

pub none_some : {A : Type 0} {item : A} → ◌≡◌ {A = Option A} None (Some item) → ⊥
none_some h = cc

pub get-set_same : {A : Type 0} (items : List A) (i : ℕ) (other v : A) → slice_get items i ≡ Some other → slice_get (slice_set items i v) i ≡ Some v
get-set_same [] i other v h = absurd (none_some h)
get-set_same (item ∷ items) zero other v h = refl
get-set_same (item ∷ items) (suc i) other v h = get-set_same items i other v h

pub get-set_other : {A : Type 0} (items : List A) (i k : ℕ) (v : A) → (k ≡ i → ⊥) → slice_get (slice_set items i v) k ≡ slice_get items k
get-set_other [] i k v ne = refl
get-set_other (item ∷ items) zero zero v ne = absurd (ne refl)
get-set_other (item ∷ items) zero (suc k) v ne = refl
get-set_other (item ∷ items) (suc i) zero v ne = refl
get-set_other (item ∷ items) (suc i) (suc k) v ne = get-set_other items i k v (λ e. ne (ap suc e))

pub get-append_left : {A : Type 0} (items others : List A) (k : ℕ) (v : A) → slice_get items k ≡ Some v → slice_get (items ++ others) k ≡ Some v
get-append_left [] others k v h = absurd (none_some h)
get-append_left (item ∷ items) others zero v h = h
get-append_left (item ∷ items) others (suc k) v h = get-append_left items others k v h

pub get-append_cases : {A : Type 0} (items others : List A) (k : ℕ) (v : A) → slice_get (items ++ others) k ≡ Some v →
    (slice_get items k ≡ Some v) ⊎ ((j : ℕ) × (k ≡ length items + j) × (slice_get others j ≡ Some v))
get-append_cases [] others k v h = inr (k, omega arith, h)
get-append_cases (item ∷ items) others zero v h = inl h
get-append_cases (item ∷ items) others (suc k) v h =
    elim (get-append_cases items others k v h) [ inl l ↦ inl l | inr r ↦ inr (r.0, (let e = r.1 in omega arith), r.2) ]

pub get-append_right : {A : Type 0} (items others : List A) (j : ℕ) (v : A) → slice_get others j ≡ Some v → slice_get (items ++ others) (length items + j) ≡ Some v
get-append_right [] others j v h = let e : 0 + j ≡ j = omega arith in rw e h
get-append_right (item ∷ items) others j v h = let e : suc (length items) + j ≡ suc (length items + j) = omega arith in rw e (get-append_right items others j v h)

pub length-slice_set : {A : Type 0} (items : List A) (i : ℕ) (v : A) → length (slice_set items i v) ≡ length items
length-slice_set [] i v = refl
length-slice_set (item ∷ items) zero v = refl
length-slice_set (item ∷ items) (suc i) v = ap suc (length-slice_set items i v)

pub take_front : {A : Type 0} (items others : List A) → take (length items) (items ++ others) ≡ items
take_front [] others = refl
take_front (item ∷ items) others = ap (λ l. item ∷ l) (take_front items others)

pub take_one_more : {A : Type 0} (items : List A) (i : ℕ) (item : A) → slice_get items i ≡ Some item → take (suc i) items ≡ take i items ++ item ∷ []
take_one_more [] i item h = absurd (let z : ◌≡◌ {A = Option _} None (Some item) = h in cc)
take_one_more (other ∷ others) zero item h = let e : other ≡ item = cc in rw e refl
take_one_more (other ∷ others) (suc i) item h = ap (λ l. other ∷ l) (take_one_more others i item h)

-- a list has an entry at each number below its length
pub entry_at : {A : Type 0} (items : List A) (i : ℕ) → i < length items → (item : A) × (slice_get items i ≡ Some item)
entry_at items i h = elim ((slice_get_cases items i).1) [ inl w ↦ (w.0, w.2) | inr w ↦ absurd (omega arith) ]

-- a list, cut at one of its entries
pub cut_at : {A : Type 0} (items : List A) (i : ℕ) (item : A) → slice_get items i ≡ Some item → (w : List A) × (items ≡ take i items ++ item ∷ w)
cut_at [] i item h = absurd (none_some h)
cut_at (other ∷ others) zero item h = (others, (let z : Some other ≡ Some item = h in let s : other ≡ item = cc z in ap (λ l. l ∷ others) s))
cut_at (other ∷ others) (suc i) item h = let c = cut_at others i item h in (c.0, ap (λ l. other ∷ l) c.1)

pub get_front : {A : Type 0} (items others w : List A) (i : ℕ) (item : A) → others ≡ items ++ w → i < length items → slice_get others i ≡ Some item → slice_get items i ≡ Some item
get_front items others w i item e lt h = front items w i item lt (subst (λ l. slice_get l i ≡ Some item) e h)
  where
    front : {A : Type 0} (items w : List A) (i : ℕ) (item : A) → i < length items → slice_get (items ++ w) i ≡ Some item → slice_get items i ≡ Some item
    front [] w i item lt h = absurd (omega arith)
    front (other ∷ others) w zero item lt h = h
    front (other ∷ others) w (suc i) item lt h = front others w i item (omega arith) h

pub take_past : {A : Type 0} (zs w : List A) (i : ℕ) → length zs ≤ i → (r : List A) × (take i (zs ++ w) ≡ zs ++ r)
take_past [] w i le = (take i w, refl)
take_past (z ∷ zs) w zero le = absurd (omega arith)
take_past (z ∷ zs) w (suc i) le = let t = take_past zs w i (omega arith) in (t.0, ap (λ l. z ∷ l) t.1)

pub front_of : {A : Type 0} (items others : List A) (i : ℕ) → length items ≡ i → take i (items ++ others) ≡ items
front_of items others i e = ap (λ n. take n (items ++ others)) (sym e) ∙ take_front items others
