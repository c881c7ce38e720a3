-- Lists of positions whose events stand in order of place.
use Rattle.std.proofs.Common.{◌≡◌, ℕ, zero, suc, ◌<◌, ◌≤◌, List, [], ◌∷◌, ◌++◌, Bool, true, false, true≢false, cond, filter, Some, None, ◌⊎◌, inl, inr, take, drop, insert, slice_get, refl, sym, ap, ◌∙◌, subst, arith}
use Rattle.std.specs.List.{Contains}
use Rattle.std.proofs.lemmas.List.{take-append-drop}
use Rattle.std.proofs.lemmas.List.Elements.{Contains-append_cases, Contains-append_left, Contains-append_right}
use Rattle.std.proofs.lemmas.Option.{same_Some}
use Rattle.vt_event.specs.Event.{EventView}
use Rattle.vt_state.proofs.OwnPlaces.{contains_at, index_of}
use Rattle.vt_index.specs.private.Rows.{AreInOrder, AreWithin, IsRising}

pub none_in : {X : Type 0} (x : X) → Contains [] x → ⊥
none_in x (k, within, is) = absurd (omega arith)

-- the first element, or one of the rest
pub head_or : {X : Type 0} (y : X) (ys : List X) (x : X) → Contains (y ∷ ys) x → (y ≡ x) ⊎ Contains ys x
head_or y ys x (zero, within, is) = inl is
head_or y ys x (suc k, within, is) = inr (k, omega arith, is)

pub in_head : {X : Type 0} (y : X) (ys : List X) → Contains (y ∷ ys) y
in_head y ys = (0, omega arith, refl)

pub in_tail : {X : Type 0} (y : X) (ys : List X) (x : X) → Contains ys x → Contains (y ∷ ys) x
in_tail y ys x listed = Contains-append_right (y ∷ []) ys x listed

-- two positions of a row
pub rising_at : (events : List EventView) (at : List ℕ) (j k i m : ℕ) → IsRising events at → j < k → slice_get at j ≡ Some i → slice_get at k ≡ Some m → AreInOrder events i m
rising_at events [] j k i m r less e f = absurd (let z : None ≡ Some i = e in cc)
rising_at events (x ∷ xs) j zero i m r less e f = absurd (omega arith)
rising_at events (x ∷ xs) zero (suc k) i m r less e f = subst (λ (p : ℕ). AreInOrder events p m) (same_Some x i e) (r.0 m (contains_at xs k m f))
rising_at events (x ∷ xs) (suc j) (suc k) i m r less e f = rising_at events xs j k i m r.1 (omega arith) e f

-- a list with one element more in it
pub insert_cases : (at : List ℕ) (c x y : ℕ) → Contains (insert at c x) y → Contains at y ⊎ (x ≡ y)
insert_cases at c x y listed = go (Contains-append_cases (take c at) (x ∷ drop c at) y listed)
  where
    whole : take c at ++ drop c at ≡ at
    whole = take-append-drop c at

    tail : (x ≡ y) ⊎ Contains (drop c at) y → Contains at y ⊎ (x ≡ y)
    tail (inl same) = inr same
    tail (inr back) = inl (subst (λ (l : List ℕ). Contains l y) whole (Contains-append_right (take c at) (drop c at) y back))

    go : Contains (take c at) y ⊎ Contains (x ∷ drop c at) y → Contains at y ⊎ (x ≡ y)
    go (inl front) = inl (subst (λ (l : List ℕ). Contains l y) whole (Contains-append_left (take c at) (drop c at) y front))
    go (inr back) = tail (head_or x (drop c at) y back)

pub insert_keeps : (at : List ℕ) (c x y : ℕ) → Contains at y → Contains (insert at c x) y
insert_keeps at c x y listed = go (Contains-append_cases (take c at) (drop c at) y (subst (λ (l : List ℕ). Contains l y) (sym (take-append-drop c at)) listed))
  where
    go : Contains (take c at) y ⊎ Contains (drop c at) y → Contains (insert at c x) y
    go (inl front) = Contains-append_left (take c at) (x ∷ drop c at) y front
    go (inr back) = Contains-append_right (take c at) (x ∷ drop c at) y (in_tail x (drop c at) y back)

pub insert_has : (at : List ℕ) (c x : ℕ) → Contains (insert at c x) x
insert_has at c x = Contains-append_right (take c at) (x ∷ drop c at) x (in_head x (drop c at))

pub insert_rising : (events : List EventView) (at : List ℕ) (c x : ℕ) → IsRising events at → ((k i : ℕ) → k < c → slice_get at k ≡ Some i → AreInOrder events i x) →
    ((k i : ℕ) → c ≤ k → slice_get at k ≡ Some i → AreInOrder events x i) → IsRising events (insert at c x)
insert_rising events at zero x r front behind = (λ j listed. let h = index_of at j listed in behind h.0 j (omega arith) h.1, r)
insert_rising events [] (suc c) x r front behind = (λ j listed. absurd (none_in j listed), tt)
insert_rising events (y ∷ ys) (suc c) x r front behind =
    (λ j listed. go j (insert_cases ys c x j listed), insert_rising events ys c x r.1 (λ k i less e. front (suc k) i (omega arith) e) (λ k i less e. behind (suc k) i (omega arith) e))
  where
    go : (j : ℕ) → Contains ys j ⊎ (x ≡ j) → AreInOrder events y j
    go j (inl old) = r.0 j old
    go j (inr same) = subst (AreInOrder events y) same (front zero y (omega arith) refl)

-- what a filter keeps
pub filter_from : (test : ℕ → Bool) (at : List ℕ) (y : ℕ) → Contains (filter test at) y → Contains at y × (test y ≡ true)
filter_from test [] y listed = absurd (none_in y listed)
filter_from test (x ∷ xs) y listed = by (test x) refl (λ h. filter_from test xs y h)
  where
    later : Contains xs y × (test y ≡ true) → Contains (x ∷ xs) y × (test y ≡ true)
    later h = (in_tail x xs y h.0, h.1)

    go : test x ≡ true → (Contains (filter test xs) y → Contains xs y × (test y ≡ true)) → (x ≡ y) ⊎ Contains (filter test xs) y → Contains (x ∷ xs) y × (test y ≡ true)
    go e further (inl same) = (subst (Contains (x ∷ xs)) same (in_head x xs), subst (λ (z : ℕ). test z ≡ true) same e)
    go e further (inr rest) = later (further rest)

    by : (b : Bool) → test x ≡ b → (Contains (filter test xs) y → Contains xs y × (test y ≡ true)) → Contains (x ∷ xs) y × (test y ≡ true)
    by true e further = go e further (head_or x (filter test xs) y (subst (λ (c : Bool). Contains (cond c (x ∷ filter test xs) (filter test xs)) y) e listed))
    by false e further = later (further (subst (λ (c : Bool). Contains (cond c (x ∷ filter test xs) (filter test xs)) y) e listed))

pub filter_to : (test : ℕ → Bool) (at : List ℕ) (y : ℕ) → Contains at y → test y ≡ true → Contains (filter test at) y
filter_to test [] y listed passes = absurd (none_in y listed)
filter_to test (x ∷ xs) y listed passes = by (test x) refl (λ h. filter_to test xs y h passes)
  where
    kept : (Contains xs y → Contains (filter test xs) y) → (x ≡ y) ⊎ Contains xs y → Contains (x ∷ filter test xs) y
    kept further (inl same) = subst (Contains (x ∷ filter test xs)) same (in_head x (filter test xs))
    kept further (inr rest) = in_tail x (filter test xs) y (further rest)

    dropped : test x ≡ false → (Contains xs y → Contains (filter test xs) y) → (x ≡ y) ⊎ Contains xs y → Contains (filter test xs) y
    dropped e further (inl same) = absurd (true≢false (sym passes ∙ (ap test (sym same) ∙ e)))
    dropped e further (inr rest) = further rest

    by : (b : Bool) → test x ≡ b → (Contains xs y → Contains (filter test xs) y) → Contains (filter test (x ∷ xs)) y
    by true e further = subst (λ (c : Bool). Contains (cond c (x ∷ filter test xs) (filter test xs)) y) (sym e) (kept further (head_or x xs y listed))
    by false e further = subst (λ (c : Bool). Contains (cond c (x ∷ filter test xs) (filter test xs)) y) (sym e) (dropped e further (head_or x xs y listed))

pub filter_rising : (events : List EventView) (test : ℕ → Bool) (at : List ℕ) → IsRising events at → IsRising events (filter test at)
filter_rising events test [] r = tt
filter_rising events test (x ∷ xs) r = by (test x) refl (filter_rising events test xs r.1)
  where
    by : (b : Bool) → test x ≡ b → IsRising events (filter test xs) → IsRising events (filter test (x ∷ xs))
    by true e rest = subst (λ (c : Bool). IsRising events (cond c (x ∷ filter test xs) (filter test xs))) (sym e) (λ j listed. r.0 j (filter_from test xs j listed).0, rest)
    by false e rest = subst (λ (c : Bool). IsRising events (cond c (x ∷ filter test xs) (filter test xs))) (sym e) rest

-- the order stays where the events at the positions do
pub rising_alike : (events others : List EventView) (n : ℕ) (at : List ℕ) → ((i : ℕ) → i < n → slice_get events i ≡ slice_get others i) → AreWithin n at → IsRising events at → IsRising others at
rising_alike events others n [] alike within r = tt
rising_alike events others n (x ∷ xs) alike within r = (
  λ j listed event later e f.
      r.0 j listed event later (alike x (within x (in_head x xs)) ∙ e) (alike j (within j (in_tail x xs j listed)) ∙ f),
  rising_alike events others n xs alike (λ j listed. within j (in_tail x xs j listed)) r.1,
)
