-- What holds of each element of a list holds of each element of lists that are made of it.
use Rattle.std.proofs.Common.{◌≡◌, ℕ, zero, suc, Bool, true, List, [], ◌∷◌, ◌++◌, map, take, drop, reverse, replicate, get_or, set, sym, subst}
use Rattle.std.specs.Prelude.{flat_map, slice_get, swap, unwrap_or}
use Rattle.std.specs.List.{AllByRecursion, list_all}
use Rattle.std.specs.Option.{IfSome}
use Rattle.std.proofs.lemmas.List.{reverse-append}
use Rattle.vt_frac.proofs.DecimalLemmas.{both_true}

module _ {X : Type 0} (P : X → Type 0) where
  pub each_append : (xs ys : List X) → AllByRecursion P xs → AllByRecursion P ys → AllByRecursion P (xs ++ ys)
  each_append [] ys h k = k
  each_append (x ∷ xs) ys h k = (h.0, each_append xs ys h.1 k)

  pub each_take : (n : ℕ) (xs : List X) → AllByRecursion P xs → AllByRecursion P (take n xs)
  each_take zero xs h = tt
  each_take (suc n) [] h = tt
  each_take (suc n) (x ∷ xs) h = (h.0, each_take n xs h.1)

  pub each_drop : (n : ℕ) (xs : List X) → AllByRecursion P xs → AllByRecursion P (drop n xs)
  each_drop zero xs h = h
  each_drop (suc n) [] h = tt
  each_drop (suc n) (x ∷ xs) h = each_drop n xs h.1

  pub each_reverse : (xs : List X) → AllByRecursion P xs → AllByRecursion P (reverse xs)
  each_reverse [] h = tt
  each_reverse (x ∷ xs) h = subst (AllByRecursion P) (sym (reverse-append (x ∷ []) xs)) (each_append (reverse xs) (x ∷ []) (each_reverse xs h.1) (h.0, tt))

  pub each_replicate : (n : ℕ) (x : X) → P x → AllByRecursion P (replicate n x)
  each_replicate zero x h = tt
  each_replicate (suc n) x h = (h, each_replicate n x h)

  pub each_set : (xs : List X) (i : ℕ) (x : X) → P x → AllByRecursion P xs → AllByRecursion P (set xs i x)
  each_set [] i x p h = tt
  each_set (y ∷ xs) zero x p h = (p, h.1)
  each_set (y ∷ xs) (suc i) x p h = (h.0, each_set xs i x p h.1)

  -- the element at a place, or another one
  pub each_at : (xs : List X) (i : ℕ) (other : X) → P other → AllByRecursion P xs → P (get_or xs i other)
  each_at [] i other p h = p
  each_at (x ∷ xs) zero other p h = h.0
  each_at (x ∷ xs) (suc i) other p h = each_at xs i other p h.1

  pub each_swap : (xs : List X) (i j : ℕ) → AllByRecursion P xs → AllByRecursion P (swap xs i j)
  each_swap [] i j h = tt
  each_swap (x ∷ xs) i j h =
      each_set (set (x ∷ xs) i (get_or (x ∷ xs) j x)) j (get_or (x ∷ xs) i x) (each_at (x ∷ xs) i x h.0 h)
      (each_set (x ∷ xs) i (get_or (x ∷ xs) j x) (each_at (x ∷ xs) j x h.0 h) h)

  -- the element at a place, if there is one
  pub each_found : (xs : List X) (i : ℕ) → AllByRecursion P xs → IfSome (slice_get xs i) P
  each_found [] i h = tt
  each_found (x ∷ xs) zero h = h.0
  each_found (x ∷ xs) (suc i) h = each_found xs i h.1

  pub each_found_or : (xs : List X) (i : ℕ) (other : X) → P other → AllByRecursion P xs → P (unwrap_or (slice_get xs i) other)
  each_found_or [] i other p h = p
  each_found_or (x ∷ xs) zero other p h = h.0
  each_found_or (x ∷ xs) (suc i) other p h = each_found_or xs i other p h.1

  pub each_made : {Y : Type 0} (f : Y → X) → ((y : Y) → P (f y)) → (ys : List Y) → AllByRecursion P (map f ys)
  each_made f h [] = tt
  each_made f h (y ∷ ys) = (h y, each_made f h ys)

  -- by a test that all of them pass
  pub each_passes : (test : X → Bool) → ((x : X) → test x ≡ true → P x) → (xs : List X) → list_all test xs ≡ true → AllByRecursion P xs
  each_passes test k [] h = tt
  each_passes test k (x ∷ xs) h =
      let both = both_true (test x) (list_all test xs) h in
      (k x both.0, each_passes test k xs both.1)

module _ {X Y : Type 0} (P : X → Type 0) (Q : Y → Type 0) where
  pub each_map : (f : X → Y) → ((x : X) → P x → Q (f x)) → (xs : List X) → AllByRecursion P xs → AllByRecursion Q (map f xs)
  each_map f k [] h = tt
  each_map f k (x ∷ xs) h = (k x h.0, each_map f k xs h.1)

  pub each_flat_map : (f : X → List Y) → ((x : X) → P x → AllByRecursion Q (f x)) → (xs : List X) → AllByRecursion P xs → AllByRecursion Q (flat_map f xs)
  each_flat_map f k [] h = tt
  each_flat_map f k (x ∷ xs) h = each_append Q (f x) (flat_map f xs) (k x h.0) (each_flat_map f k xs h.1)
