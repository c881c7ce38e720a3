-- Logs that continue by entries of some workers, or without entries of theirs.
use Rattle.std.proofs.Common.{◌≡◌, ℕ, zero, suc, ◌+◌, ◌-◌, ◌<◌, ◌≤◌, List, [], ◌∷◌, ◌++◌, length, sym, refl, subst, ap, ◌∙◌, arith, drop}
use Rattle.vt_lock.specs.Numbers.{occurrences}
use Rattle.vt_lock.specs.Logs.{AreAllOf, AreOfWorkers, ContinuesWithout, HasNoneOf, ShorterBegins, first_if_positive, longer}
use Rattle.vt_lock.proofs.Sums.{occurrences_append}

module _ {E : Type 0} (worker : E → ℕ) where
  pub none_in_append : (ns : List ℕ) (xs ys : List E) → HasNoneOf worker ns xs → HasNoneOf worker ns ys → HasNoneOf worker ns (xs ++ ys)
  none_in_append ns [] ys p q = q
  none_in_append ns (x ∷ xs) ys p q = (p.0, none_in_append ns xs ys p.1 q)

  pub none_behind : (ns : List ℕ) (xs ys : List E) → HasNoneOf worker ns (xs ++ ys) → HasNoneOf worker ns ys
  none_behind ns [] ys p = p
  none_behind ns (x ∷ xs) ys p = none_behind ns xs ys p.1

  pub none_before : (ns : List ℕ) (xs ys : List E) → HasNoneOf worker ns (xs ++ ys) → HasNoneOf worker ns xs
  none_before ns [] ys p = tt
  none_before ns (x ∷ xs) ys p = (p.0, none_before ns xs ys p.1)

  -- none of some numbers, so none of fewer
  pub none_fewer : (ns ms : List ℕ) (xs : List E) → ((n : ℕ) → occurrences n ms ≤ occurrences n ns) → HasNoneOf worker ns xs → HasNoneOf worker ms xs
  none_fewer ns ms [] le p = tt
  none_fewer ns ms (x ∷ xs) le p = let h = le (worker x) in let z = p.0 in (omega (arith, h, z), none_fewer ns ms xs le p.1)

  -- none of either list, so none of both
  pub none_both : (ns ms both : List ℕ) (xs : List E) → ((n : ℕ) → occurrences n both ≡ occurrences n ns + occurrences n ms) → HasNoneOf worker ns xs → HasNoneOf worker ms xs → HasNoneOf worker both xs
  none_both ns ms both [] eq p q = tt
  none_both ns ms both (x ∷ xs) eq p q = let h = eq (worker x) in let y = p.0 in let z = q.0 in (omega (arith, h, y, z), none_both ns ms both xs eq p.1 q.1)

  -- entries of some numbers are of none of the others
  pub none_others : (ns ms : List ℕ) (xs : List E) → ((n : ℕ) → occurrences n ns + occurrences n ms ≤ 1) → AreAllOf worker ns xs → HasNoneOf worker ms xs
  none_others ns ms [] le p = tt
  none_others ns ms (x ∷ xs) le p = let h = le (worker x) in let z = p.0 in (omega (arith, h, z), none_others ns ms xs le p.1)

  pub below_append : (xs ys : List E) → AreOfWorkers worker xs → AreOfWorkers worker ys → AreOfWorkers worker (xs ++ ys)
  below_append [] ys p q = q
  below_append (x ∷ xs) ys p q = (p.0, below_append xs ys p.1 q)

  pub each_below : (ns : List ℕ) (xs : List E) → ((n : ℕ) → 0 < occurrences n ns → n < 64) → AreAllOf worker ns xs → AreOfWorkers worker xs
  each_below ns [] lt p = tt
  each_below ns (x ∷ xs) lt p = (lt (worker x) p.0, each_below ns xs lt p.1)

abbrev head_or : {E : Type 0} → E → List E → E
head_or x [] = x
head_or x (y ∷ ys) = y

module _ {E : Type 0} where
  -- of two prefixes of one list the shorter is a prefix of the longer
  pub two_beginnings : (xs ys us vs : List E) → xs ++ us ≡ ys ++ vs → length ys ≤ length xs → (mid : List E) × (xs ≡ ys ++ mid) × (vs ≡ mid ++ us)
  two_beginnings xs [] us vs e le = (xs, refl, sym e)
  two_beginnings [] (y ∷ ys) us vs e le = absurd (omega arith)
  two_beginnings (x ∷ xs) (y ∷ ys) us vs e le =
      let h = two_beginnings xs ys us vs (ap (drop 1) e) (omega arith) in
      let heads : x ≡ y = ap (λ (l : List E). head_or x l) e in
      (h.0, (λ i. heads i ∷ h.1 i), h.2)

module _ {E : Type 0} (worker : E → ℕ) where
  -- of two logs that one log continues, each without entries of its numbers, the longer continues the shorter so
  pub begins : (ns ms : List ℕ) (xs ys log : List E) → ContinuesWithout worker ns xs log → ContinuesWithout worker ms ys log → length xs ≤ length ys → ContinuesWithout worker ns xs ys
  begins ns ms xs ys log p q le =
      let h = two_beginnings ys xs q.0 p.0 (sym q.1 ∙ p.1) le in
      (h.0, h.1, none_before worker ns h.0 q.0 (subst (HasNoneOf worker ns) h.2 p.2))

  pub shorter_begins : (ns ms : List ℕ) (xs ys log : List E) → ContinuesWithout worker ns xs log → ContinuesWithout worker ms ys log → ShorterBegins worker ns xs ms ys
  shorter_begins ns ms xs ys log p q = (begins ns ms xs ys log p q, begins ms ns ys xs log q p)

  -- the log continues the longer of two without entries of the numbers of both
  both_continue : (ns ms : List ℕ) (xs ys log : List E) → ContinuesWithout worker ns xs log → ContinuesWithout worker ms ys log → length xs ≤ length ys → ContinuesWithout worker (ns ++ ms) ys log
  both_continue ns ms xs ys log p q le =
      let h = two_beginnings ys xs q.0 p.0 (sym q.1 ∙ p.1) le in
      (q.0, q.1, none_both worker ns ms (ns ++ ms) q.0 (λ n. occurrences_append n ns ms) (none_behind worker ns h.0 q.0 (subst (HasNoneOf worker ns) h.2 p.2)) q.2)

  both_turned : (ns ms : List ℕ) (xs ys log : List E) → ContinuesWithout worker ns xs log → ContinuesWithout worker ms ys log → length ys ≤ length xs → ContinuesWithout worker (ns ++ ms) xs log
  both_turned ns ms xs ys log p q le =
      let h = two_beginnings xs ys p.0 q.0 (sym p.1 ∙ q.1) le in
      (p.0, p.1, none_both worker ns ms (ns ++ ms) p.0 (λ n. occurrences_append n ns ms) p.2 (none_behind worker ms h.0 p.0 (subst (HasNoneOf worker ms) h.2 q.2)))

  by_longer : (ns ms : List ℕ) (xs ys log : List E) → ContinuesWithout worker ns xs log → ContinuesWithout worker ms ys log → (k : ℕ) → length xs - length ys ≡ k → ContinuesWithout worker (ns ++ ms) (first_if_positive k xs ys) log
  by_longer ns ms xs ys log p q zero e = both_continue ns ms xs ys log p q (omega (arith, e))
  by_longer ns ms xs ys log p q (suc k) e = both_turned ns ms xs ys log p q (omega (arith, e))

  pub longer_continues : (ns ms : List ℕ) (xs ys log : List E) → ContinuesWithout worker ns xs log → ContinuesWithout worker ms ys log → ContinuesWithout worker (ns ++ ms) (longer xs ys) log
  longer_continues ns ms xs ys log p q = by_longer ns ms xs ys log p q (length xs - length ys) refl
