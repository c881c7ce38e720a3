-- Where a binary search ends in names that rise.
use Rattle.std.proofs.Common.{◌≡◌, ℕ, ◌+◌, ◌<◌, ◌≤◌, Bool, true, false, Option, Some, None, Result, Ok, Err, MatchResult, List, [], ◌∷◌, length, map, get_or, nat_eq, IsTrue, HoldsAt, refl, sym, ap, subst, ◌∙◌, arith, zero-add, suc, zero, ◌⊎◌, inl, inr, IsNone, ◌↔◌, Contains, true≢false, is_some}
use Rattle.std.specs.declared.cmp.Ordering.{Ordering}
use Rattle.std.specs.declared.cmp.Ordering.TheVariants.{Less, Equal, Greater}
use Rattle.std.specs.Cmp.{first_so, second_so}
use Rattle.std.specs.FinMap.{slice_cmp-IsAntisymmetric, nat_cmp-IsAntisymmetric}
use Rattle.std.specs.Cmp.Lexicographic.{slice_cmp, pointwise, bytes_decides}
use Rattle.std.specs.List.{AllByRecursion, position_from}
use Rattle.std.specs.List.Sorted.{IsStrictlySortedBy, IsNonDecreasingBy, IsPartitionPoint, IsBinarySearchResult, IsSearchInRange}
use Rattle.std.specs.Ordering.{nat_cmp, is_lt, is_eq, ordering_index, ordering_reverse}
use Rattle.std.proofs.lemmas.Cmp.{nat_list_cmp_total, same_from_slice_cmp}
use Rattle.std.proofs.lemmas.Bool.Decides.{nat_tests}
use Rattle.std.proofs.lemmas.List.{get_or-map, length-map}
use Rattle.std.proofs.lemmas.List.Sorted.{searchable_from_sorted}
use Rattle.std.proofs.lemmas.Map.Keys.{Less-from_sorted}
use Rattle.vt_table.specs.Names.{rises, rises_after, row_of}

abbrev by_bytes : List ℕ → List ℕ → Ordering
by_bytes = slice_cmp nat_cmp

Less_from_is_lt : (o : Ordering) → is_lt o ≡ true → o ≡ Less
Less_from_is_lt Less e = refl
Less_from_is_lt Equal e = absurd (let z : false ≡ true = e in cc)
Less_from_is_lt Greater e = absurd (let z : false ≡ true = e in cc)

-- what comes before a name comes before all that come after that name
all_after : (x y : List ℕ) (ys : List (List ℕ)) → by_bytes x y ≡ Less → AllByRecursion (λ z. by_bytes y z ≡ Less) ys → AllByRecursion (λ z. by_bytes x z ≡ Less) ys
all_after x y [] first rest = tt
all_after x y (z ∷ zs) first rest = (nat_list_cmp_total.trans x y z first rest.0, all_after x y zs first rest.1)

above_all : (x : List ℕ) (ys : List (List ℕ)) → rises_after x ys ≡ true → AllByRecursion (λ z. by_bytes x z ≡ Less) ys × IsStrictlySortedBy by_bytes ys
unfolding IsStrictlySortedBy
above_all x [] e = (tt, tt)
above_all x (y ∷ ys) e =
    let first : by_bytes x y ≡ Less = Less_from_is_lt _ (first_so _ _ e) in
    let rest : AllByRecursion (λ z. by_bytes y z ≡ Less) ys × IsStrictlySortedBy by_bytes ys = above_all y ys (second_so _ _ e) in
    ((first, all_after x y ys first rest.0), (rest.0, rest.1))

-- names that rise are strictly sorted
sorted_from_rises : (ys : List (List ℕ)) → rises ys ≡ true → IsStrictlySortedBy by_bytes ys
unfolding IsStrictlySortedBy
sorted_from_rises [] e = tt
sorted_from_rises (y ∷ ys) e = let rest = above_all y ys e in (rest.0, rest.1)

-- names are the same exactly where neither comes before the other
same_name : (xs ys : List ℕ) → is_eq (by_bytes xs ys) ≡ pointwise nat_eq xs ys
same_name xs ys = same_from_slice_cmp nat_cmp is_eq (pointwise nat_eq) refl (λ _ _. refl) (λ _ _. refl) (λ x y xs ys o h. grind (arith, nat_tests)) xs ys _ refl

-- the first place at which a test passes
position_at : {X : Type 0} (p : X → Bool) (ks : List X) (k i : ℕ) (d : X) → i < length ks → p (get_or ks i d) ≡ true → ((j : ℕ) → j < i → p (get_or ks j d) ≡ false) → position_from p k ks ≡ Some (k + i)
position_at p [] k i d lt here before = absurd (omega arith)
position_at p (x ∷ xs) k zero d lt here before =
    let e : p x ≡ true = here in
    let n : k + 0 ≡ k = omega arith in
    rw (e, n)
position_at p (x ∷ xs) k (suc i) d lt here before =
    let e : p x ≡ false = before 0 (omega arith) in
    let n : k + suc i ≡ (k + 1) + i = omega arith in
    let rest : position_from p (k + 1) xs ≡ Some ((k + 1) + i) = position_at p xs (k + 1) i d (omega arith) here (λ j j_lt. before (suc j) (omega arith)) in
    rw (e, n) rest

-- no place at which a test passes
position_none : {X : Type 0} (p : X → Bool) (ks : List X) (k : ℕ) (d : X) → ((j : ℕ) → j < length ks → p (get_or ks j d) ≡ false) → position_from p k ks ≡ None
position_none p [] k d never = refl
position_none p (x ∷ xs) k d never =
    let e : p x ≡ false = never 0 (omega arith) in
    rw e (position_none p xs (k + 1) d (λ j j_lt. never (suc j) (omega arith)))

-- some item of a list that has one
item_of : {X : Type 0} (xs : List X) → 0 < length xs → X
item_of [] h = absurd (omega arith)
item_of (x ∷ xs) h = x

lt_or_le : (j i : ℕ) → (j < i) ⊎ (i ≤ j)
lt_or_le j i = grind (arith, nat_tests)

-- the names of the items of a list, which rise, and a name to be found
module _ {X : Type 0} (name_of : X → List ℕ) (xs : List X) (rising : IsTrue (rises (map name_of xs))) (name : List ℕ) where
  sorted : IsStrictlySortedBy by_bytes (map name_of xs)
  sorted = sorted_from_rises (map name_of xs) rising

  -- an earlier item's name comes before a later one's
  earlier : (i j : ℕ) (d : X) → i < j → j < length xs → by_bytes (name_of (get_or xs i d)) (name_of (get_or xs j d)) ≡ Less
  earlier i j d lt in_range =
      let in_names : j < length (map name_of xs) = subst (λ n. j < n) (sym (length-map xs name_of)) in_range in
      let less : by_bytes (get_or (map name_of xs) i []) (get_or (map name_of xs) j []) ≡ Less = Less-from_sorted by_bytes (map name_of xs) i j [] sorted lt in_names in
      subst (λ a. by_bytes a (name_of (get_or xs j d)) ≡ Less) (get_or-map name_of xs i d [] (omega arith))
      (subst (λ b. by_bytes (get_or (map name_of xs) i []) b ≡ Less) (get_or-map name_of xs j d [] in_range) less)

  -- the comparisons with the name do not fall along the items
  comparisons_rise : IsNonDecreasingBy (λ x. ordering_index (by_bytes (name_of x) name)) xs
  comparisons_rise = searchable_from_sorted nat_list_cmp_total name_of xs name (λ k d low high.
      let less : by_bytes (name_of (get_or xs k d)) (name_of (get_or xs (k + 1) d)) ≡ Less = earlier k (k + 1) d (omega arith) high in
      let back : by_bytes (name_of (get_or xs (k + 1) d)) (name_of (get_or xs k d)) ≡ Greater = nat_list_cmp_total.antisymm (name_of (get_or xs (k + 1) d)) (name_of (get_or xs k d)) ∙ ap ordering_reverse less in
      ap is_lt back)

  -- whether the name of the item at a place is the name sought
  same_at : (i : ℕ) (d : X) (o : Ordering) → i < length xs → by_bytes (name_of (get_or xs i d)) name ≡ o → pointwise nat_eq (get_or (map name_of xs) i []) name ≡ is_eq o
  same_at i d o in_range e = rw (get_or-map name_of xs i d [] in_range) (sym (same_name (name_of (get_or xs i d)) name) ∙ ap is_eq e)

  -- a name that is found has the row at which it was found
  found : (i : ℕ) → i < length xs → HoldsAt (λ x. by_bytes (name_of x) name ≡ Equal) xs i → row_of (map name_of xs) name ≡ Some i
  found i in_range here =
      let d : X = item_of xs (omega arith) in
      let same : name_of (get_or xs i d) ≡ name = slice_cmp-IsAntisymmetric nat_cmp-IsAntisymmetric (name_of (get_or xs i d)) name (here d) in
      let in_names : i < length (map name_of xs) = subst (λ n. i < n) (sym (length-map xs name_of)) in_range in
      let passes : pointwise nat_eq (get_or (map name_of xs) i []) name ≡ true = same_at i d Equal in_range (here d) in
      position_at (λ other. pointwise nat_eq other name) (map name_of xs) 0 i [] in_names passes
      (λ j lt. same_at j d Less (omega arith) (subst (λ b. by_bytes (name_of (get_or xs j d)) b ≡ Less) same (earlier j i d lt in_range)))
      ∙ ap Some (zero-add i)

  -- a name that lies between two rows has none
  absent : (i : ℕ) → IsPartitionPoint (λ x. by_bytes (name_of x) name ≡ Less) (λ x. by_bytes (name_of x) name ≡ Greater) xs i → row_of (map name_of xs) name ≡ None
  absent i parted = position_none (λ other. pointwise nat_eq other name) (map name_of xs) 0 [] (λ j in_names.
      let in_range : j < length xs = subst (λ n. j < n) (length-map xs name_of) in_names in
      let d : X = item_of xs (omega arith) in
      elim (lt_or_le j i) [
        | inl lt ↦ same_at j d Less in_range (parted.0 j d (omega arith) lt)
        | inr le ↦ same_at j d Greater in_range (parted.1 j d le in_range)
      ])

  pub in_names : (i : ℕ) → i < length xs → i < length (map name_of xs)
  in_names i in_range = subst (λ n. i < n) (sym (length-map xs name_of)) in_range

  -- what a binary search answers is the row of the name
  pub searched : (r : Result ℕ ℕ) → IsSearchInRange r (length xs) → IsBinarySearchResult (λ x. by_bytes (name_of x) name) xs r → MatchResult r (λ i. Some i ≡ row_of (map name_of xs) name) (λ _. None ≡ row_of (map name_of xs) name)
  searched (Ok i) in_range here = sym (found i in_range here)
  searched (Err i) in_range parted = sym (absent i (parted comparisons_rise))

is_none : (o : Option ℕ) → IsNone o → o ≡ None
is_none None e = refl
is_none (Some i) e = absurd (true≢false e)

-- where no place is found the test passes at none
never_passed : {X : Type 0} (p : X → Bool) (ks : List X) (k : ℕ) (d : X) → position_from p k ks ≡ None → (j : ℕ) → j < length ks → p (get_or ks j d) ≡ false
never_passed p [] k d none j lt = absurd (omega arith)
never_passed p (x ∷ xs) k d none j lt = by (p x) refl (λ later. never_passed p xs (k + 1) d later) j lt
  where
    by : (b : Bool) → p x ≡ b → (position_from p (k + 1) xs ≡ None → (i : ℕ) → i < length xs → p (get_or xs i d) ≡ false) → (i : ℕ) → i < length (x ∷ xs) → p (get_or (x ∷ xs) i d) ≡ false
    by true e rest i i_lt = absurd (let z : Some k ≡ None = rw e at none in cc)
    by false e rest zero i_lt = e
    by false e rest (suc i) i_lt = rest (rw e at none) i (omega arith)

-- no row is found exactly where the names do not hold the name
pub none_exactly : (names : List (List ℕ)) (name : List ℕ) → IsNone (row_of names name) ↔ ¬ Contains names name
none_exactly names name = (
  λ none (j, lt, same).
      let none_found : row_of names name ≡ None = is_none (row_of names name) none in
      let e : pointwise nat_eq (get_or names j name) name ≡ false = never_passed (λ other. pointwise nat_eq other name) names 0 name none_found j lt in
      true≢false (sym ((bytes_decides (get_or names j name) name).1 same) ∙ e),
  λ missing. ap is_some (position_none (λ other. pointwise nat_eq other name) names 0 name (λ j lt. refuted (pointwise nat_eq (get_or names j name) name) j refl lt missing)),
)
  where
    refuted : (b : Bool) (j : ℕ) → pointwise nat_eq (get_or names j name) name ≡ b → j < length names → ¬ Contains names name → pointwise nat_eq (get_or names j name) name ≡ false
    refuted true j e lt missing = absurd (missing (j, lt, (bytes_decides (get_or names j name) name).0 e))
    refuted false j e lt missing = e

-- the same of an answer that is the row
pub none_at : (names : List (List ℕ)) (name : List ℕ) (answer : Option ℕ) → answer ≡ row_of names name → IsNone answer ↔ ¬ Contains names name
none_at names name answer e = subst (λ (o : Option ℕ). IsNone o ↔ ¬ Contains names name) (sym e) (none_exactly names name)

-- a test that is true exactly where a table lacks the name, said of the definition's names
pub none_of_table : (answer : Option ℕ) {table names : List (List ℕ)} → table ≡ names → (name : List ℕ) → (IsNone answer ↔ ¬ Contains table name) → IsNone answer ↔ ¬ Contains names name
none_of_table answer same name h = subst (λ (t : List (List ℕ)). IsNone answer ↔ ¬ Contains t name) same h
