-- Places in lists: which of them were picked, and which lists were made for them.
use Rattle.std.proofs.Common.{◌≡◌, ◌<◌, ◌≤◌, ◌⊎◌, ℕ, zero, suc, ◌+◌, List, [], ◌∷◌, ◌++◌, length, get_or, Option, Some, None, inl, inr, refl, true≢false, sym, ap, ◌∙◌, subst, arith}
use Rattle.std.specs.Prelude.{Bool, true, false, cond, nat_lt, slice_get, slice_index_or, IsTrue, ◌↔◌}
use Rattle.std.proofs.lemmas.Bool.{ltb-true, ltb-false}
use Rattle.std.specs.List.{Contains}
use Rattle.std.proofs.lemmas.Option.{get_or_from_slice_get, slice_get-get_or, slice_get_within}
use Rattle.std.proofs.lemmas.List.{get_or_push}
use Rattle.std.proofs.Math.ListN.{get_or-append}
use Rattle.std.proofs.lemmas.List.Elements.{Contains-append_left, Contains-push, Contains-push_cases}
use Rattle.vt_reach.specs.private.Bodies.{list_at}

pub none_some : {A : Type 0} {x : A} → ◌≡◌ {A = Option A} None (Some x) → ⊥
none_some h = cc

pub one_some : {A : Type 0} {x y : A} → ◌≡◌ {A = Option A} (Some x) (Some y) → x ≡ y
one_some h = cc

pub at_contains : {X : Type 0} (xs : List X) (i : ℕ) (x : X) → slice_get xs i ≡ Some x → Contains xs x
at_contains xs i x h = (i, slice_get_within xs i x h, get_or_from_slice_get xs i x x h)

pub contains_at : {X : Type 0} (xs : List X) (x : X) → Contains xs x → (i : ℕ) × (slice_get xs i ≡ Some x)
contains_at xs x (k, lt, is) = (k, slice_get-get_or xs k x lt ∙ ap Some is)

pub at_append_left : {X : Type 0} (xs ys : List X) (i : ℕ) (x : X) → slice_get xs i ≡ Some x → slice_get (xs ++ ys) i ≡ Some x
at_append_left [] ys i x h = absurd (none_some h)
at_append_left (y ∷ xs) ys zero x h = h
at_append_left (y ∷ xs) ys (suc i) x h = at_append_left xs ys i x h

pub at_append_right : {X : Type 0} (xs ys : List X) (i : ℕ) (x : X) → slice_get ys i ≡ Some x → slice_get (xs ++ ys) (length xs + i) ≡ Some x
at_append_right [] ys i x h = let z : 0 + i ≡ i = omega arith in ap (slice_get ys) z ∙ h
at_append_right (y ∷ xs) ys i x h = let z : suc (length xs) + i ≡ suc (length xs + i) = omega arith in ap (slice_get (y ∷ (xs ++ ys))) z ∙ at_append_right xs ys i x h

pub at_append_cases : {X : Type 0} (xs ys : List X) (k : ℕ) (x : X) → slice_get (xs ++ ys) k ≡ Some x → (slice_get xs k ≡ Some x) ⊎ ((i : ℕ) × (k ≡ length xs + i) × (slice_get ys i ≡ Some x))
at_append_cases [] ys k x h = inr (k, (let z : k ≡ 0 + k = omega arith in z), h)
at_append_cases (y ∷ xs) ys zero x h = inl h
at_append_cases (y ∷ xs) ys (suc k) x h = elim (at_append_cases xs ys k x h) [ inl e ↦ inl e | inr e ↦ inr (e.0, (let z = e.1 in let w : suc k ≡ suc (length xs) + e.0 = omega (arith, z) in w), e.2) ]

pub at_append_back : {X : Type 0} (xs ys : List X) (i : ℕ) (x : X) → i < length xs → slice_get (xs ++ ys) i ≡ Some x → slice_get xs i ≡ Some x
at_append_back xs ys i x lt h = elim (at_append_cases xs ys i x h) [ inl e ↦ e | inr e ↦ absurd (let is = e.1 in omega (arith, lt, is)) ]

-- the element that a loop stands at
pub at_item : {X : Type 0} (xs : List X) (i : ℕ) (x : X) → i < length xs → x ≡ get_or xs i x → slice_get xs i ≡ Some x
at_item xs i x lt is = slice_get-get_or xs i x lt ∙ ap Some (sym is)

pub below : (n k : ℕ) → k < n + 1 → (k < n) ⊎ (k ≡ n)
below n k lt = go (nat_lt k n) refl
  where
    go : (b : Bool) → nat_lt k n ≡ b → (k < n) ⊎ (k ≡ n)
    go true e = inl (ltb-true k n e)
    go false e = inr (let le = ltb-false k n e in omega (arith, lt, le))

-- of the first n places, exactly those were picked of which P holds
pub record Picks (P : ℕ → Type 0) (n : ℕ) (places : List ℕ) : Type 0 where
  pub each : (k : ℕ) → Contains places k → (k < n) × P k
  pub all : (k : ℕ) → k < n → P k → Contains places k

pub picks_none : (P : ℕ → Type 0) → Picks P 0 []
picks_none P = record {
  each = λ k h. absurd (let lt = h.1 in omega (arith, lt));
  all = λ k lt p. absurd (omega (arith, lt));
}

pub picks_yes : (P : ℕ → Type 0) (n : ℕ) (places : List ℕ) → Picks P n places → P n → Picks P (n + 1) (places ++ n ∷ [])
picks_yes P n places h p = record {
  each =
      λ k c.
      elim (Contains-push_cases places n k c) [
        | inl old ↦ (let e = h.each k old in let lt = e.0 in (omega (arith, lt), e.1))
        | inr is ↦ ((omega (arith, is)), subst P is p)
      ];
  all =
      λ k lt q.
      elim (below n k lt) [
        | inl old ↦ Contains-append_left places (n ∷ []) k (h.all k old q)
        | inr is ↦ subst (λ (x : ℕ). Contains (places ++ n ∷ []) x) (sym is) (Contains-push places n)
      ];
}

pub picks_no : (P : ℕ → Type 0) (n : ℕ) (places : List ℕ) → Picks P n places → (P n → ⊥) → Picks P (n + 1) places
picks_no P n places h none = record {
  each = λ k c. let e = h.each k c in let lt = e.0 in (omega (arith, lt), e.1);
  all = λ k lt q. elim (below n k lt) [ inl old ↦ h.all k old q | inr is ↦ absurd (none (subst P is q)) ];
}

-- whether the next place was picked
pub picks_next : (P : ℕ → Type 0) (n : ℕ) (places : List ℕ) (picked : Bool) → Picks P n places → (IsTrue picked ↔ P n) → Picks P (n + 1) (cond picked (places ++ n ∷ []) places)
picks_next P n places true h is = picks_yes P n places h (is.0 refl)
picks_next P n places false h is = picks_no P n places h (λ p. let z : false ≡ true = is.1 p in let w : true ≡ false = sym z in absurd (true≢false w))

-- of the first n elements P holds of none
abbrev pub NoneOf : {X : Type 0} → (X → Type 0) → List X → ℕ → Type 0
NoneOf P xs n = (k : ℕ) (x : _) → k < n → slice_get xs k ≡ Some x → P x → ⊥

pub none_next : {X : Type 0} (P : X → Type 0) (xs : List X) (n : ℕ) (x : X) → NoneOf P xs n → slice_get xs n ≡ Some x → (P x → ⊥) → NoneOf P xs (n + 1)
none_next P xs n x h there none k y lt is p =
    elim (below n k lt) [ inl old ↦ h k y old is p | inr e ↦ none (subst P (one_some (sym is ∙ ap (slice_get xs) e ∙ there)) p) ]

pub none_last : {X : Type 0} (P : X → Type 0) (xs : List X) (n : ℕ) → NoneOf P xs n → length xs ≤ n → (x : X) → Contains xs x → P x → ⊥
none_last P xs n h le x c p =
    let i = contains_at xs x c in
    h i.0 x (let lt = slice_get_within xs i.0 x i.1 in omega (arith, lt, le)) i.1 p

-- a list was made for each of the first n places
pub record Fills (P : ℕ → List ℕ → Type 0) (n : ℕ) (lists : List (List ℕ)) : Type 0 where
  pub count : length lists ≡ n
  pub each : (at : ℕ) → at < n → P at (list_at lists at)

pub fills_none : (P : ℕ → List ℕ → Type 0) → Fills P 0 []
fills_none P = record { count = refl; each = λ at lt. absurd (omega (arith, lt)) }

pub fills_next : (P : ℕ → List ℕ → Type 0) (n : ℕ) (lists : List (List ℕ)) (list : List ℕ) → Fills P n lists → P n list → Fills P (n + 1) (lists ++ list ∷ [])
fills_next P n lists list h p = record {
  count = longer lists ∙ ap (λ k. k + 1) h.count;
  each =
      λ at lt.
      elim (below n at lt) [
        | inl old ↦ subst (P at) (sym (get_or-append lists (list ∷ []) [] at (let c = h.count in omega (arith, old, c)))) (h.each at old)
        | inr is ↦ subst (λ (k : ℕ). P k (list_at (lists ++ list ∷ []) k)) (sym is) (subst (P n) (sym (get_or_push lists list [] n h.count)) p)
      ];
}
  where
    longer : (xs : List (List ℕ)) → length (xs ++ list ∷ []) ≡ length xs + 1
    longer [] = refl
    longer (x ∷ xs) = let e = longer xs in let z : suc (length (xs ++ list ∷ [])) ≡ suc (length xs) + 1 = omega (arith, e) in z
