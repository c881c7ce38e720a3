-- Sums over the views: what a change at one place does to them, and what they say of two places.
use Rattle.std.proofs.Common.{◌≡◌, ℕ, zero, suc, ◌+◌, ◌<◌, ◌≤◌, ◌≢◌, List, [], ◌∷◌, ◌++◌, length, set, sym, refl, ap, arith}
use mathlib.Core.Option.{some, some-injective, some-ne-none}
use lib.ListN.{get_elem?}
use Rattle.vt_lock.specs.Numbers.{occurrences}
use Rattle.vt_lock.specs.TurnRule.{total}

module _ {A : Type 0} where
  pub total_set : (f : A → ℕ) (l : List A) (i : ℕ) (v a : A) → get_elem? l i ≡ some v → total f (set l i a) + f v ≡ total f l + f a
  total_set f [] i v a e = absurd (some-ne-none v (sym e))
  total_set f (x ∷ xs) zero v a e = let h : f x ≡ f v = ap f (some-injective x v e) in omega arith
  total_set f (x ∷ xs) (suc i) v a e = let h = total_set f xs i v a e in omega arith

  pub total_snoc : (f : A → ℕ) (l : List A) (a : A) → total f (l ++ a ∷ []) ≡ total f l + f a
  total_snoc f [] a = omega arith
  total_snoc f (x ∷ xs) a = let h = total_snoc f xs a in omega arith

  pub total_one : (f : A → ℕ) (l : List A) (i : ℕ) (v : A) → get_elem? l i ≡ some v → f v ≤ total f l
  total_one f [] i v e = absurd (some-ne-none v (sym e))
  total_one f (x ∷ xs) zero v e = let h : f x ≡ f v = ap f (some-injective x v e) in omega arith
  total_one f (x ∷ xs) (suc i) v e = let h = total_one f xs i v e in omega arith

  pub total_two : (f : A → ℕ) (l : List A) (i j : ℕ) (v w : A) → i ≢ j → get_elem? l i ≡ some v → get_elem? l j ≡ some w → f v + f w ≤ total f l
  total_two f [] i j v w ne e d = absurd (some-ne-none v (sym e))
  total_two f (x ∷ xs) zero zero v w ne e d = absurd (ne refl)
  total_two f (x ∷ xs) zero (suc j) v w ne e d = let h : f x ≡ f v = ap f (some-injective x v e) in let k = total_one f xs j w d in omega arith
  total_two f (x ∷ xs) (suc i) zero v w ne e d = let h : f x ≡ f w = ap f (some-injective x w d) in let k = total_one f xs i v e in omega arith
  total_two f (x ∷ xs) (suc i) (suc j) v w ne e d = let h = total_two f xs i j v w (λ p. ne (ap suc p)) e d in omega arith

  pub place_below : (l : List A) (i : ℕ) (v : A) → get_elem? l i ≡ some v → i < length l
  place_below [] i v e = absurd (some-ne-none v (sym e))
  place_below (x ∷ xs) zero v e = omega arith
  place_below (x ∷ xs) (suc i) v e = let h = place_below xs i v e in omega arith

  pub total_at_most : (f g : A → ℕ) (l : List A) → ((i : ℕ) (v : A) → get_elem? l i ≡ some v → f v ≤ g v) → total f l ≤ total g l
  total_at_most f g [] h = omega arith
  total_at_most f g (x ∷ xs) h = let a = h 0 x refl in let b = total_at_most f g xs (λ i v e. h (suc i) v e) in omega arith

pub occurrences_append : (n : ℕ) (xs ys : List ℕ) → occurrences n (xs ++ ys) ≡ occurrences n xs + occurrences n ys
occurrences_append n [] ys = omega arith
occurrences_append n (x ∷ xs) ys = let h = occurrences_append n xs ys in omega arith
