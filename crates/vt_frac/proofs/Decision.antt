-- Facts of which it can be told whether they hold, and lists that are told by their parts.
use Rattle.std.proofs.Common.{◌≡◌, ◌⊎◌, ℕ, ◌≤◌, Bool, true, false, List, [], ◌∷◌, ◌++◌, inl, inr, refl, sym, ap, subst, arith, true≢false}
use Rattle.std.specs.Prelude.{◌==◌, nat_le}
use Rattle.std.specs.Bool.{Decides}
use Rattle.std.proofs.lemmas.Bool.Decides.{Decides-eqb, nat_tests}

-- the fact holds, or it doesn't
pub data Decision (X : Type 0) : Type 0 where
  holds : X → Decision X
  fails : (X → ⊥) → Decision X

pub both : {X Y : Type 0} → Decision X → Decision Y → Decision (X × Y)
both (holds x) (holds y) = holds (x, y)
both (holds x) (fails n) = fails (λ p. n p.1)
both (fails n) d = fails (λ p. n p.0)

pub three : {X Y Z : Type 0} → Decision X → Decision Y → Decision Z → Decision (X × Y × Z)
three (holds x) (holds y) (holds z) = holds (x, y, z)
three (holds x) (holds y) (fails n) = fails (λ p. n p.2)
three (holds x) (fails n) d = fails (λ p. n p.1)
three (fails n) d e = fails (λ p. n p.0)

pub one_of : {X Y : Type 0} → Decision X → Decision Y → Decision (X ⊎ Y)
one_of (holds x) d = holds (inl x)
one_of (fails n) (holds y) = holds (inr y)
one_of (fails n) (fails m) = fails (λ s. elim s [ inl x ↦ n x | inr y ↦ m y ])

-- a fact that holds exactly where a decided one does
pub alike : {X Y : Type 0} → (X → Y) → (Y → X) → Decision X → Decision Y
alike to from (holds x) = holds (to x)
alike to from (fails n) = fails (λ y. n (from y))

pub implied : {X Y : Type 0} → Decision X → Decision Y → Decision (X → Y)
implied (holds x) (holds y) = holds (λ _. y)
implied (holds x) (fails n) = fails (λ f. n (f x))
implied (fails n) d = holds (λ x. absurd (n x))

pub denied : {X : Type 0} → Decision X → Decision (X → ⊥)
denied (holds x) = fails (λ n. n x)
denied (fails n) = holds n

-- a test that tells
pub tested : {X : Type 0} (b : Bool) → (b ≡ true → X) → (X → b ≡ true) → Decision X
tested true to from = holds (to refl)
tested false to from = fails (λ x. true≢false (sym (from x)))

pub is_true : (b : Bool) → Decision (b ≡ true)
is_true b = tested b (λ e. e) (λ e. e)

pub is_same : (m n : ℕ) → Decision (m ≡ n)
is_same m n = let d : Decides (m == n) (m ≡ n) = Decides-eqb m n in tested (m == n) d.0 d.1

tells_le : (m n : ℕ) → nat_le m n ≡ true → m ≤ n
tells_le m n e = grind (arith, nat_tests)

told_le : (m n : ℕ) → m ≤ n → nat_le m n ≡ true
told_le m n h = grind (arith, nat_tests)

pub is_at_most : (m n : ℕ) → Decision (m ≤ n)
is_at_most m n = tested (nat_le m n) (tells_le m n) (told_le m n)

pub is_nil : {T : Type 0} (xs : List T) → Decision (xs ≡ [])
is_nil [] = holds refl
is_nil (x ∷ xs) = fails (λ e. cc)

-- Lists in two parts

-- the list in two parts of which this holds
pub record Parted {T : Type 0} (list : List T) (R : List T → List T → Type 0) : Type 0 where
  pub prefix : List T
  pub rest : List T
  pub whole : list ≡ prefix ++ rest
  pub fact : R prefix rest

first_is : {T : Type 0} (x c : T) (xs cs : List T) → x ∷ xs ≡ c ∷ cs → c ≡ x
first_is x c xs cs e = cc

others_are : {T : Type 0} (x c : T) (xs cs : List T) → x ∷ xs ≡ c ∷ cs → xs ≡ cs
others_are x c xs cs e = cc

no_first : {T : Type 0} (c : T) (cs : List T) → [] ≡ c ∷ cs → ⊥
no_first c cs e = cc

nil_parts : {T : Type 0} (R : List T → List T → Type 0) (p r : List T) → [] ≡ p ++ r → R p r → R [] []
nil_parts R [] r e h = subst (λ z. R [] z) (sym e) h
nil_parts R (c ∷ p) r e h = absurd (no_first c (p ++ r) e)

parted_nil : {T : Type 0} (R : List T → List T → Type 0) → Decision (R [] []) → Decision (Parted [] R)
parted_nil R (holds r) = holds (record { prefix = []; rest = []; whole = refl; fact = r })
parted_nil R (fails n) = fails (λ p. n (nil_parts R p.prefix p.rest p.whole p.fact))

unparted : {T : Type 0} (x : T) (xs : List T) (R : List T → List T → Type 0) → (R [] (x ∷ xs) → ⊥) → (Parted xs (λ p r. R (x ∷ p) r) → ⊥)
    → (p r : List T) → x ∷ xs ≡ p ++ r → R p r → ⊥
unparted x xs R n m [] r e h = n (subst (λ z. R [] z) (sym e) h)
unparted x xs R n m (c ∷ p) r e h = m (record {
  prefix = p;
  rest = r;
  whole = others_are x c xs (p ++ r) e;
  fact = subst (λ z. R (z ∷ p) r) (first_is x c xs (p ++ r) e) h;
})

parted_cons : {T : Type 0} (x : T) (xs : List T) (R : List T → List T → Type 0) → Decision (R [] (x ∷ xs)) → Decision (Parted xs (λ p r. R (x ∷ p) r))
    → Decision (Parted (x ∷ xs) R)
parted_cons x xs R (holds r) d = holds (record { prefix = []; rest = x ∷ xs; whole = refl; fact = r })
parted_cons x xs R (fails n) (holds p) = holds (record { prefix = x ∷ p.prefix; rest = p.rest; whole = ap (λ z. x ∷ z) p.whole; fact = p.fact })
parted_cons x xs R (fails n) (fails m) = fails (λ p. unparted x xs R n m p.prefix p.rest p.whole p.fact)

-- there are finitely many ways to part a list
pub parted : {T : Type 0} (xs : List T) (R : List T → List T → Type 0) → ((p r : List T) → xs ≡ p ++ r → Decision (R p r)) → Decision (Parted xs R)
parted [] R d = parted_nil R (d [] [] refl)
parted (x ∷ xs) R d = parted_cons x xs R (d [] (x ∷ xs) refl) (parted xs (λ p r. R (x ∷ p) r) (λ p r e. d (x ∷ p) r (ap (λ z. x ∷ z) e)))
