-- Lists of bytes, and texts of values, of which it can be told what they are.
use Rattle.std.specs.Prelude.{◌≡◌, ◌⊎◌, ℕ, ◌+◌, ◌<◌, ◌≤◌, List, [], ◌∷◌, ◌++◌, length}
use Rattle.std.specs.List.{All, flat_map}
use Rattle.std.proofs.Common.{zero, suc, inl, inr, refl, sym, ap, subst, arith, ◌∙◌, length-append}
use Rattle.std.proofs.lemmas.List.{append-nil}
use Rattle.std.proofs.lemmas.List.Elements.{All-nil, All-cons, All-head, All-tail}
use Rattle.vt_frac.proofs.Decision.{Decision, holds, fails, both, one_of, alike, is_same, is_at_most, Parted, parted}

pub is_between : (m b n : ℕ) → Decision ((m ≤ b) × (b ≤ n))
is_between m b n = both (is_at_most m b) (is_at_most b n)

heads : {a b : ℕ} {cs bs : List ℕ} → a ∷ cs ≡ b ∷ bs → a ≡ b
heads e = cc

tails : {a b : ℕ} {cs bs : List ℕ} → a ∷ cs ≡ b ∷ bs → cs ≡ bs
tails e = cc

no_head : {b : ℕ} {bs : List ℕ} → [] ≡ b ∷ bs → ⊥
no_head e = cc

no_tail : {b : ℕ} {bs : List ℕ} → b ∷ bs ≡ [] → ⊥
no_tail e = cc

joined : {a b : ℕ} {cs bs : List ℕ} → a ≡ b → cs ≡ bs → a ∷ cs ≡ b ∷ bs
joined e f = cc

pub are_same : (cs bs : List ℕ) → Decision (cs ≡ bs)
are_same [] [] = holds refl
are_same [] (b ∷ bs) = fails no_head
are_same (a ∷ cs) [] = fails no_tail
are_same (a ∷ cs) (b ∷ bs) = alike (λ p. joined p.0 p.1) (λ e. (heads e, tails e)) (both (is_same a b) (are_same cs bs))

pub are_all : {X : Type 0} (P : X → Type 0) → ((x : X) → Decision (P x)) → (xs : List X) → Decision (All P xs)
are_all P d [] = holds (All-nil P)
are_all P d (x ∷ xs) =
    alike (λ p. All-cons P x xs p.0 p.1) (λ h. (All-head P x xs h, All-tail P x xs h)) (both (d x) (are_all P d xs))

is_none : 0 < length {A = ℕ} [] → ⊥
is_none h = omega arith

is_some : (b : ℕ) (bs : List ℕ) → 0 < length (b ∷ bs)
is_some b bs = omega arith

pub is_filled : (bytes : List ℕ) → Decision (0 < length bytes)
is_filled [] = fails is_none
is_filled (b ∷ bytes) = holds (is_some b bytes)

-- this byte, and bytes of which this holds
pub record Begun (first : ℕ) (R : List ℕ → Type 0) (bytes : List ℕ) : Type 0 where
  pub rest : List ℕ
  pub whole : bytes ≡ first ∷ rest
  pub fact : R rest

pub is_begun : (first : ℕ) (R : List ℕ → Type 0) → ((bytes : List ℕ) → Decision (R bytes)) → (bytes : List ℕ) → Decision (Begun first R bytes)
is_begun first R d [] = fails (λ h. no_head h.whole)
is_begun first R d (b ∷ bs) =
    alike
    (λ p. record { rest = bs; whole = ap (λ z. z ∷ bs) p.0; fact = p.1 })
    (λ h. (heads h.whole, subst R (sym (tails h.whole)) h.fact))
    (both (is_same b first) (d bs))

-- between these two bytes, bytes of which this holds
pub record Enclosed (first last : ℕ) (R : List ℕ → Type 0) (bytes : List ℕ) : Type 0 where
  pub inner : List ℕ
  pub whole : bytes ≡ first ∷ (inner ++ last ∷ [])
  pub fact : R inner

pub is_enclosed : (first last : ℕ) (R : List ℕ → Type 0) → ((bytes : List ℕ) → Decision (R bytes)) → (bytes : List ℕ) → Decision (Enclosed first last R bytes)
is_enclosed first last R d bytes =
    alike
    (λ h. record {
      inner = h.fact.prefix;
      whole = h.whole ∙ ap (λ z. first ∷ z) (h.fact.whole ∙ ap (λ z. h.fact.prefix ++ z) h.fact.fact.1);
      fact = h.fact.fact.0;
    })
    (λ h. record { rest = h.inner ++ last ∷ []; whole = h.whole; fact = record { prefix = h.inner; rest = last ∷ []; whole = refl; fact = (h.fact, refl) } })
    (is_begun first (λ bytes. Parted bytes (λ x y. R x × (y ≡ last ∷ []))) (λ bytes. parted bytes (λ x y. R x × (y ≡ last ∷ [])) (λ x y e. both (d x) (are_same y (last ∷ [])))) bytes)

-- Texts

-- the bytes are the text of a good value
pub record IsTextOf {V : Type 0} (Good : V → Type 0) (text : V → List ℕ) (bytes : List ℕ) : Type 0 where
  pub value : V
  pub good : Good value
  pub written : bytes ≡ text value

-- the bytes are the texts of good values, one or more and at most so many, one after another
pub record AreTextsOf {V : Type 0} (Good : V → Type 0) (text : V → List ℕ) (most : ℕ) (bytes : List ℕ) : Type 0 where
  pub values : List V
  pub some : 0 < length values
  pub few : length values ≤ most
  pub good : All Good values
  pub written : bytes ≡ flat_map text values

module _ {V : Type 0} (Good : V → Type 0) (text : V → List ℕ) where
  none_of_none : {bytes : List ℕ} → AreTextsOf Good text 0 bytes → ⊥
  none_of_none h = let a : 0 < length h.values = h.some in let b : length h.values ≤ 0 = h.few in omega arith

  single : {bytes : List ℕ} (n : ℕ) → IsTextOf Good text bytes → AreTextsOf Good text (suc n) bytes
  single n h = record {
    values = h.value ∷ [];
    some = omega arith;
    few = omega arith;
    good = All-cons Good h.value [] h.good (All-nil Good);
    written = h.written ∙ sym (append-nil (text h.value));
  }

  more : {bytes : List ℕ} (n : ℕ) → Parted bytes (λ x y. IsTextOf Good text x × AreTextsOf Good text n y) → AreTextsOf Good text (suc n) bytes
  more n p =
      let few : length p.fact.1.values ≤ n = p.fact.1.few in
      record {
        values = p.fact.0.value ∷ p.fact.1.values;
        some = omega arith;
        few = omega arith;
        good = All-cons Good p.fact.0.value p.fact.1.values p.fact.0.good p.fact.1.good;
        written = p.whole ∙ (ap (λ z. z ++ p.rest) p.fact.0.written ∙ ap (λ z. text p.fact.0.value ++ z) p.fact.1.written);
      }

  first_of : (n : ℕ) (bytes : List ℕ) (values : List V) → 0 < length values → length values ≤ suc n → All Good values → bytes ≡ flat_map text values
      → IsTextOf Good text bytes ⊎ Parted bytes (λ x y. IsTextOf Good text x × AreTextsOf Good text n y)
  first_of n bytes [] some few good e = absurd (omega arith)
  first_of n bytes (v ∷ []) some few good e = inl (record { value = v; good = All-head Good v [] good; written = e ∙ append-nil (text v) })
  first_of n bytes (v ∷ w ∷ vs) some few good e = inr (record {
    prefix = text v;
    rest = flat_map text (w ∷ vs);
    whole = e;
    fact = (
      record { value = v; good = All-head Good v (w ∷ vs) good; written = refl },
      record { values = w ∷ vs; some = omega arith; few = omega arith; good = All-tail Good v (w ∷ vs) good; written = refl },
    );
  })

  pub are_texts : ((bytes : List ℕ) → Decision (IsTextOf Good text bytes)) → (most : ℕ) (bytes : List ℕ) → Decision (AreTextsOf Good text most bytes)
  are_texts d zero bytes = fails none_of_none
  are_texts d (suc n) bytes =
      alike
      (λ s. elim s [ inl h ↦ single n h | inr p ↦ more n p ])
      (λ h. first_of n bytes h.values h.some h.few h.good h.written)
      (one_of (d bytes) (parted bytes (λ x y. IsTextOf Good text x × AreTextsOf Good text n y) (λ x y e. both (d x) (are_texts d n y))))

-- values whose texts are not empty are no more than the bytes of their texts
pub length-values : {V : Type 0} (text : V → List ℕ) → ((v : V) → 0 < length (text v)) → (values : List V) → length values ≤ length (flat_map text values)
length-values text filled [] = omega arith
length-values text filled (v ∷ vs) =
    let n : length (text v ++ flat_map text vs) ≡ length (text v) + length (flat_map text vs) = length-append (text v) (flat_map text vs) in
    omega (arith, filled v, length-values text filled vs)
