-- Forms that are decided: of each list it can be told whether it begins the form and whether it is read as some value. Each
-- way to build a form keeps that. A fact is searched for among the values of a form, so that a form which depends on the
-- value of the one before it is decided for each such value. All of this is the project's own.
use Rattle.std.specs.Prelude.{◌≡◌, List, [], ◌∷◌, ◌++◌, None}
use Rattle.std.proofs.Common.{inl, inr, refl, sym, subst}
use Rattle.vt_frac.proofs.Decision.{Decision, fails, both, one_of, alike, is_nil, Parted, parted}
use Rattle.vt_grammar.specs.Form.{Form, Split, IsOne, AreMany, AreFrom, state_after, one, empty, nothing, next, either, mapped, optional, only, with_its, many, many_from}

-- Decided forms

-- a value of which both hold
pub record Hit {V : Type 0} (R Q : V → Type 0) : Type 0 where
  pub value : V
  pub found : R value
  pub passes : Q value

-- Of each list it can be told whether it begins the form, and whether it is read as a value of which a fact holds that can
-- itself be told of each value.
pub record Decided {T V : Type 0} (a : Form T V) : Type 1 where
  pub search : (tokens : List T) (Q : V → Type 0) → ((v : V) → Decision (Q v)) → Decision (Hit (a.reads tokens) Q)
  pub begun : (tokens : List T) → Decision (a.begins tokens)

-- no list without tokens is read as the form
pub record Filled {T V : Type 0} (a : Form T V) : Type 0 where
  pub filled : (v : V) → a.reads [] v → ⊥

one_found : {T : Type 0} (P : T → Type 0) → ((t : T) → Decision (P t)) → (tokens : List T) (Q : T → Type 0) → ((t : T) → Decision (Q t))
    → Decision (Hit ((one P).reads tokens) Q)
one_found P p [] Q d = fails (λ h. h.found)
one_found P p (t ∷ []) Q d = alike (λ g. record { value = t; found = (g.0, refl); passes = g.1 }) (λ h. (h.found.0, subst Q h.found.1 h.passes)) (both (p t) (d t))
one_found P p (t ∷ u ∷ ts) Q d = fails (λ h. h.found)

is_one : {T : Type 0} (P : T → Type 0) → ((t : T) → Decision (P t)) → (tokens : List T) → Decision (IsOne P tokens)
is_one P p [] = fails (λ h. h)
is_one P p (t ∷ []) = p t
is_one P p (t ∷ u ∷ ts) = fails (λ h. h)

pub one_decided : {T : Type 0} (P : T → Type 0) → ((t : T) → Decision (P t)) → Decided (one P)
one_decided P p = record { search = one_found P p; begun = λ tokens. one_of (is_nil tokens) (is_one P p tokens) }

pub one_filled : {T : Type 0} (P : T → Type 0) → Filled (one P)
one_filled P = record { filled = λ v h. h }

pub empty_decided : {T V : Type 0} (v : V) → Decided {T = T} (empty v)
empty_decided v = record {
  search = λ tokens Q d. alike (λ g. record { value = v; found = (g.0, refl); passes = g.1 }) (λ h. (h.found.0, subst Q h.found.1 h.passes)) (both (is_nil tokens) (d v));
  begun = is_nil;
}

pub nothing_decided : {T V : Type 0} → Decided {T = T} {V = V} nothing
nothing_decided = record { search = λ tokens Q d. fails (λ h. h.found); begun = is_nil }

pub nothing_filled : {T V : Type 0} → Filled {T = T} {V = V} nothing
nothing_filled = record { filled = λ v h. h }

pub next_decided : {T A B : Type 0} {a : Form T A} {k : A → Form T B} → Decided a → ((v : A) → Decided (k v)) → Decided (next a k)
next_decided {a = a} {k = k} da dk = record {
  search = λ tokens Q d. alike
      (λ p. record {
        value = (p.fact.value, p.fact.passes.value);
        found = record { prefix = p.prefix; rest = p.rest; whole = p.whole; first = p.fact.found; second = p.fact.passes.found };
        passes = p.fact.passes.passes;
      })
      (λ h. record {
        prefix = h.found.prefix;
        rest = h.found.rest;
        whole = h.found.whole;
        fact = record { value = h.value.0; found = h.found.first; passes = record { value = h.value.1; found = h.found.second; passes = h.passes } };
      })
      (parted tokens (λ x y. Hit (a.reads x) (λ v. Hit ((k v).reads y) (λ w. Q (v, w))))
      (λ x y e. da.search x (λ v. Hit ((k v).reads y) (λ w. Q (v, w))) (λ v. (dk v).search y (λ w. Q (v, w)) (λ w. d (v, w)))));
  begun = λ tokens. one_of (da.begun tokens) (alike
      (λ p. (p.fact.value, record { prefix = p.prefix; rest = p.rest; whole = p.whole; first = p.fact.found; second = p.fact.passes }))
      (λ h. record { prefix = h.1.prefix; rest = h.1.rest; whole = h.1.whole; fact = record { value = h.0; found = h.1.first; passes = h.1.second } })
      (parted tokens (λ x y. Hit (a.reads x) (λ v. (k v).begins y)) (λ x y e. da.search x (λ v. (k v).begins y) (λ v. (dk v).begun y))));
}

others_are : {T : Type 0} (t c : T) (ts xs : List T) → t ∷ ts ≡ c ∷ xs → ts ≡ xs
others_are t c ts xs e = cc

no_token : {T : Type 0} (c : T) (xs : List T) → [] ≡ c ∷ xs → ⊥
no_token c xs e = cc

-- the prefix of a list without tokens has no tokens
unfilled : {T V : Type 0} {a : Form T V} → Filled a → (f r : List T) (v : V) → [] ≡ f ++ r → a.reads f v → ⊥
unfilled p [] r v e h = p.filled v h
unfilled p (c ∷ f) r v e h = no_token c (f ++ r) e

pub prefix_filled : {T A : Type 0} {a : Form T A} {Q : List T → Type 0} → Filled a → (v : A) → Split [] (λ x. a.reads x v) Q → ⊥
prefix_filled p v s = unfilled p s.prefix s.rest v s.whole s.first

pub either_decided : {T V : Type 0} {a b : Form T V} → Decided a → Decided b → Decided (either a b)
either_decided da db = record {
  search = λ tokens Q d. alike
      (λ s. elim s [
        | inl h ↦ record { value = h.value; found = inl h.found; passes = h.passes }
        | inr h ↦ record { value = h.value; found = inr h.found; passes = h.passes }
      ])
      (λ h. elim h.found [ inl g ↦ inl (record { value = h.value; found = g; passes = h.passes }) | inr g ↦ inr (record { value = h.value; found = g; passes = h.passes }) ])
      (one_of (da.search tokens Q d) (db.search tokens Q d));
  begun = λ tokens. one_of (da.begun tokens) (db.begun tokens);
}

pub either_filled : {T V : Type 0} {a b : Form T V} → Filled a → Filled b → Filled (either a b)
either_filled p q = record { filled = λ v h. elim h [ inl g ↦ p.filled v g | inr g ↦ q.filled v g ] }

pub mapped_decided : {T A B : Type 0} {f : A → B} {a : Form T A} → Decided a → Decided (mapped f a)
mapped_decided {f = f} da = record {
  search = λ tokens Q d. alike
      (λ h. record { value = f h.value; found = (h.value, h.found, refl); passes = h.passes })
      (λ h. record { value = h.found.0; found = h.found.1; passes = subst Q h.found.2 h.passes })
      (da.search tokens (λ v. Q (f v)) (λ v. d (f v)));
  begun = da.begun;
}

pub mapped_filled : {T A B : Type 0} {f : A → B} {a : Form T A} → Filled a → Filled (mapped f a)
mapped_filled p = record { filled = λ v h. p.filled h.0 h.1 }

pub optional_decided : {T V : Type 0} {a : Form T V} → Decided a → Decided (optional a)
optional_decided da = either_decided (mapped_decided da) (empty_decided None)

pub only_decided : {T V : Type 0} {P : List T → Type 0} {a : Form T V} → ((tokens : List T) → Decision (P tokens)) → Decided a → Decided (only P a)
only_decided p da = record {
  search = λ tokens Q d. alike
      (λ g. record { value = g.1.value; found = (g.0, g.1.found); passes = g.1.passes })
      (λ h. (h.found.0, record { value = h.value; found = h.found.1; passes = h.passes }))
      (both (p tokens) (da.search tokens Q d));
  begun = λ tokens. both (p tokens) (da.begun tokens);
}

pub with_its_decided : {T N V : Type 0} {f : List T → N} {a : Form T V} → Decided a → Decided (with_its f a)
with_its_decided {f = f} da = record {
  search = λ tokens Q d. alike
      (λ h. record { value = (f tokens, h.value); found = (h.found, refl); passes = h.passes })
      (λ h. record { value = h.value.1; found = h.found.0; passes = subst (λ n. Q (n, h.value.1)) h.found.1 h.passes })
      (da.search tokens (λ v. Q (f tokens, v)) (λ v. d (f tokens, v)));
  begun = da.begun;
}

-- Any number of a form

-- the first list has no more tokens than the second
abbrev pub Fits : {T : Type 0} → List T → List T → Type 0
Fits [] us = Unit {0}
Fits (t ∷ ts) [] = ⊥
Fits (t ∷ ts) (u ∷ us) = Fits ts us

fits_self : {T : Type 0} (ts : List T) → Fits ts ts
fits_self [] = tt
fits_self (t ∷ ts) = fits_self ts

fits_more : {T : Type 0} (ts : List T) (u : T) (us : List T) → Fits ts us → Fits ts (u ∷ us)
fits_more [] u us h = tt
fits_more (t ∷ ts) u [] h = absurd h
fits_more (t ∷ ts) u (v ∷ us) h = fits_more ts v us h

fits_rest : {T : Type 0} (x y us : List T) → Fits (x ++ y) us → Fits y us
fits_rest [] y us h = h
fits_rest (c ∷ x) y [] h = absurd h
fits_rest (c ∷ x) y (u ∷ us) h = fits_more y u us (fits_rest x y us h)

module _ {T S V : Type 0} (go : S → V → S) (a : S → Form T V) (da : (s : S) → Decided (a s)) (fa : (s : S) → Filled (a s)) where
  abbrev R : S → List T → V → Type 0
  R s = (a s).reads

  -- the first of them, and the others with which the fact holds
  abbrev First : S → (List V → Type 0) → List T → List T → Type 0
  First s Q x y = Hit (R s x) (λ v. Hit (AreFrom go R (go s v) y) (λ vs. Q (v ∷ vs)))

  from_nil : (s : S) (Q : List V → Type 0) (vs : List V) → AreFrom go R s [] vs → Q vs → Q []
  from_nil s Q [] h q = q
  from_nil s Q (v ∷ vs) p q = absurd (unfilled (fa s) p.prefix p.rest v p.whole p.first)

  from_end : (s : S) (Q : List V → Type 0) → Decision (Q []) → Decision (Hit (AreFrom go R s []) Q)
  from_end s Q d = alike (λ q. record { value = []; found = refl; passes = q }) (λ h. from_nil s Q h.value h.found h.passes) d

  from_back : (s : S) (t : T) (ts : List T) (Q : List V → Type 0) (vs : List V) → AreFrom go R s (t ∷ ts) vs → Q vs → Parted (t ∷ ts) (First s Q)
  from_back s t ts Q [] h q = absurd (no_token t ts (sym h))
  from_back s t ts Q (v ∷ vs) p q = record {
    prefix = p.prefix;
    rest = p.rest;
    whole = p.whole;
    fact = record { value = v; found = p.first; passes = record { value = vs; found = p.second; passes = q } };
  }

  from_more : (s : S) (t : T) (ts : List T) (Q : List V → Type 0) → Decision (Parted (t ∷ ts) (First s Q)) → Decision (Hit (AreFrom go R s (t ∷ ts)) Q)
  from_more s t ts Q d = alike
      (λ p. record {
        value = p.fact.value ∷ p.fact.passes.value;
        found = record { prefix = p.prefix; rest = p.rest; whole = p.whole; first = p.fact.found; second = p.fact.passes.found };
        passes = p.fact.passes.passes;
      })
      (λ h. from_back s t ts Q h.value h.found h.passes) d

  from_step : (s : S) (us : List T) (t : T) (ts : List T) → Fits ts us → (x y : List T) → t ∷ ts ≡ x ++ y → (P : V → Type 0)
      → (Fits y us → (v : V) → Decision (P v)) → Decision (Hit (R s x) P)
  from_step s us t ts f [] y e P d = fails (λ h. (fa s).filled h.value h.found)
  from_step s us t ts f (c ∷ x) y e P d =
      (da s).search (c ∷ x) P (d (fits_rest x y us (subst (λ z. Fits z us) (others_are t c ts (x ++ y) e) f)))

  from_search : (fuel : List T) (s : S) (tokens : List T) → Fits tokens fuel → (Q : List V → Type 0) → ((vs : List V) → Decision (Q vs))
      → Decision (Hit (AreFrom go R s tokens) Q)
  from_search [] s [] f Q d = from_end s Q (d [])
  from_search [] s (t ∷ ts) f Q d = absurd f
  from_search (u ∷ us) s [] f Q d = from_end s Q (d [])
  from_search (u ∷ us) s (t ∷ ts) f Q d =
      from_more s t ts Q (parted (t ∷ ts) (First s Q)
      (λ x y e. from_step s us t ts f x y e (λ v. Hit (AreFrom go R (go s v) y) (λ vs. Q (v ∷ vs)))
      (λ g v. from_search us (go s v) y g (λ vs. Q (v ∷ vs)) (λ vs. d (v ∷ vs)))))

  pub many_from_decided : (s : S) → Decided (many_from go a s)
  many_from_decided s = record {
    search = λ tokens. from_search tokens s tokens (fits_self tokens);
    begun = λ tokens. alike
        (λ p. (p.fact.value, record { prefix = p.prefix; rest = p.rest; whole = p.whole; first = p.fact.found; second = p.fact.passes }))
        (λ h. record { prefix = h.1.prefix; rest = h.1.rest; whole = h.1.whole; fact = record { value = h.0; found = h.1.first; passes = h.1.second } })
        (parted tokens (λ x y. Hit (AreFrom go R s x) (λ vs. (a (state_after go s vs)).begins y))
        (λ x y e. from_search x s x (fits_self x) (λ vs. (a (state_after go s vs)).begins y) (λ vs. (da (state_after go s vs)).begun y)));
  }

-- any number of one form: the state tells nothing
module _ {T V : Type 0} (a : Form T V) (da : Decided a) (fa : Filled a) where
  abbrev stay : Unit {0} → V → Unit {0}
  stay s v = tt

  abbrev Are : List T → List V → Type 0
  Are = AreFrom stay (λ _. a.reads) tt

  many_is : (tokens : List T) (vs : List V) → Are tokens vs → AreMany a.reads tokens vs
  many_is tokens [] h = h
  many_is tokens (v ∷ vs) s = record { prefix = s.prefix; rest = s.rest; whole = s.whole; first = s.first; second = many_is s.rest vs s.second }

  is_many : (tokens : List T) (vs : List V) → AreMany a.reads tokens vs → Are tokens vs
  is_many tokens [] h = h
  is_many tokens (v ∷ vs) s = record { prefix = s.prefix; rest = s.rest; whole = s.whole; first = s.first; second = is_many s.rest vs s.second }

  many_search : (tokens : List T) (Q : List V → Type 0) → ((vs : List V) → Decision (Q vs)) → Decision (Hit (AreMany a.reads tokens) Q)
  many_search tokens Q d = alike
      (λ h. record { value = h.value; found = many_is tokens h.value h.found; passes = h.passes })
      (λ h. record { value = h.value; found = is_many tokens h.value h.found; passes = h.passes })
      ((many_from_decided stay (λ _. a) (λ _. da) (λ _. fa) tt).search tokens Q d)

  pub many_decided : Decided (many a)
  many_decided = record {
    search = many_search;
    begun = λ tokens. alike
        (λ p. (p.fact.value, record { prefix = p.prefix; rest = p.rest; whole = p.whole; first = p.fact.found; second = p.fact.passes }))
        (λ h. record { prefix = h.1.prefix; rest = h.1.rest; whole = h.1.whole; fact = record { value = h.0; found = h.1.first; passes = h.1.second } })
        (parted tokens (λ x y. Hit (AreMany a.reads x) (λ vs. a.begins y)) (λ x y e. many_search x (λ vs. a.begins y) (λ vs. da.begun y)));
  }
