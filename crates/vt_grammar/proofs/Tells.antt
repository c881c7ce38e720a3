-- What is told of each value that a form reads from good marks: a relation between the value and what the marks show, in
-- their order. One lemma for each way to build a form.
use Rattle.std.proofs.Common.{◌≡◌, inl, inr, Bool, true, false, List, [], ◌∷◌, ◌++◌, Option, Some, None, refl, sym, ap, ◌∙◌, subst, append-nil, append_assoc}
use Rattle.std.specs.List.{AllByRecursion}
use Rattle.vt_grammar.specs.declared.terminals.Terminal.{Terminal}
use Rattle.vt_grammar.specs.declared.terminals.Terminal.TheVariants as terminals
use Rattle.vt_grammar.specs.Form.{Form, Split, IsOne, empty, nothing, next, either, mapped, optional, only, with_its, AreMany, many, AreFrom, many_from}
use Rattle.vt_grammar.specs.Marks.{Mark, begins_block}
use Rattle.vt_grammar.specs.Grammar.{terminal, among}
use Rattle.vt_grammar.proofs.TerminalSets.{disjoint, apart}

-- Measures

-- the terminals at which a part of a tree may stand
abbrev pub is_head : Terminal → Bool
is_head terminals.Name = true
is_head w = begins_block w

-- what each mark shows, where only those of such a terminal show anything, and which marks are good
pub record Measure (X : Type 0) : Type 1 where
  pub shows : Mark → List X
  pub IsGood : Mark → Type 0
  pub quiet : (t : Mark) → is_head t.terminal ≡ false → shows t ≡ []

-- what marks show, one after another
abbrev pub shown : {X : Type 0} → Measure X → List Mark → List X
shown m [] = []
shown m (t ∷ ts) = m.shows t ++ shown m ts

shown-append : {X : Type 0} (m : Measure X) (x y : List Mark) → shown m (x ++ y) ≡ shown m x ++ shown m y
shown-append m [] y = refl
shown-append m (t ∷ x) y = ap (λ z. m.shows t ++ z) (shown-append m x y) ∙ sym (append_assoc (m.shows t) (shown m x) (shown m y))

shown_alone : {X : Type 0} (m : Measure X) (t : Mark) → shown m (t ∷ []) ≡ m.shows t
shown_alone m t = append-nil (m.shows t)

good_prefix : (P : Mark → Type 0) (x y : List Mark) → AllByRecursion P (x ++ y) → AllByRecursion P x
good_prefix P [] y g = tt
good_prefix P (t ∷ x) y g = (g.0, good_prefix P x y g.1)

good_rest : (P : Mark → Type 0) (x y : List Mark) → AllByRecursion P (x ++ y) → AllByRecursion P y
good_rest P [] y g = g
good_rest P (t ∷ x) y g = good_rest P x y g.1

-- of each value that the form reads from good marks and of what they show
pub record Tells {X V : Type 0} (m : Measure X) (a : Form Mark V) (R : V → List X → Type 0) : Type 0 where
  pub told : (tokens : List Mark) (v : V) → a.reads tokens v → AllByRecursion m.IsGood tokens → R v (shown m tokens)

-- Relations

-- a good mark of which this holds, which shows nothing
pub record IsQuiet {X : Type 0} (m : Measure X) (P : Mark → Type 0) (t : Mark) (ns : List X) : Type 0 where
  pub holds : P t
  pub good : m.IsGood t
  pub shows_none : ns ≡ []

-- a good mark of which this holds, and what it shows
pub record IsHead {X : Type 0} (m : Measure X) (P : Mark → Type 0) (t : Mark) (ns : List X) : Type 0 where
  pub holds : P t
  pub good : m.IsGood t
  pub shows_own : ns ≡ m.shows t

-- what is shown is told by the first value and then by the second
pub record Both {X A B : Type 0} (R : A → List X → Type 0) (S : A → B → List X → Type 0) (v : A × B) (ns : List X) : Type 0 where
  pub prefix : List X
  pub rest : List X
  pub whole : ns ≡ prefix ++ rest
  pub first : R v.0 prefix
  pub second : S v.0 v.1 rest

abbrev pub IfThere : {X V : Type 0} → (V → List X → Type 0) → Option V → List X → Type 0
IfThere R None ns = ns ≡ []
IfThere R (Some v) ns = R v ns

-- the value that is there, or nothing shown
pub record Maybe {X V : Type 0} (R : V → List X → Type 0) (o : Option V) (ns : List X) : Type 0 where
  pub is : IfThere R o ns

pub maybe_map : {X V : Type 0} {R S : V → List X → Type 0} (o : Option V) (ns : List X) → ((v : V) (ms : List X) → R v ms → S v ms) → Maybe R o ns → Maybe S o ns
maybe_map None ns q h = record { is = h.is }
maybe_map (Some v) ns q h = record { is = q v ns h.is }

abbrev pub InOrder : {X V : Type 0} → (V → List X → Type 0) → List V → List X → Type 0
InOrder R [] ns = ns ≡ []
InOrder R (v ∷ vs) ns = Split ns (R v) (InOrder R vs)

-- what is shown is told by the values, one after another
pub record Each {X V : Type 0} (R : V → List X → Type 0) (vs : List V) (ns : List X) : Type 0 where
  pub is : InOrder R vs ns

abbrev pub FromState : {X S V : Type 0} → (S → V → S) → (S → V → List X → Type 0) → S → List V → List X → Type 0
FromState go R s [] ns = ns ≡ []
FromState go R s (v ∷ vs) ns = Split ns (R s v) (FromState go R (go s v) vs)

-- the same, each value by the state in which the ones before it leave
pub record EachFrom {X S V : Type 0} (go : S → V → S) (R : S → V → List X → Type 0) (s : S) (vs : List V) (ns : List X) : Type 0 where
  pub is : FromState go R s vs ns

-- Marks

no_head : (F : Terminal → Bool) → disjoint F is_head ≡ true → (t : Mark) → F t.terminal ≡ true → is_head t.terminal ≡ false
no_head F d t h = go (is_head t.terminal) refl
  where
    go : (b : Bool) → is_head t.terminal ≡ b → is_head t.terminal ≡ false
    go false e = e
    go true e = absurd (apart {F = F} {G = is_head} d t (record { is = h }) (record { is = e }))

one_quiet : {X : Type 0} (m : Measure X) (P : Mark → Type 0) → ((t : Mark) → P t → is_head t.terminal ≡ false) → (tokens : List Mark) (v : Mark)
    → IsOne (λ t. P t × (v ≡ t)) tokens → AllByRecursion m.IsGood tokens → IsQuiet m P v (shown m tokens)
one_quiet m P q [] v h g = absurd h
one_quiet m P q (t ∷ []) v h g = record {
  holds = subst P (sym h.1) h.0;
  good = subst m.IsGood (sym h.1) g.0;
  shows_none = shown_alone m t ∙ m.quiet t (q t h.0);
}
one_quiet m P q (t ∷ u ∷ ts) v h g = absurd h

one_head : {X : Type 0} (m : Measure X) (P : Mark → Type 0) (tokens : List Mark) (v : Mark) → IsOne (λ t. P t × (v ≡ t)) tokens → AllByRecursion m.IsGood tokens
    → IsHead m P v (shown m tokens)
one_head m P [] v h g = absurd h
one_head m P (t ∷ []) v h g = record {
  holds = subst P (sym h.1) h.0;
  good = subst m.IsGood (sym h.1) g.0;
  shows_own = shown_alone m t ∙ ap m.shows (sym h.1);
}
one_head m P (t ∷ u ∷ ts) v h g = absurd h

pub among_tells : {X : Type 0} {m : Measure X} (F : Terminal → Bool) → disjoint F is_head ≡ true → Tells m (among F) (IsQuiet m (λ t. F t.terminal ≡ true))
among_tells {m = m} F d = record { told = λ tokens v h g. one_quiet m (λ t. F t.terminal ≡ true) (λ t e. no_head F d t e) tokens v h g }

pub terminal_tells : {X : Type 0} {m : Measure X} (w : Terminal) → is_head w ≡ false → Tells m (terminal w) (IsQuiet m (λ t. t.terminal ≡ w))
terminal_tells {m = m} w b = record { told = λ tokens v h g. one_quiet m (λ t. t.terminal ≡ w) (λ t e. ap is_head e ∙ b) tokens v h g }

pub head_tells : {X : Type 0} {m : Measure X} (w : Terminal) → Tells m (terminal w) (IsHead m (λ t. t.terminal ≡ w))
head_tells {m = m} w = record { told = λ tokens v h g. one_head m (λ t. t.terminal ≡ w) tokens v h g }

-- Ways to build a form

pub nothing_tells : {X V : Type 0} {m : Measure X} {R : V → List X → Type 0} → Tells m nothing R
nothing_tells = record { told = λ tokens v h g. absurd h }

pub empty_tells : {X V : Type 0} {m : Measure X} {v : V} {R : V → List X → Type 0} → R v [] → Tells m (empty v) R
empty_tells {m = m} {v = v} {R = R} r = record {
  told = λ tokens w h g. subst (λ z. R z (shown m tokens)) (sym h.1) (subst (R v) (sym (ap (shown m) h.0)) r);
}

pub either_tells : {X V : Type 0} {m : Measure X} {a b : Form Mark V} {R : V → List X → Type 0} → Tells m a R → Tells m b R → Tells m (either a b) R
either_tells ta tb = record { told = λ tokens v h g. elim h [ inl p ↦ ta.told tokens v p g | inr p ↦ tb.told tokens v p g ] }

pub map_tells : {X A B : Type 0} {m : Measure X} {f : A → B} {a : Form Mark A} {R : A → List X → Type 0} {S : B → List X → Type 0}
    → Tells m a R → ((v : A) (ns : List X) → R v ns → S (f v) ns) → Tells m (mapped f a) S
map_tells {m = m} {S = S} ta q = record {
  told = λ tokens w h g. subst (λ z. S z (shown m tokens)) (sym h.2) (q h.0 (shown m tokens) (ta.told tokens h.0 h.1 g));
}

pub weaker_tells : {X V : Type 0} {m : Measure X} {a : Form Mark V} {R S : V → List X → Type 0} → Tells m a R → ((v : V) (ns : List X) → R v ns → S v ns)
    → Tells m a S
weaker_tells {m = m} ta q = record { told = λ tokens v h g. q v (shown m tokens) (ta.told tokens v h g) }

pub maybe_tells : {X V : Type 0} {m : Measure X} {a : Form Mark V} {R : V → List X → Type 0} → Tells m a R → Tells m (optional a) (Maybe R)
maybe_tells {m = m} {R = R} ta = record {
  told = λ tokens o h g. elim h [
    | inl p ↦ subst (λ z. Maybe R z (shown m tokens)) (sym p.2) (record { is = ta.told tokens p.0 p.1 g })
    | inr p ↦ subst (λ z. Maybe R z (shown m tokens)) (sym p.1) (record { is = ap (shown m) p.0 })
  ];
}

pub only_tells : {X V : Type 0} {m : Measure X} {P : List Mark → Type 0} {a : Form Mark V} {R : V → List X → Type 0} → Tells m a R → Tells m (only P a) R
only_tells ta = record { told = λ tokens v h g. ta.told tokens v h.1 g }

-- what is told of the value alone
abbrev pub Second : {X N V : Type 0} → (V → List X → Type 0) → N × V → List X → Type 0
Second R v ns = R v.1 ns

pub with_its_tells : {X N V : Type 0} {m : Measure X} {f : List Mark → N} {a : Form Mark V} {R : V → List X → Type 0} → Tells m a R
    → Tells m (with_its f a) (Second {N = N} R)
with_its_tells ta = record { told = λ tokens v h g. ta.told tokens v.1 h.0 g }

pub next_tells : {X A B : Type 0} {m : Measure X} {a : Form Mark A} {k : A → Form Mark B} {R : A → List X → Type 0} {S : A → B → List X → Type 0}
    → Tells m a R → ((v : A) → Tells m (k v) (S v)) → Tells m (next a k) (Both R S)
next_tells {m = m} ta tk = record {
  told = λ tokens v h g.
      let good : AllByRecursion m.IsGood (h.prefix ++ h.rest) = subst (λ z. AllByRecursion m.IsGood z) h.whole g in
      record {
        prefix = shown m h.prefix;
        rest = shown m h.rest;
        whole = ap (shown m) h.whole ∙ shown-append m h.prefix h.rest;
        first = ta.told h.prefix v.0 h.first (good_prefix m.IsGood h.prefix h.rest good);
        second = (tk v.0).told h.rest v.1 h.second (good_rest m.IsGood h.prefix h.rest good);
      };
}

-- the same where the second form does not depend on the first value
pub then_tells : {X A B : Type 0} {m : Measure X} {a : Form Mark A} {b : Form Mark B} {R : A → List X → Type 0} {S : B → List X → Type 0}
    → Tells m a R → Tells m b S → Tells m (next a (λ _. b)) (Both R (λ _. S))
then_tells ta tb = next_tells ta (λ _. tb)

many_told : {X V : Type 0} (m : Measure X) (a : Form Mark V) (R : V → List X → Type 0) → Tells m a R → (vs : List V) (tokens : List Mark) → AreMany a.reads tokens vs
    → AllByRecursion m.IsGood tokens → InOrder R vs (shown m tokens)
many_told m a R ta [] tokens h g = ap (shown m) h
many_told m a R ta (v ∷ vs) tokens h g =
    let good : AllByRecursion m.IsGood (h.prefix ++ h.rest) = subst (λ z. AllByRecursion m.IsGood z) h.whole g in
    record {
      prefix = shown m h.prefix;
      rest = shown m h.rest;
      whole = ap (shown m) h.whole ∙ shown-append m h.prefix h.rest;
      first = ta.told h.prefix v h.first (good_prefix m.IsGood h.prefix h.rest good);
      second = many_told m a R ta vs h.rest h.second (good_rest m.IsGood h.prefix h.rest good);
    }

pub many_tells : {X V : Type 0} {m : Measure X} {a : Form Mark V} {R : V → List X → Type 0} → Tells m a R → Tells m (many a) (Each R)
many_tells {m = m} {a = a} {R = R} ta = record { told = λ tokens vs h g. record { is = many_told m a R ta vs tokens h g } }

from_told : {X S V : Type 0} (m : Measure X) (go : S → V → S) (a : S → Form Mark V) (R : S → V → List X → Type 0) → ((s : S) → Tells m (a s) (R s)) → (vs : List V) (s : S)
    (tokens : List Mark) → AreFrom go (λ s. (a s).reads) s tokens vs → AllByRecursion m.IsGood tokens → FromState go R s vs (shown m tokens)
from_told m go a R ta [] s tokens h g = ap (shown m) h
from_told m go a R ta (v ∷ vs) s tokens h g =
    let good : AllByRecursion m.IsGood (h.prefix ++ h.rest) = subst (λ z. AllByRecursion m.IsGood z) h.whole g in
    record {
      prefix = shown m h.prefix;
      rest = shown m h.rest;
      whole = ap (shown m) h.whole ∙ shown-append m h.prefix h.rest;
      first = (ta s).told h.prefix v h.first (good_prefix m.IsGood h.prefix h.rest good);
      second = from_told m go a R ta vs (go s v) h.rest h.second (good_rest m.IsGood h.prefix h.rest good);
    }

pub many_from_tells : {X S V : Type 0} {m : Measure X} (go : S → V → S) (a : S → Form Mark V) (R : S → V → List X → Type 0) → ((s : S) → Tells m (a s) (R s)) → (s : S)
    → Tells m (many_from go a s) (EachFrom go R s)
many_from_tells {m = m} go a R ta s = record { told = λ tokens vs h g. record { is = from_told m go a R ta vs s tokens h g } }

-- Marks that show nothing leave what is shown as it is.

pub after_quiet : {X A B : Type 0} {P : A → List X → Type 0} {S : B → List X → Type 0} {v : A × B} {ns : List X} → Both P (λ _. S) v ns
    → ((ms : List X) → P v.0 ms → ms ≡ []) → S v.1 ns
after_quiet {S = S} {v = v} h q = subst (λ z. S v.1 z) (sym (h.whole ∙ ap (λ z. z ++ h.rest) (q h.prefix h.first))) h.second

pub before_quiet : {X A B : Type 0} {R : A → List X → Type 0} {P : A → B → List X → Type 0} {v : A × B} {ns : List X} → Both R P v ns
    → ((ms : List X) → P v.0 v.1 ms → ms ≡ []) → R v.0 ns
before_quiet {R = R} {v = v} h q =
    subst (λ z. R v.0 z) (sym (h.whole ∙ ap (λ z. h.prefix ++ z) (q h.rest h.second) ∙ append-nil h.prefix)) h.first
