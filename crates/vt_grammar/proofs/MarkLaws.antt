-- The laws of the ways to build forms of marks, with sets of terminals that are compared by computing.
use Rattle.std.proofs.Common.{◌≡◌, Bool, true, List, [], ◌∷◌, ◌++◌, subst}
use Rattle.vt_grammar.specs.declared.terminals.Terminal.{Terminal}
use Rattle.vt_grammar.specs.Form.{Form, nothing, next, either, mapped, optional, only, many, many_from}
use Rattle.vt_grammar.specs.Marks.{Mark}
use Rattle.vt_grammar.specs.Grammar.{terminal, among}
use Rattle.vt_grammar.specs.private.Sets.{just, none}
use Rattle.vt_grammar.proofs.Sequences.{Lawful, next_lawful}
use Rattle.vt_grammar.proofs.Choices.{one_lawful, nothing_lawful, only_lawful}
use Rattle.vt_grammar.proofs.Builders.{Solid, weaker, one_solid, map_lawful, map_solid, seq_solid, or_lawful, or_solid, optional_lawful, repeat_lawful, repeat_from_lawful}
use Rattle.vt_grammar.proofs.TerminalSets.{In, Is, includes, disjoint, sub, apart, is_in, just_self}

-- The laws of a form that no list without tokens has: it begins with terminals of F alone, and a whole one goes on with terminals
-- of M alone.
pub record Rule {V : Type 0} (a : Form Mark V) (F M : Terminal → Bool) : Type 0 where
  pub law : Lawful a (In F) (In M)
  pub solid : Solid a

-- the laws of a form that may also be without tokens
abbrev pub Maybe : {V : Type 0} → Form Mark V → (Terminal → Bool) → (Terminal → Bool) → Type 0
Maybe a F M = Lawful a (In F) (In M)

pub terminal_rule : (w : Terminal) → Rule (terminal w) (just w) none
terminal_rule w = record {
  law = weaker (one_lawful (Is w)) (λ t h. is_in (just w) (just_self w) t h) (λ t m. absurd m);
  solid = one_solid;
}

pub among_rule : (F : Terminal → Bool) → Rule (among F) F none
among_rule F = record {
  law = weaker (one_lawful (λ t. F t.terminal ≡ true)) (λ t h. record { is = h }) (λ t m. absurd m);
  solid = one_solid;
}

pub nothing_rule : {V : Type 0} (F : Terminal → Bool) → Rule {V = V} nothing F none
nothing_rule F = record {
  law = weaker (nothing_lawful (In F)) (λ t h. h) (λ t m. absurd m);
  solid = record { solid = λ v h. h };
}

pub map_rule : {A B : Type 0} {f : A → B} {a : Form Mark A} {F M : Terminal → Bool} → Rule a F M → Rule (mapped f a) F M
map_rule p = record { law = map_lawful p.law; solid = map_solid p.solid }

pub wider : {V : Type 0} {a : Form Mark V} {F M : Terminal → Bool} (G N : Terminal → Bool) → includes F G ≡ true → includes M N ≡ true → Rule a F M → Rule a G N
wider G N f m p = record { law = weaker p.law (sub f) (sub m); solid = p.solid }

pub only_rule : {V : Type 0} {P : List Mark → Type 0} {a : Form Mark V} {F M : Terminal → Bool} → P [] → ((x y : List Mark) → P (x ++ y) → P x)
    → Rule a F M → Rule (only P a) F M
only_rule {P = P} {a = a} {F = F} {M = M} nil closed p = record {
  law = only_lawful P a (In F) (In M) nil closed p.law;
  solid = record { solid = λ v h. p.solid.solid v h.1 };
}

module _ {A B : Type 0} {a : Form Mark A} {b : Form Mark B} {FA MA FB MB : Terminal → Bool} where
  -- one rule and then another
  pub then_rule : Rule a FA MA → Rule b FB MB → disjoint MA FB ≡ true → Rule (next a (λ _. b)) FA MB
  then_rule p q d = record {
    law = next_lawful a (λ _. b) (In FA) (In MA) (λ _. In FB) p.law (λ _. q.law.opens) (λ _ t m f. apart d t m f) (In FA) (In MB) (λ _. In MB) (λ _. q.law)
        (λ t f. f) (λ v t h f. absurd (p.solid.solid v h)) (λ _ t m. m) (λ v w t m h. absurd (q.solid.solid w h));
    solid = seq_solid a (λ _. b) p.solid;
  }

  -- a rule and then what may be without tokens
  pub then_maybe : (M : Terminal → Bool) → Rule a FA MA → Maybe b FB MB → disjoint MA FB ≡ true → includes MA M ≡ true → includes MB M ≡ true
      → Rule (next a (λ _. b)) FA M
  then_maybe M p q d ma mb = record {
    law = next_lawful a (λ _. b) (In FA) (In MA) (λ _. In FB) p.law (λ _. q.opens) (λ _ t m f. apart d t m f) (In FA) (In M) (λ _. In MB) (λ _. q)
        (λ t f. f) (λ v t h f. absurd (p.solid.solid v h)) (λ _ t m. sub mb t m) (λ v w t m h. sub ma t m);
    solid = seq_solid a (λ _. b) p.solid;
  }

  -- what may be without tokens and then a rule
  pub maybe_then : (F : Terminal → Bool) → Maybe a FA MA → Rule b FB MB → disjoint MA FB ≡ true → includes FA F ≡ true → includes FB F ≡ true
      → Rule (next a (λ _. b)) F MB
  maybe_then F p q d fa fb = record {
    law = next_lawful a (λ _. b) (In FA) (In MA) (λ _. In FB) p (λ _. q.law.opens) (λ _ t m f. apart d t m f) (In F) (In MB) (λ _. In MB) (λ _. q.law)
        (λ t f. sub fa t f) (λ v t h f. sub fb t f) (λ _ t m. m) (λ v w t m h. absurd (q.solid.solid w h));
    solid = record { solid = λ v s. go s.prefix s.rest v.1 s.whole s.second };
  }
    where
      go : (f r : List Mark) (w : B) → [] ≡ f ++ r → b.reads r w → ⊥
      go [] r w e h = q.solid.solid w (subst (λ z. b.reads z w) (let back : r ≡ [] = cc in back) h)
      go (t ∷ f) r w e h = cc

  -- two forms that both may be without tokens
  pub maybe_maybe : (F M : Terminal → Bool) → Maybe a FA MA → Maybe b FB MB → disjoint MA FB ≡ true → includes FA F ≡ true → includes FB F ≡ true
      → includes MA M ≡ true → includes MB M ≡ true → Maybe (next a (λ _. b)) F M
  maybe_maybe F M p q d fa fb ma mb =
      next_lawful a (λ _. b) (In FA) (In MA) (λ _. In FB) p (λ _. q.opens) (λ _ t m f. apart d t m f) (In F) (In M) (λ _. In MB) (λ _. q)
      (λ t f. sub fa t f) (λ v t h f. sub fb t f) (λ _ t m. sub mb t m) (λ v w t m h. sub ma t m)

-- a rule and then what may be without tokens, by the value of the rule
pub then_by : {A B : Type 0} {a : Form Mark A} {k : A → Form Mark B} {FA MA FB MB : Terminal → Bool} (M : Terminal → Bool) → Rule a FA MA
    → ((v : A) → Maybe (k v) FB MB) → disjoint MA FB ≡ true → includes MA M ≡ true → includes MB M ≡ true → Rule (next a k) FA M
then_by {a = a} {k = k} {FA = FA} {MA = MA} {FB = FB} {MB = MB} M p q d ma mb = record {
  law = next_lawful a k (In FA) (In MA) (λ _. In FB) p.law (λ v. (q v).opens) (λ _ t m f. apart d t m f) (In FA) (In M) (λ _. In MB) q
      (λ t f. f) (λ v t h f. absurd (p.solid.solid v h)) (λ _ t m. sub mb t m) (λ v w t m h. sub ma t m);
  solid = seq_solid a k p.solid;
}

pub or_rule : {V : Type 0} {a b : Form Mark V} {FA MA FB MB : Terminal → Bool} (F M : Terminal → Bool) → Rule a FA MA → Rule b FB MB → disjoint FA FB ≡ true
    → includes FA F ≡ true → includes FB F ≡ true → includes MA M ≡ true → includes MB M ≡ true → Rule (either a b) F M
or_rule F M p q d fa fb ma mb = record {
  law = or_lawful p.law q.law p.solid q.solid (apart d) (sub fa) (sub fb) (sub ma) (sub mb);
  solid = or_solid p.solid q.solid;
}

pub maybe : {V : Type 0} {a : Form Mark V} {F M : Terminal → Bool} (N : Terminal → Bool) → Rule a F M → includes F N ≡ true → includes M N ≡ true → Maybe (optional a) F N
maybe N p f m = optional_lawful p.law p.solid (sub f) (sub m)

pub repeat : {V : Type 0} {a : Form Mark V} {F M : Terminal → Bool} (N : Terminal → Bool) → Rule a F M → disjoint M F ≡ true → includes F N ≡ true → includes M N ≡ true
    → Maybe (many a) F N
repeat N p d f m = repeat_lawful p.law (apart d) p.solid (sub f) (sub m)

pub repeat_from : {S V : Type 0} (go : S → V → S) (a : S → Form Mark V) {F M : Terminal → Bool} (N : Terminal → Bool) → ((s : S) → Rule (a s) F M) → disjoint M F ≡ true
    → includes F N ≡ true → includes M N ≡ true → (s : S) → Maybe (many_from go a s) F N
repeat_from go a N p d f m s = repeat_from_lawful go a (λ s. (p s).law) (apart d) (λ s. (p s).solid) (sub f) (sub m) s
