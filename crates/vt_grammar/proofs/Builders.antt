-- The laws of built forms, with what antt finds left out.
use Rattle.std.proofs.Common.{inl, inr, List, [], Some, None, sym, ap₂, ◌∙◌}
use Rattle.vt_grammar.specs.Form.{Form, one, empty, next, either, mapped, optional, with_its, many, many_from}
use Rattle.vt_grammar.proofs.Sequences.{Lawful, next_lawful, next_solid}
use Rattle.vt_grammar.proofs.Choices.{one_lawful, empty_lawful, mapped_lawful, either_lawful}
use Rattle.vt_grammar.proofs.Many.{many_lawful}
use Rattle.vt_grammar.proofs.ManyFrom.{from_lawful}

-- no list without tokens is read as the form
pub record Solid {T V : Type 0} (a : Form T V) : Type 0 where
  pub solid : (v : V) → a.reads [] v → ⊥

pub weaker : {T V : Type 0} {a : Form T V} {F M G N : T → Type 0} → Lawful a F M → ((t : T) → F t → G t) → ((t : T) → M t → N t) → Lawful a G N
weaker l f m = record {
  opens = record { nil = l.opens.nil; prefix = l.opens.prefix; whole = l.opens.whole; first = λ t y b. f t (l.opens.first t y b) };
  more = λ x v t y h b. m t (l.more x v t y h b);
  single = l.single;
}

pub one_solid : {T : Type 0} {P : T → Type 0} → Solid (one P)
one_solid = record { solid = λ v h. h }

pub map_lawful : {T A B : Type 0} {f : A → B} {a : Form T A} {F M : T → Type 0} → Lawful a F M → Lawful (mapped f a) F M
map_lawful {f = f} {a = a} {F = F} {M = M} l = mapped_lawful f a F M l

pub map_solid : {T A B : Type 0} {f : A → B} {a : Form T A} → Solid a → Solid (mapped f a)
map_solid s = record { solid = λ v h. s.solid h.0 h.1 }

pub seq_lawful : {T A B : Type 0} {a : Form T A} {b : Form T B} {FA MA FB MB M : T → Type 0} → Solid a → Lawful a FA MA → Lawful b FB MB
    → ((t : T) → MA t → FB t → ⊥) → ((t : T) → MB t → M t) → ((w : B) (t : T) → MA t → b.reads [] w → M t) → Lawful (next a (λ _. b)) FA M
seq_lawful {a = a} {b = b} {FA = FA} {MA = MA} {FB = FB} {MB = MB} {M = M} s la lb apart mb ma =
    next_lawful a (λ _. b) FA MA (λ _. FB) la (λ _. lb.opens) (λ _. apart) FA M (λ _. MB) (λ _. lb) (λ t h. h)
    (λ v t h _. absurd (s.solid v h)) (λ _. mb) (λ _ w t m h. ma w t m h)

pub seq_solid : {T A B : Type 0} (a : Form T A) (k : A → Form T B) → Solid a → Solid (next a k)
seq_solid a k s = record { solid = λ v h. next_solid a k s.solid v h }

-- a token and then a form
pub tok_lawful : {T B : Type 0} {P : T → Type 0} {b : Form T B} {FB MB : T → Type 0} → Lawful b FB MB → Lawful (next (one P) (λ _. b)) P MB
tok_lawful {P = P} lb = seq_lawful one_solid (one_lawful P) lb (λ t m _. m) (λ t m. m) (λ w t m _. absurd m)

pub or_lawful : {T V : Type 0} {a b : Form T V} {FA MA FB MB F M : T → Type 0} → Lawful a FA MA → Lawful b FB MB → Solid a → Solid b
    → ((t : T) → FA t → FB t → ⊥) → ((t : T) → FA t → F t) → ((t : T) → FB t → F t) → ((t : T) → MA t → M t) → ((t : T) → MB t → M t)
    → Lawful (either a b) F M
or_lawful {a = a} {b = b} {FA = FA} {MA = MA} {FB = FB} {MB = MB} {F = F} {M = M} la lb sa sb apart fa fb ma mb =
    either_lawful a b FA MA FB MB F M la lb apart sa.solid fa fb ma mb (λ v t h _. absurd (sb.solid v h))

pub or_solid : {T V : Type 0} {a b : Form T V} → Solid a → Solid b → Solid (either a b)
or_solid sa sb = record { solid = λ v h. elim h [ inl p ↦ sa.solid v p | inr p ↦ sb.solid v p ] }

pub optional_lawful : {T V : Type 0} {a : Form T V} {F M N : T → Type 0} → Lawful a F M → Solid a
    → ((t : T) → F t → N t) → ((t : T) → M t → N t) → Lawful (optional a) F N
optional_lawful {a = a} {F = F} {M = M} {N = N} l s fn mn =
    either_lawful (mapped (λ v. Some v) a) (empty None) F M (λ t. ⊥) (λ t. ⊥) F N (map_lawful l) (empty_lawful None)
    (λ t p q. q) (λ v h. s.solid h.0 h.1) (λ t p. p) (λ t p. absurd p) mn (λ t p. absurd p) (λ v t h p. fn t p)

pub repeat_lawful : {T V : Type 0} {a : Form T V} {F M N : T → Type 0} → Lawful a F M → ((t : T) → M t → F t → ⊥) → Solid a
    → ((t : T) → F t → N t) → ((t : T) → M t → N t) → Lawful (many a) F N
repeat_lawful {a = a} {F = F} {M = M} l apart s fn mn =
    weaker (many_lawful a F M l apart s.solid) (λ t h. h) (λ t h. elim h [ inl p ↦ fn t p | inr p ↦ mn t p ])

pub repeat_from_lawful : {T S V : Type 0} (go : S → V → S) (a : S → Form T V) {F M N : T → Type 0} → ((s : S) → Lawful (a s) F M) → ((t : T) → M t → F t → ⊥)
    → ((s : S) → Solid (a s)) → ((t : T) → F t → N t) → ((t : T) → M t → N t) → (s : S) → Lawful (many_from go a s) F N
repeat_from_lawful go a {F = F} {M = M} l apart solid fn mn s =
    weaker (from_lawful go a F M l apart (λ s. (solid s).solid) s) (λ t h. h) (λ t h. elim h [ inl p ↦ fn t p | inr p ↦ mn t p ])

pub with_its_lawful : {T N V : Type 0} {f : List T → N} {a : Form T V} {F M : T → Type 0} → Lawful a F M → Lawful (with_its f a) F M
with_its_lawful l = record {
  opens = record { nil = l.opens.nil; prefix = l.opens.prefix; whole = λ x v h. l.opens.whole x v.1 h.0; first = l.opens.first };
  more = λ x v t y h b. l.more x v.1 t y h.0 b;
  single = λ x v w h g. ap₂ (λ m n. (m, n)) (h.1 ∙ sym g.1) (l.single x v.1 w.1 h.0 g.0);
}

pub with_its_solid : {T N V : Type 0} {f : List T → N} {a : Form T V} → Solid a → Solid (with_its f a)
with_its_solid s = record { solid = λ v h. s.solid v.1 h.0 }
