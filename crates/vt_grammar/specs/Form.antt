-- Forms: which lists are read as which value, and which lists begin the form. A list begins a form where it is empty, or
-- begins the form's first part, or is that part whole followed by a list that begins the rest. Each way to build a form
-- below has that sentence as its `begins`. All of this is the project's own.
use Rattle.std.specs.Prelude.{◌≡◌, ◌⊎◌, List, [], ◌∷◌, ◌++◌, Option, Some, None}

-- a form of lists of T, each read as a V
pub record Form (T V : Type 0) : Type 1 where
  pub reads : List T → V → Type 0
  pub begins : List T → Type 0

-- the list is a prefix and a rest, of which these hold
pub record Split {T : Type 0} (tokens : List T) (P Q : List T → Type 0) : Type 0 where
  pub prefix : List T
  pub rest : List T
  pub whole : tokens ≡ prefix ++ rest
  pub first : P prefix
  pub second : Q rest

-- the list has one token, of which this holds
abbrev pub IsOne : {T : Type 0} → (T → Type 0) → List T → Type 0
IsOne P [] = ⊥
IsOne P (t ∷ []) = P t
IsOne P (t ∷ u ∷ ts) = ⊥

-- one token of which this holds, read as itself
abbrev pub one : {T : Type 0} → (T → Type 0) → Form T T
one P = record {
  reads = λ tokens v. IsOne (λ t. P t × (v ≡ t)) tokens;
  begins = λ tokens. (tokens ≡ []) ⊎ IsOne P tokens;
}

-- no token, read as this value
abbrev pub empty : {T V : Type 0} → V → Form T V
empty v = record { reads = λ tokens w. (tokens ≡ []) × (w ≡ v); begins = λ tokens. tokens ≡ [] }

-- no list at all has this form, and the empty list alone begins it
abbrev pub nothing : {T V : Type 0} → Form T V
nothing = record { reads = λ tokens v. ⊥; begins = λ tokens. tokens ≡ [] }

-- one form and then another, which may depend on what the first was read as
abbrev pub next : {T A B : Type 0} → Form T A → (A → Form T B) → Form T (A × B)
next a k = record {
  reads = λ tokens v. Split tokens (λ x. a.reads x v.0) (λ y. (k v.0).reads y v.1);
  begins = λ tokens. a.begins tokens ⊎ ((v : _) × Split tokens (λ x. a.reads x v) (λ y. (k v).begins y));
}

-- either form
abbrev pub either : {T V : Type 0} → Form T V → Form T V → Form T V
either a b = record {
  reads = λ tokens v. a.reads tokens v ⊎ b.reads tokens v;
  begins = λ tokens. a.begins tokens ⊎ b.begins tokens;
}

-- the form, with another value
abbrev pub mapped : {T A B : Type 0} → (A → B) → Form T A → Form T B
mapped f a = record {
  reads = λ tokens w. (v : _) × a.reads tokens v × (w ≡ f v);
  begins = a.begins;
}

-- the form, or no token
abbrev pub optional : {T V : Type 0} → Form T V → Form T (Option V)
optional a = either (mapped (λ v. Some v) a) (empty None)

-- those lists of the form of which this holds
abbrev pub only : {T V : Type 0} → (List T → Type 0) → Form T V → Form T V
only P a = record {
  reads = λ tokens v. P tokens × a.reads tokens v;
  begins = λ tokens. P tokens × a.begins tokens;
}

-- the form, together with what this tells of its tokens
abbrev pub with_its : {T N V : Type 0} → (List T → N) → Form T V → Form T (N × V)
with_its f a = record {
  reads = λ tokens v. a.reads tokens v.1 × (v.0 ≡ f tokens);
  begins = a.begins;
}

-- the lists of a form, one after another
abbrev pub AreMany : {T V : Type 0} → (List T → V → Type 0) → List T → List V → Type 0
AreMany R tokens [] = tokens ≡ []
AreMany R tokens (v ∷ vs) = Split tokens (λ x. R x v) (λ y. AreMany R y vs)

-- any number of the form, one after another
abbrev pub many : {T V : Type 0} → Form T V → Form T (List V)
many a = record {
  reads = AreMany a.reads;
  begins = λ tokens. (vs : List _) × Split tokens (λ x. AreMany a.reads x vs) a.begins;
}

-- lists one after another, each of the form that belongs to the state in which the ones before it leave
abbrev pub AreFrom : {T S V : Type 0} → (S → V → S) → (S → List T → V → Type 0) → S → List T → List V → Type 0
AreFrom go R s tokens [] = tokens ≡ []
AreFrom go R s tokens (v ∷ vs) = Split tokens (λ x. R s x v) (λ y. AreFrom go R (go s v) y vs)

-- the state in which these values leave
abbrev pub state_after : {S V : Type 0} → (S → V → S) → S → List V → S
state_after go s [] = s
state_after go s (v ∷ vs) = state_after go (go s v) vs

-- any number of forms, one after another, each by the state in which the ones before it leave
abbrev pub many_from : {T S V : Type 0} → (S → V → S) → (S → Form T V) → S → Form T (List V)
many_from go a s = record {
  reads = AreFrom go (λ s. (a s).reads) s;
  begins = λ tokens. (vs : List _) × Split tokens (λ x. AreFrom go (λ s. (a s).reads) s x vs) (a (state_after go s vs)).begins;
}
