-- The test of a match answers as the relation does.
use Rattle.std.proofs.Common.{◌≡◌, ℕ, ◌<◌, ◌≤◌, List, [], ◌∷◌, ◌++◌, length, take, drop, get_or, refl, sym, ◌∙◌, ap, inl, inr, ◌⊎◌, arith, Bool, true, false, zero, suc, subst, true≢false, ◌&&◌, ◌||◌, ◌==◌, cond, leb-true, le-leb, take-append-drop}
use Rattle.std.specs.Prelude.{Contains, Decides, MatchBool, nat_le}
use Rattle.std.specs.List.{list_any}
use Rattle.std.proofs.lemmas.Bool.Decides.{Decides-and, Decides-eqb, Decides-like, Decides-or}
use Rattle.std.proofs.lemmas.Slice.Eq.{bytes_eq-Decides}
use Rattle.vt_path.specs.declared.pattern.Segment.{Segment}
use Rattle.vt_path.specs.declared.pattern.Segment.TheVariants.{AnySegments, Parts}
use Rattle.vt_path.specs.declared.pattern.Part.{Part}
use Rattle.vt_path.specs.declared.pattern.Part.TheVariants.{Byte, AnyBytes, AnyByte, Set, Alternatives}
use Rattle.vt_path.specs.Match.{Holds, MatchesBytes, MatchesSegments, Skips, byte_parts, is_inner, literal_of, literal_segment}
use Rattle.vt_meaning.specs.Laws.{MatchTestIsRight}
use Rattle.vt_meaning.specs.LookUps.{are_bytes, begins_with, holds, is_literal, matches_bytes, matches_segments, skips}

-- what never holds is tested by `false`
never : {P : Type 0} → (P → ⊥) → Decides false P
never none = (λ e. absurd (true≢false (sym e)), λ p. absurd (none p))

always : {P : Type 0} → P → Decides true P
always p = (λ e. p, λ p. refl)

cond_right : {P Q : Type 0} (c x y : Bool) → Decides x P → Decides y Q → Decides (cond c x y) (MatchBool c P Q)
cond_right true x y d k = d
cond_right false x y d k = k

le_right : (a b : ℕ) → Decides (nat_le a b) (a ≤ b)
le_right a b = (leb-true a b, le-leb a b)

holds_right : (held : List ℕ) (byte : ℕ) → Decides (holds held byte) (Holds held byte)
unfolding Holds
holds_right [] byte = never (λ h. h)
holds_right (a ∷ []) byte = Decides-eqb byte a
holds_right (a ∷ d ∷ []) byte = Decides-or (byte == a) (byte == d) (Decides-eqb byte a) (Decides-eqb byte d)
holds_right (a ∷ d ∷ z ∷ rest) byte =
    cond_right (d == 45) ((nat_le a byte && nat_le byte z) || holds rest byte) ((byte == a) || holds (d ∷ z ∷ rest) byte)
    (Decides-or (nat_le a byte && nat_le byte z) (holds rest byte) (Decides-and (nat_le a byte) (nat_le byte z) (le_right a byte) (le_right byte z)) (holds_right rest byte))
    (Decides-or (byte == a) (holds (d ∷ z ∷ rest) byte) (Decides-eqb byte a) (holds_right (d ∷ z ∷ rest) byte))

skips_right : {A : Type 0} (go : List A → Bool) (Go : List A → Type 0) → ((xs : List A) → Decides (go xs) (Go xs)) → (xs : List A) → Decides (skips go xs) (Skips Go xs)
skips_right go Go each [] = each []
skips_right go Go each (x ∷ xs) = Decides-or (go (x ∷ xs)) (skips go xs) (each (x ∷ xs)) (skips_right go Go each xs)

take_name : (name rest : List ℕ) → take (length name) (name ++ rest) ≡ name
take_name [] rest = refl
take_name (b ∷ name) rest = ap (λ l. b ∷ l) (take_name name rest)

drop_name : (name rest : List ℕ) → drop (length name) (name ++ rest) ≡ rest
drop_name [] rest = refl
drop_name (b ∷ name) rest = drop_name name rest

begins_right : (bytes name : List ℕ) → Decides (begins_with bytes name) (bytes ≡ name ++ drop (length name) bytes)
begins_right bytes name =
    Decides-like (begins_with bytes name)
    (λ e. sym (take-append-drop (length name) bytes) ∙ ap (λ l. l ++ drop (length name) bytes) (sym e))
    (λ h. sym (ap (λ l. take (length name) l) h ∙ take_name name (drop (length name) bytes)))
    (bytes_eq-Decides name (take (length name) bytes))

contains_cons : (x : List ℕ) (xs : List (List ℕ)) (y : List ℕ) → Contains (x ∷ xs) y → (x ≡ y) ⊎ Contains xs y
contains_cons x xs y h = one h.0 h.1 h.2
  where
    one : (k : ℕ) → k < length (x ∷ xs) → get_or (x ∷ xs) k y ≡ y → (x ≡ y) ⊎ Contains xs y
    one zero lt g = inl g
    one (suc k) lt g = inr (k, (omega arith), g)

contains_here : (x : List ℕ) (xs : List (List ℕ)) → Contains (x ∷ xs) x
contains_here x xs = (0, omega arith, refl)

contains_there : (x : List ℕ) (xs : List (List ℕ)) (y : List ℕ) → Contains xs y → Contains (x ∷ xs) y
contains_there x xs y h = (suc h.0, (let l = h.1 in omega arith), h.2)

module _ (go : List ℕ → Bool) (Go : List ℕ → Type 0) (each : (bytes : List ℕ) → Decides (go bytes) (Go bytes)) (bytes : List ℕ) where
  abbrev Taken : List ℕ → Type 0
  Taken name = (rest : List ℕ) × (bytes ≡ name ++ rest) × Go rest

  abbrev SomeTaken : List (List ℕ) → Type 0
  SomeTaken names = (name : List ℕ) × (rest : List ℕ) × Contains names name × (bytes ≡ name ++ rest) × Go rest

  abbrev takes : List ℕ → Bool
  takes name = begins_with bytes name && go (drop (length name) bytes)

  name_right : (name : List ℕ) → Decides (takes name) (Taken name)
  name_right name =
      Decides-like (takes name) (λ h. (drop (length name) bytes, h.0, h.1)) back
      (Decides-and (begins_with bytes name) (go (drop (length name) bytes)) (begins_right bytes name) (each (drop (length name) bytes)))
    where
      back : Taken name → (bytes ≡ name ++ drop (length name) bytes) × Go (drop (length name) bytes)
      back h =
          let same : drop (length name) bytes ≡ h.0 = ap (λ l. drop (length name) l) h.1 ∙ drop_name name h.0 in
          (h.1 ∙ ap (λ l. name ++ l) (sym same), subst Go (sym same) h.2)

  names_right : (names : List (List ℕ)) → Decides (list_any takes names) (SomeTaken names)
  names_right [] = never (λ h. let lt = h.2.1 in omega arith)
  names_right (name ∷ names) =
      Decides-like (takes name || list_any takes names) forth back (Decides-or (takes name) (list_any takes names) (name_right name) (names_right names))
    where
      forth : Taken name ⊎ SomeTaken names → SomeTaken (name ∷ names)
      forth (inl h) = (name, h.0, contains_here name names, h.1, h.2)
      forth (inr h) = (h.0, h.1, contains_there name names h.0 h.2, h.3, h.4)

      back : SomeTaken (name ∷ names) → Taken name ⊎ SomeTaken names
      back h =
          elim (contains_cons name names h.0 h.2) [
            | inl same ↦ inl (h.1, h.3 ∙ ap (λ l. l ++ h.1) (sym same), h.4)
            | inr there ↦ inr (h.0, h.1, there, h.3, h.4)
          ]

bytes_right : (parts : List Part) (bytes : List ℕ) → Decides (matches_bytes parts bytes) (MatchesBytes parts bytes)
bytes_right [] [] = always tt
bytes_right [] (b ∷ bytes) = never (λ h. h)
bytes_right (Byte c ∷ parts) [] = never (λ h. h)
bytes_right (Byte c ∷ parts) (b ∷ bytes) = Decides-and (b == c) (matches_bytes parts bytes) (Decides-eqb b c) (bytes_right parts bytes)
bytes_right (AnyBytes ∷ parts) bytes = skips_right (λ rest. matches_bytes parts rest) (λ rest. MatchesBytes parts rest) (bytes_right parts) bytes
bytes_right (AnyByte ∷ parts) [] = never (λ h. h)
bytes_right (AnyByte ∷ parts) (b ∷ bytes) = bytes_right parts bytes
bytes_right (Set held ∷ parts) [] = never (λ h. h)
bytes_right (Set held ∷ parts) (b ∷ bytes) = Decides-and (holds held b) (matches_bytes parts bytes) (holds_right held b) (bytes_right parts bytes)
bytes_right (Alternatives names ∷ parts) bytes = names_right (matches_bytes parts) (MatchesBytes parts) (bytes_right parts) bytes names

segments_right : (pattern : List Segment) (path : List (List ℕ)) → Decides (matches_segments pattern path) (MatchesSegments pattern path)
segments_right [] [] = always tt
segments_right [] (s ∷ path) = never (λ h. h)
segments_right (AnySegments ∷ pattern) path = skips_right (λ rest. matches_segments pattern rest) (λ rest. MatchesSegments pattern rest) (segments_right pattern) path
segments_right (Parts parts ∷ pattern) [] = never (λ h. h)
segments_right (Parts parts ∷ pattern) (s ∷ path) = Decides-and (matches_bytes parts s) (matches_segments pattern path) (bytes_right parts s) (segments_right pattern path)

are_bytes_right : (parts : List Part) (bytes : List ℕ) → Decides (are_bytes parts bytes) (parts ≡ byte_parts bytes)
are_bytes_right [] [] = always refl
are_bytes_right [] (b ∷ bytes) = never (λ h. let z : [] ≡ Byte b ∷ byte_parts bytes = h in cc)
are_bytes_right (Byte c ∷ parts) [] = never (λ h. let z : Byte c ∷ parts ≡ [] = h in cc)
are_bytes_right (Byte c ∷ parts) (b ∷ bytes) =
    Decides-like ((c == b) && are_bytes parts bytes)
    (λ h. ap (λ x. Byte x ∷ parts) h.0 ∙ ap (λ l. Byte b ∷ l) h.1)
    (λ h. let z : Byte c ∷ parts ≡ Byte b ∷ byte_parts bytes = h in let first : c ≡ b = cc in let rest : parts ≡ byte_parts bytes = cc in (first, rest))
    (Decides-and (c == b) (are_bytes parts bytes) (Decides-eqb c b) (are_bytes_right parts bytes))
are_bytes_right (AnyBytes ∷ parts) [] = never (λ h. let z : AnyBytes ∷ parts ≡ [] = h in cc)
are_bytes_right (AnyBytes ∷ parts) (b ∷ bytes) = never (λ h. let z : AnyBytes ∷ parts ≡ Byte b ∷ byte_parts bytes = h in cc)
are_bytes_right (AnyByte ∷ parts) [] = never (λ h. let z : AnyByte ∷ parts ≡ [] = h in cc)
are_bytes_right (AnyByte ∷ parts) (b ∷ bytes) = never (λ h. let z : AnyByte ∷ parts ≡ Byte b ∷ byte_parts bytes = h in cc)
are_bytes_right (Set held ∷ parts) [] = never (λ h. let z : Set held ∷ parts ≡ [] = h in cc)
are_bytes_right (Set held ∷ parts) (b ∷ bytes) = never (λ h. let z : Set held ∷ parts ≡ Byte b ∷ byte_parts bytes = h in cc)
are_bytes_right (Alternatives names ∷ parts) [] = never (λ h. let z : Alternatives names ∷ parts ≡ [] = h in cc)
are_bytes_right (Alternatives names ∷ parts) (b ∷ bytes) = never (λ h. let z : Alternatives names ∷ parts ≡ Byte b ∷ byte_parts bytes = h in cc)

literal_right : (pattern : List Segment) (path : List (List ℕ)) → Decides (is_literal pattern path) (pattern ≡ literal_of path)
literal_right [] [] = always refl
literal_right [] (s ∷ path) = never (λ h. let z : [] ≡ literal_segment s ∷ literal_of path = h in cc)
literal_right (AnySegments ∷ pattern) [] = never (λ h. let z : AnySegments ∷ pattern ≡ [] = h in cc)
literal_right (AnySegments ∷ pattern) (s ∷ path) = never (λ h. let z : AnySegments ∷ pattern ≡ Parts (byte_parts s) ∷ literal_of path = h in cc)
literal_right (Parts parts ∷ pattern) [] = never (λ h. let z : Parts parts ∷ pattern ≡ [] = h in cc)
literal_right (Parts parts ∷ pattern) (s ∷ path) =
    Decides-like (are_bytes parts s && is_literal pattern path)
    (λ h. ap (λ x. Parts x ∷ pattern) h.0 ∙ ap (λ l. Parts (byte_parts s) ∷ l) h.1)
    (λ h. let z : Parts parts ∷ pattern ≡ Parts (byte_parts s) ∷ literal_of path = h in let first : parts ≡ byte_parts s = cc in let rest : pattern ≡ literal_of path = cc in (first, rest))
    (Decides-and (are_bytes parts s) (is_literal pattern path) (are_bytes_right parts s) (literal_right pattern path))

pub match_test_is_right : MatchTestIsRight
match_test_is_right pattern path =
    cond_right (is_inner path) (is_literal pattern path) (matches_segments pattern path) (literal_right pattern path) (segments_right pattern path)
