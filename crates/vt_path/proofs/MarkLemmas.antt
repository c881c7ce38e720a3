use Rattle.std.proofs.Common.{◌≡◌, ℕ, ◌+◌, ◌<◌, ◌≤◌, List, [], ◌∷◌, ◌++◌, length, drop, get_or, refl, sym, ◌∙◌, ap, subst, inl, inr, ◌⊎◌, arith, suc, ◌↔◌, Bool, true, false, ◌||◌, length-append, zero, ◌-◌, take, eqb}
use Rattle.std.proofs.lemmas.Bool.{or_cases, or_left, or_right, cases_lt}
use Rattle.std.proofs.lemmas.List.{drop_more, drop_all, drop-drop, drop_at, length-drop, take_rest, get_or_read, get_or_default}
use Rattle.std.proofs.lemmas.Bool.Decides.{Decides-eqb}
use Rattle.std.proofs.lemmas.Slice.Eq.{starts_is}
use Rattle.std.specs.Cmp.Lexicographic.{pointwise}
use Rattle.vt_path.specs.Match.{Skips, MatchesBytes, MatchesSegments}
use Rattle.vt_path.specs.private.Marks.{mark, IsMarked, TakesByte, TakesOne, SomeName}
use Rattle.vt_path.specs.declared.pattern.Segment.{Segment}
use Rattle.vt_path.specs.declared.pattern.Segment.TheVariants.{Parts}
use Rattle.vt_path.specs.declared.pattern.Part.{Part}
use Rattle.vt_path.specs.declared.pattern.Part.TheVariants.{Byte, AnyBytes, AnyByte, Set, Alternatives}

-- along an equation of lists
along : {X : Type 0} (Goes : List X → Type 0) (xs ys : List X) (b : Bool) → xs ≡ ys → (b ≡ true) ↔ Goes ys → (b ≡ true) ↔ Goes xs
along Goes xs ys b e h = (λ t. subst Goes (sym e) (h.0 t), λ g. h.1 (subst Goes e g))

pub marks_skip : {X : Type 0} (d : X) (Goes : List X → Type 0) (xs : List X) (old new : List Bool) → IsMarked Goes xs old
    → mark new (length xs) ≡ mark old (length xs) → ((i : ℕ) → i < length xs → mark new i ≡ mark old i || mark new (i + 1))
    → IsMarked (λ ys. Skips Goes ys) xs new
marks_skip {X} d Goes xs old new marked last each i less = go (length xs - i) i (omega arith) where
  go : (m i : ℕ) → i + m ≡ length xs → (mark new i ≡ true) ↔ Skips Goes (drop i xs)
  go zero i e =
      let none : drop i xs ≡ [] = drop_all i xs (omega arith) in
      let at : i ≡ length xs = omega arith in
      let h : (mark old i ≡ true) ↔ Goes (drop i xs) = marked i (omega arith) in
      let same : mark new i ≡ mark old i = ap (λ k. mark new k) at ∙ (last ∙ ap (λ k. mark old k) (sym at)) in
      along (λ ys. Skips Goes ys) (drop i xs) [] (mark new i) none
      ((λ t. subst Goes none (h.0 (sym same ∙ t))), (λ g. same ∙ h.1 (subst Goes (sym none) g)))
  go (suc m) i e =
      let less : i < length xs = omega arith in
      let next : drop i xs ≡ get_or xs i d ∷ drop (i + 1) xs = drop_more xs i d less in
      let h : (mark old i ≡ true) ↔ Goes (drop i xs) = marked i (omega arith) in
      let more : (mark new (i + 1) ≡ true) ↔ Skips Goes (drop (i + 1) xs) = go m (i + 1) (omega arith) in
      let same : mark new i ≡ mark old i || mark new (i + 1) = each i less in
      along (λ ys. Skips Goes ys) (drop i xs) (get_or xs i d ∷ drop (i + 1) xs) (mark new i) next (
        (λ t. cases i (or_cases (mark old i) (mark new (i + 1)) (sym same ∙ t)) h more next),
        (λ g. same ∙ back i g h more next),
      ) where
        cases : (i : ℕ) → (mark old i ≡ true) ⊎ (mark new (i + 1) ≡ true) → (mark old i ≡ true) ↔ Goes (drop i xs) → (mark new (i + 1) ≡ true) ↔ Skips Goes (drop (i + 1) xs)
            → drop i xs ≡ get_or xs i d ∷ drop (i + 1) xs → Goes (get_or xs i d ∷ drop (i + 1) xs) ⊎ Skips Goes (drop (i + 1) xs)
        cases i (inl t) h more next = inl (subst Goes next (h.0 t))
        cases i (inr t) h more next = inr (more.0 t)

        back : (i : ℕ) → Goes (get_or xs i d ∷ drop (i + 1) xs) ⊎ Skips Goes (drop (i + 1) xs) → (mark old i ≡ true) ↔ Goes (drop i xs)
            → (mark new (i + 1) ≡ true) ↔ Skips Goes (drop (i + 1) xs) → drop i xs ≡ get_or xs i d ∷ drop (i + 1) xs → (mark old i || mark new (i + 1)) ≡ true
        back i (inl g) h more next = or_left (mark old i) (mark new (i + 1)) (h.1 (subst Goes (sym next) g))
        back i (inr s) h more next = or_right (mark old i) (mark new (i + 1)) (more.1 s)

-- a part that takes one byte
one_byte : (p : Part) (ps : List Part) (b : ℕ) (bs : List ℕ) → TakesOne p → MatchesBytes (p ∷ ps) (b ∷ bs) ↔ (TakesByte p b × MatchesBytes ps bs)
one_byte (Byte c) ps b bs one = (λ h. (h.0, h.1), λ h. (h.0, h.1))
one_byte AnyBytes ps b bs one = absurd one
one_byte AnyByte ps b bs one = (λ h. (tt, h), λ h. h.1)
one_byte (Set held) ps b bs one = (λ h. (h.0, h.1), λ h. (h.0, h.1))
one_byte (Alternatives names) ps b bs one = absurd one

no_byte : (p : Part) (ps : List Part) → TakesOne p → MatchesBytes (p ∷ ps) [] → ⊥
no_byte (Byte c) ps one h = h
no_byte AnyBytes ps one h = one
no_byte AnyByte ps one h = h
no_byte (Set held) ps one h = h
no_byte (Alternatives names) ps one h = one

pub marks_one : (p : Part) (ps : List Part) (bytes : List ℕ) (old new : List Bool) → TakesOne p → IsMarked (MatchesBytes ps) bytes old
    → mark new (length bytes) ≡ false → ((i : ℕ) → i < length bytes → (mark new i ≡ true) ↔ (TakesByte p (get_or bytes i 0) × (mark old (i + 1) ≡ true)))
    → IsMarked (MatchesBytes (p ∷ ps)) bytes new
marks_one p ps bytes old new one marked end each i less = go (cases_lt i (length bytes)) where
  go : (i < length bytes) ⊎ (length bytes ≤ i) → (mark new i ≡ true) ↔ MatchesBytes (p ∷ ps) (drop i bytes)
  go (inl below) =
      let next : drop i bytes ≡ get_or bytes i 0 ∷ drop (i + 1) bytes = drop_more bytes i 0 below in
      let h = each i below in
      let m : (mark old (i + 1) ≡ true) ↔ MatchesBytes ps (drop (i + 1) bytes) = marked (i + 1) (omega arith) in
      let o = one_byte p ps (get_or bytes i 0) (drop (i + 1) bytes) one in
      along (MatchesBytes (p ∷ ps)) (drop i bytes) (get_or bytes i 0 ∷ drop (i + 1) bytes) (mark new i) next
      ((λ t. let s = h.0 t in o.1 (s.0, m.0 s.1)), (λ g. let s = o.0 g in h.1 (s.0, m.1 s.1)))
  go (inr above) =
      let none : drop i bytes ≡ [] = drop_all i bytes above in
      let at : i ≡ length bytes = omega arith in
      let off : mark new i ≡ false = ap (λ k. mark new k) at ∙ end in
      along (MatchesBytes (p ∷ ps)) (drop i bytes) [] (mark new i) none
      ((λ t. absurd (let z : false ≡ true = sym off ∙ t in cc)), (λ g. absurd (no_byte p ps one g)))

pub marks_names : (names : List (List ℕ)) (ps : List Part) (bytes : List ℕ) (old new : List Bool) → IsMarked (MatchesBytes ps) bytes old
    → ((i : ℕ) → i ≤ length bytes → (mark new i ≡ true) ↔ SomeName names bytes old i)
    → IsMarked (MatchesBytes (Alternatives names ∷ ps)) bytes new
marks_names names ps bytes old new marked each i less =
    let h = each i less in (λ t. go (h.0 t), λ g. h.1 (back g)) where
      after : (name rest : List ℕ) → drop i bytes ≡ name ++ rest → (i + length name ≤ length bytes) × (drop (i + length name) bytes ≡ rest)
      after name rest e =
          let n : length (drop i bytes) ≡ length bytes - i = length-drop i bytes in
          let m : length (name ++ rest) ≡ length name + length rest = length-append name rest in
          let k : length (drop i bytes) ≡ length (name ++ rest) = ap length e in
          (omega arith, sym (drop-drop (length name) i bytes) ∙ (ap (λ x. drop (length name) x) e ∙ drop_at name rest (length name) refl))

      go : SomeName names bytes old i → MatchesBytes (Alternatives names ∷ ps) (drop i bytes)
      go s =
          let a = after s.0 s.1 s.3 in
          (s.0, s.1, s.2, s.3, subst (MatchesBytes ps) a.1 ((marked (i + length s.0) a.0).0 s.4))

      back : MatchesBytes (Alternatives names ∷ ps) (drop i bytes) → SomeName names bytes old i
      back s =
          let a = after s.0 s.1 s.3 in
          (s.0, s.1, s.2, s.3, (marked (i + length s.0) a.0).1 (subst (MatchesBytes ps) (sym a.1) s.4))

-- with no part only the end is marked
pub marks_end : (bytes : List ℕ) (new : List Bool) → mark new (length bytes) ≡ true → ((i : ℕ) → i < length bytes → mark new i ≡ false)
    → IsMarked (MatchesBytes []) bytes new
marks_end bytes new end before i less = go (cases_lt i (length bytes)) where
  go : (i < length bytes) ⊎ (length bytes ≤ i) → (mark new i ≡ true) ↔ MatchesBytes [] (drop i bytes)
  go (inl below) =
      let next : drop i bytes ≡ get_or bytes i 0 ∷ drop (i + 1) bytes = drop_more bytes i 0 below in
      let off = before i below in
      along (MatchesBytes []) (drop i bytes) (get_or bytes i 0 ∷ drop (i + 1) bytes) (mark new i) next
      ((λ t. absurd (let z : false ≡ true = sym off ∙ t in cc)), (λ g. absurd g))
  go (inr above) =
      let none : drop i bytes ≡ [] = drop_all i bytes above in
      let at : i ≡ length bytes = omega arith in
      along (MatchesBytes []) (drop i bytes) [] (mark new i) none ((λ _. tt), (λ _. ap (λ k. mark new k) at ∙ end))

-- the first of a list, and the others
pub first_of : {X : Type 0} (xs : List X) (x : X) → 0 < length xs → x ≡ get_or xs 0 x → xs ≡ x ∷ drop 1 xs
first_of [] x some e = absurd (omega arith)
first_of (y ∷ ys) x some e = ap (λ z. z ∷ ys) (sym e)

pub marked_along : (qs ps : List Part) (bytes : List ℕ) (new : List Bool) → ps ≡ qs → IsMarked (MatchesBytes qs) bytes new → IsMarked (MatchesBytes ps) bytes new
marked_along qs ps bytes new e h = let P : List Part → Type 0 = λ x. IsMarked (MatchesBytes x) bytes new in subst P (sym e) h

-- the parts from one before on, without their first
pub parts_after : (parts : List Part) (k : ℕ) → 0 < k → drop 1 (take (length parts - (k - 1)) (drop (k - 1) parts)) ≡ drop k parts
parts_after parts k some =
    ap (λ x. drop 1 x) (take_rest parts (k - 1)) ∙ (drop-drop 1 (k - 1) parts ∙ ap (λ n. drop n parts) (let e : k - 1 + 1 ≡ k = omega arith in e))

-- what the test of a name at a place says
pub prefix_is : (bytes : List ℕ) (i : ℕ) (name p : List ℕ) (r : Bool) → p ≡ name → r ≡ pointwise eqb p (take (length p) (take (length bytes - i) (drop i bytes)))
    → (r ≡ true → drop i bytes ≡ name ++ drop (length name) (drop i bytes)) × ((rest : List ℕ) → drop i bytes ≡ name ++ rest → r ≡ true)
prefix_is bytes i name p r same e =
    let whole : take (length bytes - i) (drop i bytes) ≡ drop i bytes = take_rest bytes i in
    let f : r ≡ pointwise eqb name (take (length name) (drop i bytes)) =
    e ∙ (ap (λ x. pointwise eqb p (take (length p) x)) whole ∙ ap (λ x. pointwise eqb x (take (length x) (drop i bytes))) same) in
    starts_is Decides-eqb (drop i bytes) name r f

pub name_found : (names : List (List ℕ)) (bytes : List ℕ) (marks : List Bool) (i k n : ℕ) (name p : List ℕ) (r : Bool) → k < length names → name ≡ get_or names k name
    → p ≡ name → r ≡ pointwise eqb p (take (length p) (take (length bytes - i) (drop i bytes))) → r ≡ true → n ≡ length name → mark marks (i + n) ≡ true
    → SomeName names bytes marks i
name_found names bytes marks i k n name p r less is same e found size marked =
    let f = prefix_is bytes i name p r same e in
    (name, drop (length name) (drop i bytes), (k, less, sym is), f.0 found, ap (λ m. mark marks (i + m)) (sym size) ∙ marked)

-- one name more that does not serve
pub names_more : (names : List (List ℕ)) (bytes : List ℕ) (marks : List Bool) (i at : ℕ) (name : List ℕ) → at < length names → name ≡ get_or names at name
    → ((k : ℕ) → k < at → (rest : List ℕ) → drop i bytes ≡ get_or names k [] ++ rest → mark marks (i + length (get_or names k [])) ≡ true → ⊥)
    → ((rest : List ℕ) → drop i bytes ≡ name ++ rest → mark marks (i + length name) ≡ true → ⊥)
    → (k : ℕ) → k < at + 1 → (rest : List ℕ) → drop i bytes ≡ get_or names k [] ++ rest → mark marks (i + length (get_or names k [])) ≡ true → ⊥
names_more names bytes marks i at name less is before here k below rest e m = go (cases_lt k at) where
  go : (k < at) ⊎ (at ≤ k) → ⊥
  go (inl l) = before k l rest e m
  go (inr l) =
      let eq : k ≡ at = omega arith in
      let own : get_or names k [] ≡ name = ap (λ j. get_or names j []) eq ∙ sym (get_or_read names at name less is []) in
      here rest (e ∙ ap (λ x. x ++ rest) own) (ap (λ x. mark marks (i + length x)) (sym own) ∙ m)

-- no name serves
pub no_name : (names : List (List ℕ)) (bytes : List ℕ) (marks : List Bool) (i at : ℕ) → length names ≤ at
    → ((k : ℕ) → k < at → (rest : List ℕ) → drop i bytes ≡ get_or names k [] ++ rest → mark marks (i + length (get_or names k [])) ≡ true → ⊥)
    → SomeName names bytes marks i → ⊥
no_name names bytes marks i at all none s =
    let k : ℕ = s.2.0 in
    let less : k < length names = s.2.1 in
    let own : get_or names k [] ≡ s.0 = get_or_default names k [] s.0 less ∙ s.2.2 in
    none k (omega arith) s.1 (s.3 ∙ ap (λ x. x ++ s.1) (sym own)) (ap (λ x. mark marks (i + length x)) own ∙ s.4)

-- one segment of the pattern that takes one of the path
pub marks_parts : (parts : List Part) (pattern : List Segment) (path : List (List ℕ)) (old new : List Bool) → IsMarked (MatchesSegments pattern) path old
    → mark new (length path) ≡ false → ((i : ℕ) → i < length path → (mark new i ≡ true) ↔ (MatchesBytes parts (get_or path i []) × (mark old (i + 1) ≡ true)))
    → IsMarked (MatchesSegments (Parts parts ∷ pattern)) path new
marks_parts parts pattern path old new marked end each i less = go (cases_lt i (length path)) where
  go : (i < length path) ⊎ (length path ≤ i) → (mark new i ≡ true) ↔ MatchesSegments (Parts parts ∷ pattern) (drop i path)
  go (inl below) =
      let next : drop i path ≡ get_or path i [] ∷ drop (i + 1) path = drop_more path i [] below in
      let h = each i below in
      let m : (mark old (i + 1) ≡ true) ↔ MatchesSegments pattern (drop (i + 1) path) = marked (i + 1) (omega arith) in
      along (MatchesSegments (Parts parts ∷ pattern)) (drop i path) (get_or path i [] ∷ drop (i + 1) path) (mark new i) next
      ((λ t. let s = h.0 t in (s.0, m.0 s.1)), (λ g. h.1 (g.0, m.1 g.1)))
  go (inr above) =
      let none : drop i path ≡ [] = drop_all i path above in
      let at : i ≡ length path = omega arith in
      let off : mark new i ≡ false = ap (λ k. mark new k) at ∙ end in
      along (MatchesSegments (Parts parts ∷ pattern)) (drop i path) [] (mark new i) none
      ((λ t. absurd (let z : false ≡ true = sym off ∙ t in cc)), (λ g. absurd g))

-- with no segment only the end is marked
pub segment_marks_end : (path : List (List ℕ)) (new : List Bool) → mark new (length path) ≡ true → ((i : ℕ) → i < length path → mark new i ≡ false)
    → IsMarked (MatchesSegments []) path new
segment_marks_end path new end before i less = go (cases_lt i (length path)) where
  go : (i < length path) ⊎ (length path ≤ i) → (mark new i ≡ true) ↔ MatchesSegments [] (drop i path)
  go (inl below) =
      let next : drop i path ≡ get_or path i [] ∷ drop (i + 1) path = drop_more path i [] below in
      let off = before i below in
      along (MatchesSegments []) (drop i path) (get_or path i [] ∷ drop (i + 1) path) (mark new i) next
      ((λ t. absurd (let z : false ≡ true = sym off ∙ t in cc)), (λ g. absurd g))
  go (inr above) =
      let none : drop i path ≡ [] = drop_all i path above in
      let at : i ≡ length path = omega arith in
      along (MatchesSegments []) (drop i path) [] (mark new i) none ((λ _. tt), (λ _. ap (λ k. mark new k) at ∙ end))

pub segments_along : (qs ps : List Segment) (path : List (List ℕ)) (new : List Bool) → ps ≡ qs → IsMarked (MatchesSegments qs) path new → IsMarked (MatchesSegments ps) path new
segments_along qs ps path new e h = let P : List Segment → Type 0 = λ x. IsMarked (MatchesSegments x) path new in subst P (sym e) h

-- the segments from one before on, without their first
pub segments_after : (pattern : List Segment) (k : ℕ) → 0 < k → drop 1 (take (length pattern - (k - 1)) (drop (k - 1) pattern)) ≡ drop k pattern
segments_after pattern k some =
    ap (λ x. drop 1 x) (take_rest pattern (k - 1)) ∙ (drop-drop 1 (k - 1) pattern ∙ ap (λ n. drop n pattern) (let e : k - 1 + 1 ≡ k = omega arith in e))
