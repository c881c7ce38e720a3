-- Patterns that stand for their bytes, and the pattern of a name.
use Rattle.std.proofs.Common.{◌≡◌, ℕ, ◌+◌, ◌<◌, ◌≤◌, List, [], ◌∷◌, ◌++◌, length, refl, sym, ◌∙◌, ap, subst, inl, inr, ◌⊎◌, arith, append_assoc, lit≤, lit<, get_or, take, ◌↔◌, Bool, true, false}
use Rattle.std.specs.List.{All, AllByRecursion, flat_map}
use Rattle.std.specs.Prelude.{codes, IsTrue}
use Rattle.std.specs.Bool.{MatchBool}
use Rattle.std.proofs.lemmas.List.{length-map, append-nil, take_more, length-take-le}
use Rattle.std.proofs.lemmas.List.Elements.{All-cons, All-weaker, All-map, All-from_recursion}
use Rattle.std.proofs.lemmas.Grind.{flat_map-append}
use Rattle.std.proofs.Math.Logic.{∥∥₁_map}
use Rattle.vt_frac.specs.Names.{is_symbol_name}
use Rattle.vt_path.specs.AnyOf.{any_of_name, any_of_text}
use Rattle.vt_path.specs.Byte.{IsPathByte}
use Rattle.vt_path.specs.Path.{IsPath, IsSegment}
use Rattle.vt_path.specs.Pattern.{IsPattern, IsPatternSegment, IsPart, IsWord, AreParts, parts_text, pattern_text, names_text}
use Rattle.vt_path.specs.Match.{Matches, MatchesBytes, MatchesSegments, byte_parts, literal_segment, literal_of, is_inner}
use Rattle.vt_path.specs.Inner.{IsInner}
use Rattle.vt_path.specs.Kept.{IsKeptPath}
use Rattle.vt_path.specs.KeptPattern.{IsKeptPattern}
use Rattle.vt_path.specs.declared.pattern.Segment.{Segment}
use Rattle.vt_path.specs.declared.pattern.Segment.TheVariants.{Parts}
use Rattle.vt_path.specs.declared.pattern.Part.TheVariants.{Byte, AnyBytes, Alternatives}
use Rattle.vt_path.proofs.NameLemmas.{symbol_segment}

-- parts that are bytes are written as these
pub parts_text-bytes : (bytes : List ℕ) → parts_text (byte_parts bytes) ≡ bytes
parts_text-bytes [] = refl
parts_text-bytes (b ∷ bytes) = ap (λ x. b ∷ x) (parts_text-bytes bytes)

not_stars : (bytes : List ℕ) → byte_parts bytes ≡ AnyBytes ∷ AnyBytes ∷ [] → ⊥
not_stars [] e = let z : [] ≡ AnyBytes ∷ AnyBytes ∷ [] = e in cc
not_stars (b ∷ bytes) e = let z : Byte b ∷ byte_parts bytes ≡ AnyBytes ∷ AnyBytes ∷ [] = e in cc

byte_parts_good : (s : List ℕ) → IsSegment s → AreParts (byte_parts s)
byte_parts_good s good = record {
  nonempty = (let n : length (byte_parts s) ≡ length s = length-map s (λ byte. Byte byte) in let h = good.nonempty in omega arith);
  each = All-map IsPart (λ byte. Byte byte) s good.bytes;
  short = (let n : length (parts_text (byte_parts s)) ≡ length s = ap length (parts_text-bytes s) in let h = good.short in omega arith);
  not_any = not_stars s;
}

literal_good : (path : List (List ℕ)) → IsPath path → IsPattern (literal_of path)
literal_good path good =
    let n : length (literal_of path) ≡ length path = length-map path literal_segment in
    record {
      nonempty = (let h = good.nonempty in omega arith);
      few = (let h = good.few in omega arith);
      segments = All-map IsPatternSegment literal_segment path (All-weaker IsSegment (λ s. AreParts (byte_parts s)) byte_parts_good path good.segments);
    }

-- the literal pattern of a path is one of a program
pub kept_literal : (path : List (List ℕ)) → IsKeptPath path → IsKeptPattern (literal_of path)
kept_literal path kept = ∥∥₁_map kept.form (go path) where
  go : (path : List (List ℕ)) → IsPath path ⊎ IsInner path → IsPattern (literal_of path) ⊎ ((p : List (List ℕ)) × IsInner p × (literal_of path ≡ literal_of p))
  go path (inl good) = inl (literal_good path good)
  go path (inr inner) = inr (path, inner, refl)

-- a pattern that a user writes is one of a program
pub kept_pattern : (pattern : List Segment) → IsPattern pattern → IsKeptPattern pattern
kept_pattern pattern good = ∣ inl good ∣₁

byte_parts_same : (xs ys : List ℕ) → byte_parts xs ≡ byte_parts ys → xs ≡ ys
byte_parts_same [] [] e = refl
byte_parts_same [] (y ∷ ys) e = absurd (let z : [] ≡ Byte y ∷ byte_parts ys = e in cc)
byte_parts_same (x ∷ xs) [] e = absurd (let z : Byte x ∷ byte_parts xs ≡ [] = e in cc)
byte_parts_same (x ∷ xs) (y ∷ ys) e =
    let z : Byte x ∷ byte_parts xs ≡ Byte y ∷ byte_parts ys = e in
    let a : x ≡ y = cc in
    let b : byte_parts xs ≡ byte_parts ys = cc in
    ap (λ v. v ∷ xs) a ∙ ap (λ v. y ∷ v) (byte_parts_same xs ys b)

pub literal_same : (xs ys : List (List ℕ)) → literal_of xs ≡ literal_of ys → xs ≡ ys
literal_same [] [] e = refl
literal_same [] (y ∷ ys) e = absurd (let z : [] ≡ literal_segment y ∷ literal_of ys = e in cc)
literal_same (x ∷ xs) [] e = absurd (let z : literal_segment x ∷ literal_of xs ≡ [] = e in cc)
literal_same (x ∷ xs) (y ∷ ys) e =
    let z : Parts (byte_parts x) ∷ literal_of xs ≡ Parts (byte_parts y) ∷ literal_of ys = e in
    let a : byte_parts x ≡ byte_parts y = cc in
    let b : literal_of xs ≡ literal_of ys = cc in
    ap (λ v. v ∷ xs) (byte_parts_same x y a) ∙ ap (λ v. y ∷ v) (literal_same xs ys b)

pub bytes_match : (xs ys : List ℕ) → MatchesBytes (byte_parts xs) ys ↔ (ys ≡ xs)
bytes_match [] [] = (λ _. refl, λ _. tt)
bytes_match [] (y ∷ ys) = (λ h. absurd h, λ e. absurd (let z : y ∷ ys ≡ [] = e in cc))
bytes_match (x ∷ xs) [] = (λ h. absurd h, λ e. absurd (let z : [] ≡ x ∷ xs = e in cc))
bytes_match (x ∷ xs) (y ∷ ys) =
    let h = bytes_match xs ys in (
      λ m. ap (λ v. v ∷ ys) m.0 ∙ ap (λ v. x ∷ v) (h.0 m.1),
      λ e. let z : y ∷ ys ≡ x ∷ xs = e in let a : y ≡ x = cc in let b : ys ≡ xs = cc in (a, h.1 b),
    )

segments_match : (path other : List (List ℕ)) → MatchesSegments (literal_of path) other ↔ (other ≡ path)
segments_match [] [] = (λ _. refl, λ _. tt)
segments_match [] (y ∷ ys) = (λ h. absurd h, λ e. absurd (let z : y ∷ ys ≡ [] = e in cc))
segments_match (x ∷ xs) [] = (λ h. absurd h, λ e. absurd (let z : [] ≡ x ∷ xs = e in cc))
segments_match (x ∷ xs) (y ∷ ys) =
    let h = segments_match xs ys in
    let g = bytes_match x y in (
      λ m. ap (λ v. v ∷ ys) (g.0 m.0) ∙ ap (λ v. x ∷ v) (h.0 m.1),
      λ e. let z : y ∷ ys ≡ x ∷ xs = e in let a : y ≡ x = cc in let b : ys ≡ xs = cc in (g.1 a, h.1 b),
    )

-- a literal pattern matches its path alone
pub literal_alone : (path other : List (List ℕ)) → Matches (literal_of path) other ↔ (other ≡ path)
literal_alone path other = go (is_inner other) refl where
  go : (b : Bool) → is_inner other ≡ b → MatchBool (is_inner other) (literal_of path ≡ literal_of other) (MatchesSegments (literal_of path) other) ↔ (other ≡ path)
  go true e = rw e (λ h. sym (literal_same path other h), λ h. ap literal_of (sym h))
  go false e = rw e (segments_match path other)

letter : (b : ℕ) → 97 ≤ b → b ≤ 122 → IsPathByte b
unfolding IsPathByte
letter b low high = inr (inr (inl (low, high)))

underscore : IsPathByte 95
unfolding IsPathByte
underscore = inr (inr (inr (inl refl)))

word_of : (word : List ℕ) → 0 < length word → AllByRecursion IsPathByte word → IsWord word
word_of word some each = record { nonempty = some; bytes = All-from_recursion IsPathByte word each }

cue_word : IsWord (codes "cue")
cue_word = word_of (codes "cue") (lit< tt) (letter 99 (lit≤ tt) (lit≤ tt), (letter 117 (lit≤ tt) (lit≤ tt), (letter 101 (lit≤ tt) (lit≤ tt), tt)))

set_word : IsWord (codes "set")
set_word = word_of (codes "set") (lit< tt) (letter 115 (lit≤ tt) (lit≤ tt), (letter 101 (lit≤ tt) (lit≤ tt), (letter 116 (lit≤ tt) (lit≤ tt), tt)))

live_loop_word : IsWord (codes "live_loop")
live_loop_word =
    word_of (codes "live_loop") (lit< tt) (
      letter 108 (lit≤ tt) (lit≤ tt),
      (
        letter 105 (lit≤ tt) (lit≤ tt),
        (
          letter 118 (lit≤ tt) (lit≤ tt),
          (
            letter 101 (lit≤ tt) (lit≤ tt),
            (
              underscore,
              (letter 108 (lit≤ tt) (lit≤ tt), (letter 111 (lit≤ tt) (lit≤ tt), (letter 111 (lit≤ tt) (lit≤ tt), (letter 112 (lit≤ tt) (lit≤ tt), tt)))),
            ),
          ),
        ),
      ),
    )

kinds : List (List ℕ)
kinds = codes "cue" ∷ codes "set" ∷ codes "live_loop" ∷ []

kinds_part : AreParts (Alternatives kinds ∷ [])
unfolding kinds
kinds_part = record {
  nonempty = lit< tt;
  each = All-from_recursion IsPart (Alternatives kinds ∷ []) ((lit< tt, All-from_recursion IsWord kinds (cue_word, (set_word, (live_loop_word, tt)))), tt);
  short = lit≤ tt;
  not_any = λ e. let z : Alternatives kinds ∷ [] ≡ AnyBytes ∷ AnyBytes ∷ [] = e in cc;
}

pub any_of_good : (name : List ℕ) → IsTrue (is_symbol_name name) → IsPattern (any_of_name name)
unfolding kinds
any_of_good name symbol = record {
  nonempty = lit< tt;
  few = lit≤ tt;
  segments = All-from_recursion IsPatternSegment (any_of_name name) (kinds_part, (byte_parts_good name (symbol_segment name symbol), tt));
}

pub any_of_written : (name : List ℕ) → pattern_text (any_of_name name) ≡ any_of_text ++ name
any_of_written name = ap (λ x. any_of_text ++ x) (append-nil (parts_text (byte_parts name)) ∙ parts_text-bytes name)

-- one name more
pub names_text-push : (names : List (List ℕ)) (name : List ℕ) → 0 < length names → names_text (names ++ name ∷ []) ≡ names_text names ++ 44 ∷ name
names_text-push [] name some = absurd (omega arith)
names_text-push (n ∷ ns) name some =
    ap (λ x. n ++ x) (flat_map-append (λ (other : List ℕ). 44 ∷ other) ns (name ∷ []) ∙ ap (λ x. flat_map (λ other. 44 ∷ other) ns ++ x) (append-nil (44 ∷ name)))
    ∙ sym (append_assoc n (flat_map (λ other. 44 ∷ other) ns) (44 ∷ name))

-- the names up to one more
pub names_step : (names : List (List ℕ)) (i : ℕ) (name text mid new : List ℕ) → i < length names → name ≡ get_or names i name → text ≡ names_text (take i names)
    → ((0 < i) × (mid ≡ text ++ 44 ∷ [])) ⊎ ((i ≡ 0) × (mid ≡ text)) → new ≡ mid ++ name → new ≡ names_text (take (i + 1) names)
names_step names i name text mid new less is kept cases e =
    let more : take (i + 1) names ≡ take i names ++ get_or names i name ∷ [] = take_more names i name less in
    let more' : take (i + 1) names ≡ take i names ++ name ∷ [] = more ∙ ap (λ x. take i names ++ x ∷ []) (sym is) in
    go cases more' where
      go : ((0 < i) × (mid ≡ text ++ 44 ∷ [])) ⊎ ((i ≡ 0) × (mid ≡ text)) → take (i + 1) names ≡ take i names ++ name ∷ [] → new ≡ names_text (take (i + 1) names)
      go (inl h) more =
          let n : length (take i names) ≡ i = length-take-le i names (omega arith) in
          let some = h.0 in
          e ∙ (ap (λ x. x ++ name) h.1 ∙ (append_assoc text (44 ∷ []) name ∙ (ap (λ x. x ++ 44 ∷ name) kept
          ∙ (sym (names_text-push (take i names) name (omega arith)) ∙ sym (ap names_text more)))))
      go (inr h) more =
          let none : take i names ≡ [] = ap (λ k. take k names) h.0 in
          let empty : text ≡ [] = kept ∙ ap names_text none in
          e ∙ (ap (λ x. x ++ name) (h.1 ∙ empty) ∙ (sym (append-nil name) ∙ (ap (λ x. names_text (x ++ name ∷ [])) (sym none) ∙ sym (ap names_text more))))
