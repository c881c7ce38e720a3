-- No two paths are written alike, and no two patterns.
use Rattle.std.proofs.Common.{◌≡◌, ℕ, ◌<◌, List, [], ◌∷◌, ◌++◌, length, refl, sym, ◌∙◌, ap, subst, arith, append_assoc}
use Rattle.std.specs.List.{All, flat_map}
use Rattle.std.proofs.lemmas.List.Elements.{All-head, All-tail}
use Rattle.vt_path.specs.Byte.{IsPathByte}
use Rattle.vt_path.specs.Path.{IsSegment, IsOnePath, path_text}
use Rattle.vt_path.specs.Pattern.{IsPatternSegment, IsPart, IsWord, IsOnePattern, parts_text, segment_text, pattern_text}
use Rattle.vt_path.specs.private.PatternReading.{parts_of}
use Rattle.vt_path.specs.declared.pattern.Segment.{Segment}
use Rattle.vt_path.specs.declared.pattern.Segment.TheVariants.{AnySegments, Parts}
use Rattle.vt_path.specs.declared.pattern.Part.{Part}
use Rattle.vt_path.specs.declared.pattern.Part.TheVariants.{Byte, AnyBytes, AnyByte, Set, Alternatives}
use Rattle.vt_path.proofs.ByteLemmas.{no_slash, no_closing_bracket, no_closing_brace, no_comma}
use Rattle.vt_path.proofs.PatternNext.{Next, next_of, segment_text-parts, good_parts}
use Rattle.vt_path.proofs.PatternReadsOn.{single, bracket, brace}

-- no path byte stands first
abbrev Ends : List ℕ → Type 0
Ends [] = Unit {0}
Ends (b ∷ bs) = IsPathByte b → ⊥

-- path bytes, and what stands after the last of them
prefix : (s t x y : List ℕ) → All IsPathByte s → All IsPathByte t → Ends x → Ends y → s ++ x ≡ t ++ y → (s ≡ t) × (x ≡ y)
prefix [] [] x y hs ht ex ey e = (refl, e)
prefix [] (c ∷ t) [] y hs ht ex ey e = absurd (let z : [] ≡ c ∷ (t ++ y) = e in cc)
prefix [] (c ∷ t) (b ∷ x) y hs ht ex ey e =
    let z : b ∷ x ≡ c ∷ (t ++ y) = e in
    let same : c ≡ b = cc in
    absurd (ex (subst IsPathByte same (All-head IsPathByte c t ht)))
prefix (b ∷ s) [] x [] hs ht ex ey e = absurd (let z : b ∷ (s ++ x) ≡ [] = e in cc)
prefix (b ∷ s) [] x (c ∷ y) hs ht ex ey e =
    let z : b ∷ (s ++ x) ≡ c ∷ y = e in
    let same : b ≡ c = cc in
    absurd (ey (subst IsPathByte same (All-head IsPathByte b s hs)))
prefix (b ∷ s) (c ∷ t) x y hs ht ex ey e =
    let z : b ∷ (s ++ x) ≡ c ∷ (t ++ y) = e in
    let same : b ≡ c = cc in
    let after : s ++ x ≡ t ++ y = cc in
    let h = prefix s t x y (All-tail IsPathByte b s hs) (All-tail IsPathByte c t ht) ex ey after in
    (ap (λ v. v ∷ s) same ∙ ap (λ v. c ∷ v) h.0, h.1)

path_ends : (path : List (List ℕ)) → Ends (path_text path)
path_ends [] = tt
path_ends (s ∷ ss) = no_slash 47 refl

same_path : (p q : List (List ℕ)) → All IsSegment p → All IsSegment q → path_text p ≡ path_text q → p ≡ q
same_path [] [] hp hq e = refl
same_path [] (t ∷ ts) hp hq e = absurd (let z : [] ≡ 47 ∷ (t ++ path_text ts) = e in cc)
same_path (s ∷ ss) [] hp hq e = absurd (let z : 47 ∷ (s ++ path_text ss) ≡ [] = e in cc)
same_path (s ∷ ss) (t ∷ ts) hp hq e =
    let z : 47 ∷ (s ++ path_text ss) ≡ 47 ∷ (t ++ path_text ts) = e in
    let after : s ++ path_text ss ≡ t ++ path_text ts = cc in
    let h = prefix s t (path_text ss) (path_text ts) (All-head IsSegment s ss hp).bytes (All-head IsSegment t ts hq).bytes (path_ends ss) (path_ends ts) after in
    ap (λ (v : List ℕ). v ∷ ss) h.0 ∙ ap (λ (v : List (List ℕ)). t ∷ v) (same_path ss ts (All-tail IsSegment s ss hp) (All-tail IsSegment t ts hq) h.1)

pub one_path : IsOnePath
one_path p q hp hq e = same_path p q hp.segments hq.segments e

-- the alternatives after the first, each with its comma, and the brace that ends them
abbrev others_text : List (List ℕ) → List ℕ → List ℕ
others_text names rest = flat_map (λ other. 44 ∷ other) names ++ 125 ∷ rest

others_end : (names : List (List ℕ)) (rest : List ℕ) → Ends (others_text names rest)
others_end [] rest = no_closing_brace 125 refl
others_end (n ∷ ns) rest = no_comma 44 refl

apart : (c d : ℕ) (x y : List ℕ) → c ≡ 125 → d ≡ 44 → c ∷ x ≡ d ∷ y → ⊥
apart c d x y is_brace is_comma e = let same : c ≡ d = cc in omega arith

after_first : (c d : ℕ) (x y : List ℕ) → c ∷ x ≡ d ∷ y → x ≡ y
after_first c d x y e = cc

same_others : (ns ms : List (List ℕ)) (x y : List ℕ) → All IsWord ns → All IsWord ms → others_text ns x ≡ others_text ms y → (ns ≡ ms) × (x ≡ y)
same_others [] [] x y hn hm e = (refl, after_first 125 125 x y e)
same_others [] (m ∷ ms) x y hn hm e = absurd (apart 125 44 x ((m ++ flat_map (λ other. 44 ∷ other) ms) ++ 125 ∷ y) refl refl e)
same_others (n ∷ ns) [] x y hn hm e = absurd (apart 125 44 y ((n ++ flat_map (λ other. 44 ∷ other) ns) ++ 125 ∷ x) refl refl (sym e))
same_others (n ∷ ns) (m ∷ ms) x y hn hm e =
    let after : (n ++ flat_map (λ other. 44 ∷ other) ns) ++ 125 ∷ x ≡ (m ++ flat_map (λ other. 44 ∷ other) ms) ++ 125 ∷ y =
    after_first 44 44 ((n ++ flat_map (λ other. 44 ∷ other) ns) ++ 125 ∷ x) ((m ++ flat_map (λ other. 44 ∷ other) ms) ++ 125 ∷ y) e in
    let words : n ++ others_text ns x ≡ m ++ others_text ms y =
    sym (append_assoc n (flat_map (λ other. 44 ∷ other) ns) (125 ∷ x)) ∙ (after ∙ append_assoc m (flat_map (λ other. 44 ∷ other) ms) (125 ∷ y)) in
    let h = prefix n m (others_text ns x) (others_text ms y) (All-head IsWord n ns hn).bytes (All-head IsWord m ms hm).bytes (others_end ns x) (others_end ms y) words in
    let g = same_others ns ms x y (All-tail IsWord n ns hn) (All-tail IsWord m ms hm) h.1 in
    (ap (λ (v : List ℕ). v ∷ ns) h.0 ∙ ap (λ (v : List (List ℕ)). m ∷ v) g.0, g.1)

-- one part more on both sides
with_first : (p : Part) (ps qs rest : List Part) (x y : List ℕ) → qs ≡ p ∷ rest → (ps ≡ rest) × (x ≡ y) → (p ∷ ps ≡ qs) × (x ≡ y)
with_first p ps qs rest x y e h = (ap (λ (v : List Part). p ∷ v) h.0 ∙ sym e, h.1)

rest_good : (p : Part) (qs rest : List Part) → qs ≡ p ∷ rest → All IsPart qs → All IsPart rest
rest_good p qs rest e h = All-tail IsPart p rest (subst (All IsPart) e h)

first_good : (p : Part) (qs rest : List Part) → qs ≡ p ∷ rest → All IsPart qs → IsPart p
first_good p qs rest e h = All-head IsPart p rest (subst (All IsPart) e h)

-- the text of parts and of the segments after them
abbrev text_of : List Part → List Segment → List ℕ
text_of parts segments = parts_text parts ++ pattern_text segments

same_parts : (ps qs : List Part) (ss ts : List Segment) → All IsPart ps → All IsPart qs → text_of ps ss ≡ text_of qs ts
    → (ps ≡ qs) × (pattern_text ss ≡ pattern_text ts)
same_parts [] qs [] ts hp hq e = none qs e where
  none : (qs : List Part) → [] ≡ text_of qs ts → ([] ≡ qs) × ([] ≡ pattern_text ts)
  none [] e = (refl, e)
  none (Byte b ∷ qs) e = absurd (let z : [] ≡ b ∷ text_of qs ts = e in cc)
  none (AnyBytes ∷ qs) e = absurd (let z : [] ≡ 42 ∷ text_of qs ts = e in cc)
  none (AnyByte ∷ qs) e = absurd (let z : [] ≡ 63 ∷ text_of qs ts = e in cc)
  none (Set bytes ∷ qs) e = absurd (let z : [] ≡ 91 ∷ (((bytes ++ 93 ∷ []) ++ parts_text qs) ++ pattern_text ts) = e in cc)
  none (Alternatives names ∷ qs) e = absurd (cc e)
same_parts [] qs (s ∷ ss) ts hp hq e = go (next_of 47 (segment_text s ++ pattern_text ss) qs ts hq e) where
  go : Next 47 (segment_text s ++ pattern_text ss) qs ts → ([] ≡ qs) × (pattern_text (s ∷ ss) ≡ pattern_text ts)
  go (Next.at_slash t others x m n y) = (sym m, ap (λ v. 47 ∷ v) y ∙ sym (ap pattern_text n))
  go (Next.at_byte rest p m y) = absurd (no_slash 47 refl p)
  go (Next.at_star rest x m y) = absurd (omega arith)
  go (Next.at_mark rest x m y) = absurd (omega arith)
  go (Next.at_set bytes rest x m y) = absurd (omega arith)
  go (Next.at_alternatives name names rest x m y) = absurd (omega arith)
same_parts (Byte b ∷ ps) qs ss ts hp hq e =
    let g = single (Byte b) b (text_of ps ss) qs ts refl (All-head IsPart (Byte b) ps hp) (next_of b (text_of ps ss) qs ts hq e) in
    with_first (Byte b) ps qs g.ps (pattern_text ss) (pattern_text ts) g.goes
    (same_parts ps g.ps ss ts (All-tail IsPart (Byte b) ps hp) (rest_good (Byte b) qs g.ps g.goes hq) g.text)
same_parts (AnyBytes ∷ ps) qs ss ts hp hq e =
    let g = single AnyBytes 42 (text_of ps ss) qs ts refl tt (next_of 42 (text_of ps ss) qs ts hq e) in
    with_first AnyBytes ps qs g.ps (pattern_text ss) (pattern_text ts) g.goes
    (same_parts ps g.ps ss ts (All-tail IsPart AnyBytes ps hp) (rest_good AnyBytes qs g.ps g.goes hq) g.text)
same_parts (AnyByte ∷ ps) qs ss ts hp hq e =
    let g = single AnyByte 63 (text_of ps ss) qs ts refl tt (next_of 63 (text_of ps ss) qs ts hq e) in
    with_first AnyByte ps qs g.ps (pattern_text ss) (pattern_text ts) g.goes
    (same_parts ps g.ps ss ts (All-tail IsPart AnyByte ps hp) (rest_good AnyByte qs g.ps g.goes hq) g.text)
same_parts (Set bytes ∷ ps) qs ss ts hp hq e =
    let g = bracket 91 (((bytes ++ 93 ∷ []) ++ parts_text ps) ++ pattern_text ss) qs ts refl (next_of 91 (((bytes ++ 93 ∷ []) ++ parts_text ps) ++ pattern_text ss) qs ts hq e) in
    let a : bytes ++ 93 ∷ text_of ps ss ≡ ((bytes ++ 93 ∷ []) ++ parts_text ps) ++ pattern_text ss = simp append_assoc in
    let own : IsWord bytes = All-head IsPart (Set bytes) ps hp in
    let other : IsWord g.bytes = first_good (Set g.bytes) qs g.ps g.goes hq in
    let h = prefix bytes g.bytes (93 ∷ text_of ps ss) (93 ∷ text_of g.ps ts) own.bytes other.bytes (no_closing_bracket 93 refl) (no_closing_bracket 93 refl) (a ∙ g.text) in
    let after : text_of ps ss ≡ text_of g.ps ts = after_first 93 93 (text_of ps ss) (text_of g.ps ts) h.1 in
    let goes : qs ≡ Set bytes ∷ g.ps = g.goes ∙ ap (λ (v : List ℕ). Set v ∷ g.ps) (sym h.0) in
    with_first (Set bytes) ps qs g.ps (pattern_text ss) (pattern_text ts) goes
    (same_parts ps g.ps ss ts (All-tail IsPart (Set bytes) ps hp) (rest_good (Set bytes) qs g.ps goes hq) after)
same_parts (Alternatives [] ∷ ps) qs ss ts hp hq e =
    let n : 0 < length {A = List ℕ} [] = (All-head IsPart (Alternatives []) ps hp).0 in absurd (omega arith)
same_parts (Alternatives (name ∷ names) ∷ ps) qs ss ts hp hq e =
    let g = brace 123 ((((name ++ flat_map (λ other. 44 ∷ other) names) ++ 125 ∷ []) ++ parts_text ps) ++ pattern_text ss) qs ts refl
    (next_of 123 ((((name ++ flat_map (λ other. 44 ∷ other) names) ++ 125 ∷ []) ++ parts_text ps) ++ pattern_text ss) qs ts hq e) in
    let a : name ++ others_text names (text_of ps ss) ≡ (((name ++ flat_map (λ other. 44 ∷ other) names) ++ 125 ∷ []) ++ parts_text ps) ++ pattern_text ss = simp append_assoc in
    let own : All IsWord (name ∷ names) = (All-head IsPart (Alternatives (name ∷ names)) ps hp).1 in
    let other : All IsWord (g.name ∷ g.names) = (first_good (Alternatives (g.name ∷ g.names)) qs g.ps g.goes hq).1 in
    let h = prefix name g.name (others_text names (text_of ps ss)) (others_text g.names (text_of g.ps ts)) (All-head IsWord name names own).bytes
    (All-head IsWord g.name g.names other).bytes (others_end names (text_of ps ss)) (others_end g.names (text_of g.ps ts)) (a ∙ g.text) in
    let k = same_others names g.names (text_of ps ss) (text_of g.ps ts) (All-tail IsWord name names own) (All-tail IsWord g.name g.names other) h.1 in
    let all : g.name ∷ g.names ≡ name ∷ names = ap (λ (v : List ℕ). v ∷ g.names) (sym h.0) ∙ ap (λ (v : List (List ℕ)). name ∷ v) (sym k.0) in
    let goes : qs ≡ Alternatives (name ∷ names) ∷ g.ps = g.goes ∙ ap (λ (v : List (List ℕ)). Alternatives v ∷ g.ps) all in
    with_first (Alternatives (name ∷ names)) ps qs g.ps (pattern_text ss) (pattern_text ts) goes
    (same_parts ps g.ps ss ts (All-tail IsPart (Alternatives (name ∷ names)) ps hp) (rest_good (Alternatives (name ∷ names)) qs g.ps goes hq) k.1)

-- segments with the same parts
same_segment : (s t : Segment) → IsPatternSegment s → IsPatternSegment t → parts_of s ≡ parts_of t → s ≡ t
same_segment AnySegments AnySegments hs ht e = refl
same_segment AnySegments (Parts qs) hs ht e = absurd (ht.not_any (sym e))
same_segment (Parts ps) AnySegments hs ht e = absurd (hs.not_any e)
same_segment (Parts ps) (Parts qs) hs ht e = ap (λ (v : List Part). Parts v) e

same_pattern : (p q : List Segment) → All IsPatternSegment p → All IsPatternSegment q → pattern_text p ≡ pattern_text q → p ≡ q
same_pattern [] [] hp hq e = refl
same_pattern [] (t ∷ ts) hp hq e = absurd (let z : [] ≡ 47 ∷ (segment_text t ++ pattern_text ts) = e in cc)
same_pattern (s ∷ ss) [] hp hq e = absurd (let z : 47 ∷ (segment_text s ++ pattern_text ss) ≡ [] = e in cc)
same_pattern (s ∷ ss) (t ∷ ts) hp hq e =
    let z : 47 ∷ (segment_text s ++ pattern_text ss) ≡ 47 ∷ (segment_text t ++ pattern_text ts) = e in
    let after : segment_text s ++ pattern_text ss ≡ segment_text t ++ pattern_text ts = cc in
    let parts : text_of (parts_of s) ss ≡ text_of (parts_of t) ts =
    ap (λ x. x ++ pattern_text ss) (sym (segment_text-parts s)) ∙ (after ∙ ap (λ x. x ++ pattern_text ts) (segment_text-parts t)) in
    let own : IsPatternSegment s = All-head IsPatternSegment s ss hp in
    let other : IsPatternSegment t = All-head IsPatternSegment t ts hq in
    let h = same_parts (parts_of s) (parts_of t) ss ts (good_parts s own) (good_parts t other) parts in
    ap (λ (v : Segment). v ∷ ss) (same_segment s t own other h.0)
    ∙ ap (λ (v : List Segment). t ∷ v) (same_pattern ss ts (All-tail IsPatternSegment s ss hp) (All-tail IsPatternSegment t ts hq) h.1)

pub one_pattern : IsOnePattern
one_pattern p q hp hq e = same_pattern p q hp.segments hq.segments e
