use Rattle.std.proofs.Common.{◌≡◌, ℕ, ◌+◌, ◌<◌, ◌≤◌, List, [], ◌∷◌, ◌++◌, length, refl, sym, ◌∙◌, ap, subst, arith, append_assoc, length-append}
use Rattle.std.specs.List.{All, flat_map}
use Rattle.std.proofs.lemmas.Grind.{flat_map-append}
use Rattle.std.proofs.lemmas.List.Elements.{All-head, All-nil, All-cons}
use Rattle.vt_path.specs.Byte.{IsPathByte}
use Rattle.vt_path.specs.Pattern.{IsPattern, IsPatternSegment, IsPart, AreParts, part_text, parts_text, segment_text, pattern_text}
use Rattle.vt_path.specs.private.PatternReading.{parts_of, FromParts, IsSegmentOf}
use Rattle.vt_path.specs.declared.pattern.Segment.{Segment}
use Rattle.vt_path.specs.declared.pattern.Segment.TheVariants.{AnySegments, Parts}
use Rattle.vt_path.specs.declared.pattern.Part.{Part}
use Rattle.vt_path.specs.declared.pattern.Part.TheVariants.{Byte, AnyBytes, AnyByte, Set, Alternatives}
use Rattle.vt_path.proofs.Lists.{All-back, All-middle}

-- how the text of parts and segments goes on, by its first byte
pub data Next (b : ℕ) (rest : List ℕ) (more : List Part) (tail : List Segment) : Type 0 where
  at_slash : (s : Segment) (ss : List Segment) → b ≡ 47 → more ≡ [] → tail ≡ s ∷ ss → rest ≡ segment_text s ++ pattern_text ss → Next b rest more tail
  at_byte : (ps : List Part) → IsPathByte b → more ≡ Byte b ∷ ps → rest ≡ parts_text ps ++ pattern_text tail → Next b rest more tail
  at_star : (ps : List Part) → b ≡ 42 → more ≡ AnyBytes ∷ ps → rest ≡ parts_text ps ++ pattern_text tail → Next b rest more tail
  at_mark : (ps : List Part) → b ≡ 63 → more ≡ AnyByte ∷ ps → rest ≡ parts_text ps ++ pattern_text tail → Next b rest more tail
  at_set : (bytes : List ℕ) (ps : List Part) → b ≡ 91 → more ≡ Set bytes ∷ ps → rest ≡ bytes ++ 93 ∷ (parts_text ps ++ pattern_text tail) → Next b rest more tail
  at_alternatives : (name : List ℕ) (names : List (List ℕ)) (ps : List Part) → b ≡ 123 → more ≡ Alternatives (name ∷ names) ∷ ps
      → rest ≡ name ++ (flat_map (λ other. 44 ∷ other) names ++ 125 ∷ (parts_text ps ++ pattern_text tail)) → Next b rest more tail

pub next_of : (b : ℕ) (rest : List ℕ) (more : List Part) (tail : List Segment) → All IsPart more → b ∷ rest ≡ parts_text more ++ pattern_text tail
    → Next b rest more tail
next_of b rest [] [] all e = absurd (let z : b ∷ rest ≡ [] = e in cc)
next_of b rest [] (s ∷ ss) all e =
    let z : b ∷ rest ≡ 47 ∷ (segment_text s ++ pattern_text ss) = e in
    let x : b ≡ 47 = cc in
    let y : rest ≡ segment_text s ++ pattern_text ss = cc in
    Next.at_slash s ss x refl refl y
next_of b rest (Byte c ∷ ps) tail all e =
    let z : b ∷ rest ≡ c ∷ (parts_text ps ++ pattern_text tail) = e in
    let x : c ≡ b = cc in
    let y : rest ≡ parts_text ps ++ pattern_text tail = cc in
    let p : IsPathByte c = All-head IsPart (Byte c) ps all in
    Next.at_byte ps (subst IsPathByte x p) (ap (λ (a : ℕ). Byte a ∷ ps) x) y
next_of b rest (AnyBytes ∷ ps) tail all e =
    let z : b ∷ rest ≡ 42 ∷ (parts_text ps ++ pattern_text tail) = e in
    let x : b ≡ 42 = cc in
    let y : rest ≡ parts_text ps ++ pattern_text tail = cc in
    Next.at_star ps x refl y
next_of b rest (AnyByte ∷ ps) tail all e =
    let z : b ∷ rest ≡ 63 ∷ (parts_text ps ++ pattern_text tail) = e in
    let x : b ≡ 63 = cc in
    let y : rest ≡ parts_text ps ++ pattern_text tail = cc in
    Next.at_mark ps x refl y
next_of b rest (Set bytes ∷ ps) tail all e =
    let z : b ∷ rest ≡ 91 ∷ (((bytes ++ 93 ∷ []) ++ parts_text ps) ++ pattern_text tail) = e in
    let x : b ≡ 91 = cc in
    let y : rest ≡ ((bytes ++ 93 ∷ []) ++ parts_text ps) ++ pattern_text tail = cc in
    Next.at_set bytes ps x refl (y ∙ simp append_assoc)
next_of b rest (Alternatives [] ∷ ps) tail all e =
    let n : 0 < length {A = List ℕ} [] = (All-head IsPart (Alternatives []) ps all).0 in absurd (omega arith)
next_of b rest (Alternatives (name ∷ names) ∷ ps) tail all e =
    let z : b ∷ rest ≡ 123 ∷ ((((name ++ flat_map (λ other. 44 ∷ other) names) ++ 125 ∷ []) ++ parts_text ps) ++ pattern_text tail) = e in
    let x : b ≡ 123 = cc in
    let y : rest ≡ (((name ++ flat_map (λ other. 44 ∷ other) names) ++ 125 ∷ []) ++ parts_text ps) ++ pattern_text tail = cc in
    Next.at_alternatives name names ps x refl (y ∙ simp append_assoc)

pub segment_text-parts : (s : Segment) → segment_text s ≡ parts_text (parts_of s)
segment_text-parts AnySegments = refl
segment_text-parts (Parts ps) = refl

-- a good segment has good parts, written in 64 bytes, at least one
pub good_parts : (s : Segment) → IsPatternSegment s → All IsPart (parts_of s)
good_parts AnySegments good = All-cons IsPart AnyBytes (AnyBytes ∷ []) tt (All-cons IsPart AnyBytes [] tt (All-nil IsPart))
good_parts (Parts ps) good = good.each

good_short : (s : Segment) → IsPatternSegment s → length (parts_text (parts_of s)) ≤ 64
good_short AnySegments good = omega arith
good_short (Parts ps) good = good.short

good_some : (s : Segment) → IsPatternSegment s → 0 < length (parts_of s)
good_some AnySegments good = omega arith
good_some (Parts ps) good = good.nonempty

-- a good segment is the one that is written with its parts
pub same_segment : (s t : Segment) (parts : List Part) → IsPatternSegment s → parts_of s ≡ parts → IsSegmentOf parts t → s ≡ t
same_segment AnySegments t parts good e h = sym (h.any (sym e))
same_segment (Parts ps) t parts good e h = go ps t parts good e h.same where
  go : (ps : List Part) (t : Segment) (parts : List Part) → AreParts ps → ps ≡ parts → parts_of t ≡ parts → Parts ps ≡ t
  go ps AnySegments parts good e f = absurd (good.not_any (e ∙ sym f))
  go ps (Parts qs) parts good e f = ap (λ (x : List Part). Parts x) (e ∙ sym f)

pub good_segment : (s : Segment) (parts : List Part) → IsSegmentOf parts s → All IsPart parts → 0 < length parts → length (parts_text parts) ≤ 64
    → IsPatternSegment s
good_segment AnySegments parts h all some short = tt
good_segment (Parts ps) parts h all some short =
    let e : ps ≡ parts = h.same in
    record {
      nonempty = rw e some;
      each = rw e all;
      short = rw e short;
      not_any = λ x. absurd (let z : Parts ps ≡ AnySegments = h.any (sym e ∙ x) in cc);
    }

-- there is a segment with any parts
pub segment_with : (parts : List Part) → (s : Segment) × IsSegmentOf parts s
segment_with [] = (Parts [], record { same = refl; any = λ e. absurd (let z : [] ≡ AnyBytes ∷ AnyBytes ∷ [] = e in cc) })
segment_with (AnyBytes ∷ AnyBytes ∷ []) = (AnySegments, record { same = refl; any = λ _. refl })
segment_with (p ∷ ps) = (Parts (p ∷ ps), record { same = refl; any = λ e. absurd (cc) })

module _ {done : List Segment} {begun : List Part} {rest : List ℕ} {pattern : List Segment} where
  pub segment_good : IsPattern pattern → (h : FromParts done begun rest pattern) → IsPatternSegment h.segment
  segment_good good h =
      All-middle IsPatternSegment done h.segment h.tail (let e = h.whole in let g = good.segments in rw e at g)

  pub parts_good : IsPattern pattern → (h : FromParts done begun rest pattern) → All IsPart (begun ++ h.more)
  parts_good good h = subst (All IsPart) h.its_parts (good_parts h.segment (segment_good good h))

  pub more_good : IsPattern pattern → (h : FromParts done begun rest pattern) → All IsPart h.more
  more_good good h = All-back IsPart begun h.more (parts_good good h)

  pub parts_short : IsPattern pattern → (h : FromParts done begun rest pattern) → length (parts_text begun) + length (parts_text h.more) ≤ 64
  parts_short good h =
      let s : length (parts_text (parts_of h.segment)) ≤ 64 = good_short h.segment (segment_good good h) in
      let e : parts_text (parts_of h.segment) ≡ parts_text begun ++ parts_text h.more = ap parts_text h.its_parts ∙ flat_map-append part_text begun h.more in
      let n : length (parts_text (parts_of h.segment)) ≡ length (parts_text begun) + length (parts_text h.more) = ap length e ∙ length-append (parts_text begun) (parts_text h.more) in
      omega arith

  pub parts_some : IsPattern pattern → (h : FromParts done begun rest pattern) → 0 < length begun + length h.more
  parts_some good h =
      let s : 0 < length (parts_of h.segment) = good_some h.segment (segment_good good h) in
      let n : length (parts_of h.segment) ≡ length begun + length h.more = ap length h.its_parts ∙ length-append begun h.more in
      omega arith

  -- one part more was read
  pub with_part : (p : Part) (ps : List Part) (h : FromParts done begun rest pattern) → h.more ≡ p ∷ ps
      → FromParts done (begun ++ p ∷ []) (parts_text ps ++ pattern_text h.tail) pattern
  with_part p ps h e = record {
    segment = h.segment;
    more = ps;
    tail = h.tail;
    whole = h.whole;
    its_parts = h.its_parts ∙ (ap (λ x. begun ++ x) e ∙ sym (append_assoc begun (p ∷ []) ps));
    text = refl;
  }

  -- the same back
  pub without_part : (p : Part) → FromParts done (begun ++ p ∷ []) rest pattern → FromParts done begun (part_text p ++ rest) pattern
  without_part p h = record {
    segment = h.segment;
    more = p ∷ h.more;
    tail = h.tail;
    whole = h.whole;
    its_parts = h.its_parts ∙ append_assoc begun (p ∷ []) h.more;
    text = ap (λ x. part_text p ++ x) h.text ∙ sym (append_assoc (part_text p) (parts_text h.more) (pattern_text h.tail));
  }

-- with other bytes that are the same
pub same_rest : {done : List Segment} {begun : List Part} {pattern : List Segment} (rest rest' : List ℕ) → rest ≡ rest'
    → FromParts done begun rest pattern → FromParts done begun rest' pattern
same_rest {done} {begun} {pattern} rest rest' e h =
    let P : List ℕ → Type 0 = λ x. FromParts done begun x pattern in subst P e h

pub same_begun : {done : List Segment} {pattern : List Segment} {rest : List ℕ} (begun begun' : List Part) → begun ≡ begun'
    → FromParts done begun rest pattern → FromParts done begun' rest pattern
same_begun {done} {pattern} {rest} begun begun' e h =
    let P : List Part → Type 0 = λ x. FromParts done x rest pattern in subst P e h
