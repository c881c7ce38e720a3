use Rattle.std.proofs.Common.{◌≡◌, ℕ, ◌+◌, ◌*◌, ◌<◌, ◌≤◌, List, [], ◌∷◌, ◌++◌, length, refl, sym, ◌∙◌, ap, subst, inl, inr, arith, append_assoc, length-append, suc, lit≤, Option, Some, None, Bool, true, false, ◌⊎◌}
use Rattle.std.specs.List.{All, flat_map}
use Rattle.std.proofs.lemmas.List.{append-nil}
use Rattle.std.proofs.lemmas.List.Elements.{All-head, All-tail, All-nil, All-cons, All-push}
use Rattle.vt_path.specs.Byte.{IsPathByte}
use Rattle.vt_path.specs.Pattern.{IsPattern, IsPatternSegment, IsPart, IsWord, part_text, parts_text, segment_text, pattern_text, names_text}
use Rattle.vt_path.specs.private.PatternReading.{Reading, GoesOnTo, IsBetween, IsInSet, IsInAlternatives, IsSound, ReadsOn, ReadsNoFurther, Ends, Takes, FromParts, FromSet, FromAlternatives, IsSegmentOf, parts_of}
use Rattle.vt_path.specs.declared.pattern.Segment.{Segment}
use Rattle.vt_path.specs.declared.pattern.Segment.TheVariants.{AnySegments, Parts}
use Rattle.vt_path.specs.declared.pattern.Part.{Part}
use Rattle.vt_path.specs.declared.pattern.Part.TheVariants.{Byte, AnyBytes, AnyByte, Set, Alternatives}
use Rattle.vt_path.specs.declared.pattern_reader.Position.{Position}
use Rattle.vt_path.specs.declared.pattern_reader.Position.TheVariants.{Between, InSet, InAlternatives}
use Rattle.vt_path.proofs.Prefixes.{Reads, Opens}
use Rattle.vt_path.proofs.PatternNext.{good_segment, segment_with, segment_text-parts, parts_some}
use Rattle.vt_path.proofs.PatternReadsOn.{goes_on_in, goes_on_out, inside_in, length-with}
use Rattle.vt_path.proofs.PatternAlternatives.{length-middle}

-- whole parts end a segment and the pattern
ends_parts : (done : List Segment) (parts : List Part) (closed : Segment) → length done < 16 → All IsPatternSegment done → All IsPart parts → 0 < length parts
    → length (parts_text parts) ≤ 64 → IsSegmentOf parts closed → IsPattern (done ++ closed ∷ []) × FromParts done parts [] (done ++ closed ∷ [])
ends_parts done parts closed few segments all some short is =
    let n : length (done ++ closed ∷ []) ≡ length done + 1 = length-append done (closed ∷ []) in (
      record {
        nonempty = omega arith;
        few = omega arith;
        segments = All-push IsPatternSegment done closed segments (good_segment closed parts is all some short);
      },
      record {
        segment = closed;
        more = [];
        tail = [];
        whole = refl;
        its_parts = is.same ∙ sym (append-nil parts);
        text = refl;
      },
    )

-- the code's end
pub ends_some : (r : Reading) (closed : Segment) → r.position ≡ Between → IsSound r → 0 < length r.parts → IsSegmentOf r.parts closed
    → Ends r (Some (r.done ++ closed ∷ []))
ends_some r closed e sound some is =
    let i : IsBetween r = inside_in r Between e sound in
    let u = i.used in
    let s = i.short in
    let h = ends_parts r.done r.parts closed sound.few sound.segments sound.parts some (omega arith) is in
    (h.0, goes_on_out r Between [] (r.done ++ closed ∷ []) e h.1)

pub ends_none_empty : (r : Reading) → r.position ≡ Between → r.parts ≡ [] → Ends r None
ends_none_empty r e none q whole h =
    let f : FromParts r.done r.parts [] q = goes_on_in r Between [] q e h in
    let s : 0 < length r.parts + length f.more = parts_some whole f in
    let n = ap length none in
    no_more f.more f.tail (omega arith) f.text where
      no_more : (more : List Part) (tail : List Segment) → 0 < length more → [] ≡ parts_text more ++ pattern_text tail → ⊥
      no_more [] tail some t = omega arith
      no_more (p ∷ ps) tail some t = starts p ((part_text p ++ parts_text ps) ++ pattern_text tail) (parts_text ps ++ pattern_text tail) (append_assoc (part_text p) (parts_text ps) (pattern_text tail)) t where
        starts : (p : Part) (x y : List ℕ) → x ≡ part_text p ++ y → [] ≡ x → ⊥
        starts (Byte b) x y e t = let z : [] ≡ b ∷ y = t ∙ e in cc
        starts AnyBytes x y e t = let z : [] ≡ 42 ∷ y = t ∙ e in cc
        starts AnyByte x y e t = let z : [] ≡ 63 ∷ y = t ∙ e in cc
        starts (Set bytes) x y e t = let z : [] ≡ 91 ∷ ((bytes ++ 93 ∷ []) ++ y) = t ∙ e in cc
        starts (Alternatives names) x y e t = let z : [] ≡ 123 ∷ ((names_text names ++ 125 ∷ []) ++ y) = t ∙ e in cc

nothing : {X : Type 0} (xs ys : List X) (y : X) → [] ≡ xs ++ y ∷ ys → ⊥
nothing xs ys y e = let n : 0 ≡ length (xs ++ y ∷ ys) = ap length e in let m : length (xs ++ y ∷ ys) ≡ length xs + suc (length ys) = length-append xs (y ∷ ys) in omega arith

-- in brackets and in alternatives more is wanted
pub ends_none_inside : (r : Reading) → (r.position ≡ Between → ⊥) → Ends r None
ends_none_inside r never q whole h = go r.position refl where
  go : (position : Position) → r.position ≡ position → ⊥
  go Between e = never e
  go InSet e = let f : FromSet r.done r.parts r.bytes [] q = goes_on_in r InSet [] q e h in nothing f.more f.after 93 f.text
  go InAlternatives e =
      let f : FromAlternatives r.done r.parts r.names r.bytes [] q = goes_on_in r InAlternatives [] q e h in
      nothing (f.more ++ flat_map (λ other. 44 ∷ other) f.others) f.after 125
      (f.text ∙ sym (append_assoc f.more (flat_map (λ other. 44 ∷ other) f.others) (125 ∷ f.after)))

letter : IsPathByte 97
unfolding IsPathByte
letter = inr (inr (inl (lit≤ tt, lit≤ tt)))

word_with : (bytes : List ℕ) → All IsPathByte bytes → (more : List ℕ) × IsWord (bytes ++ more) × ((length more ≡ 0) ⊎ ((length bytes ≡ 0) × (length more ≡ 1)))
word_with [] all = (97 ∷ [], record { nonempty = omega arith; bytes = All-cons IsPathByte 97 [] letter (All-nil IsPathByte) }, inr (refl, refl))
word_with (b ∷ bs) all =
    ([], record { nonempty = omega arith; bytes = (let e : (b ∷ bs) ++ [] ≡ b ∷ bs = append-nil (b ∷ bs) in subst (All IsPathByte) (sym e) all) }, inl (omega arith))

fits : (used b m : ℕ) → used + 1 ≤ 64 → (b ≡ 0 → used + 2 ≤ 64) → (m ≡ 0) ⊎ ((b ≡ 0) × (m ≡ 1)) → used + 1 + m ≤ 64
fits used b m short room (inl none) = omega arith
fits used b m short room (inr one) = let k = room one.0 in let l = one.1 in omega arith

-- whatever was read, some bytes finish a pattern
pub pattern_opens : (r : Reading) → IsSound r → Opens IsPattern (GoesOnTo r)
pattern_opens r sound = go r.position refl where
  some_part : (r : Reading) → IsSound r → IsBetween r → (parts : List Part) → r.parts ≡ parts → (rest : List ℕ) × (q : List Segment) × IsPattern q × FromParts r.done r.parts rest q
  some_part r sound i [] none =
      let s = segment_with (Byte 97 ∷ []) in
      let h = ends_parts r.done (Byte 97 ∷ []) s.0 sound.few sound.segments (All-cons IsPart (Byte 97) [] letter (All-nil IsPart)) (omega arith) (omega arith) s.1 in (
        97 ∷ [],
        r.done ++ s.0 ∷ [],
        h.0,
        record { segment = s.0; more = Byte 97 ∷ []; tail = []; whole = refl; its_parts = s.1.same ∙ ap (λ (x : List Part). x ++ Byte 97 ∷ []) (sym none); text = refl },
      )
  some_part r sound i (p ∷ ps) e =
      let s = segment_with r.parts in
      let n = ap length e in
      let u = i.used in
      let k = i.short in
      let h = ends_parts r.done r.parts s.0 sound.few sound.segments sound.parts (omega arith) (omega arith) s.1 in
      ([], r.done ++ s.0 ∷ [], h.0, h.1)

  go : (position : Position) → r.position ≡ position → Opens IsPattern (GoesOnTo r)
  go Between e =
      let h = some_part r sound (inside_in r Between e sound) r.parts refl in (h.0, h.1, h.2, goes_on_out r Between h.0 h.1 e h.3)
  go InSet e =
      let i : IsInSet r = inside_in r InSet e sound in
      let w = word_with r.bytes i.bytes in
      let parts : List Part = r.parts ++ Set (r.bytes ++ w.0) ∷ [] in
      let s = segment_with (r.parts ++ Set (r.bytes ++ w.0) ∷ []) in
      let n : length (parts_text (r.parts ++ Set (r.bytes ++ w.0) ∷ [])) ≡ length (parts_text r.parts) + length (part_text (Set (r.bytes ++ w.0))) = length-with r.parts (Set (r.bytes ++ w.0)) in
      let k : length ((r.bytes ++ w.0) ++ 93 ∷ []) ≡ length (r.bytes ++ w.0) + 1 = length-append (r.bytes ++ w.0) (93 ∷ []) in
      let j : length (r.bytes ++ w.0) ≡ length r.bytes + length w.0 = length-append r.bytes w.0 in
      let m : length (r.parts ++ Set (r.bytes ++ w.0) ∷ []) ≡ length r.parts + 1 = length-append r.parts (Set (r.bytes ++ w.0) ∷ []) in
      let u = i.used in
      let size : r.used + 1 + length w.0 ≤ 64 = fits r.used (length r.bytes) (length w.0) i.short i.room w.2 in
      let h = ends_parts r.done (r.parts ++ Set (r.bytes ++ w.0) ∷ []) s.0 sound.few sound.segments
      (All-push IsPart r.parts (Set (r.bytes ++ w.0)) sound.parts w.1) (omega arith) (omega arith) s.1 in (
        w.0 ++ 93 ∷ [],
        r.done ++ s.0 ∷ [],
        h.0,
        goes_on_out r InSet (w.0 ++ 93 ∷ []) (r.done ++ s.0 ∷ []) e
            (record { more = w.0; after = []; text = refl; closed = h.1 }),
      )
  go InAlternatives e =
      let i : IsInAlternatives r = inside_in r InAlternatives e sound in
      let w = word_with r.bytes i.bytes in
      let s = segment_with (r.parts ++ Alternatives (r.names ++ (r.bytes ++ w.0) ∷ []) ∷ []) in
      let n : length (parts_text (r.parts ++ Alternatives (r.names ++ (r.bytes ++ w.0) ∷ []) ∷ []))
      ≡ length (parts_text r.parts) + length (part_text (Alternatives (r.names ++ (r.bytes ++ w.0) ∷ []))) = length-with r.parts (Alternatives (r.names ++ (r.bytes ++ w.0) ∷ [])) in
      let k = length-middle r.names [] (r.bytes ++ w.0) in
      let j : length (r.bytes ++ w.0) ≡ length r.bytes + length w.0 = length-append r.bytes w.0 in
      let m : length (r.parts ++ Alternatives (r.names ++ (r.bytes ++ w.0) ∷ []) ∷ []) ≡ length r.parts + 1 = length-append r.parts (Alternatives (r.names ++ (r.bytes ++ w.0) ∷ []) ∷ []) in
      let o : length (r.names ++ (r.bytes ++ w.0) ∷ []) ≡ length r.names + 1 = length-append r.names ((r.bytes ++ w.0) ∷ []) in
      let u = i.used in
      let size : r.used + 1 + length w.0 ≤ 64 = fits r.used (length r.bytes) (length w.0) i.short i.room w.2 in
      let h = ends_parts r.done (r.parts ++ Alternatives (r.names ++ (r.bytes ++ w.0) ∷ []) ∷ []) s.0 sound.few sound.segments
      (All-push IsPart r.parts (Alternatives (r.names ++ (r.bytes ++ w.0) ∷ [])) sound.parts (omega arith, All-push IsWord r.names (r.bytes ++ w.0) i.names w.1))
      (omega arith) (omega arith) s.1 in (
        w.0 ++ 125 ∷ [],
        r.done ++ s.0 ∷ [],
        h.0,
        goes_on_out r InAlternatives (w.0 ++ 125 ∷ []) (r.done ++ s.0 ∷ []) e
            (record { more = w.0; others = []; after = []; text = refl; closed = h.1 }),
      )

-- what the first slash leaves to be read
pub pattern_begins : (r : Reading) → r.position ≡ Between → r.done ≡ [] → r.parts ≡ [] → Reads IsPattern pattern_text (GoesOnTo r) (47 ∷ [])
pattern_begins r e none empty = record {
  on = λ rest q good t. goes_on_out r Between rest q e (begun rest q good t);
  back = λ rest q h. let f : FromParts r.done r.parts rest q = goes_on_in r Between rest q e h in back rest q f;
} where
  begun : (rest : List ℕ) (q : List Segment) → IsPattern q → 47 ∷ rest ≡ pattern_text q → FromParts r.done r.parts rest q
  begun rest [] good t = absurd (let z : 47 ∷ rest ≡ [] = t in cc)
  begun rest (s ∷ ss) good t =
      let z : 47 ∷ rest ≡ 47 ∷ (segment_text s ++ pattern_text ss) = t in
      let y : rest ≡ segment_text s ++ pattern_text ss = cc in
      record {
        segment = s;
        more = parts_of s;
        tail = ss;
        whole = ap (λ (x : List Segment). x ++ s ∷ ss) (sym none);
        its_parts = ap (λ (x : List Part). x ++ parts_of s) (sym empty);
        text = y ∙ ap (λ x. x ++ pattern_text ss) (segment_text-parts s);
      }

  back : (rest : List ℕ) (q : List Segment) → FromParts r.done r.parts rest q → 47 ∷ rest ≡ pattern_text q
  back rest q f =
      let w : q ≡ f.segment ∷ f.tail = f.whole ∙ ap (λ (x : List Segment). x ++ f.segment ∷ f.tail) none in
      let p : parts_of f.segment ≡ f.more = f.its_parts ∙ ap (λ (x : List Part). x ++ f.more) empty in
      ap (λ x. 47 ∷ x) (f.text ∙ (ap (λ x. parts_text x ++ pattern_text f.tail) (sym p) ∙ ap (λ x. x ++ pattern_text f.tail) (sym (segment_text-parts f.segment))))
      ∙ sym (ap pattern_text w)

lengths : (q : List Segment) → All IsPatternSegment q → length (pattern_text q) ≤ 65 * length q
lengths [] all = omega arith
lengths (s ∷ ss) all =
    let short : length (segment_text s) ≤ 64 = shorts s (All-head IsPatternSegment s ss all) in
    let n : length (pattern_text (s ∷ ss)) ≡ suc (length (segment_text s) + length (pattern_text ss)) = ap suc (length-append (segment_text s) (pattern_text ss)) in
    omega (arith, lengths ss (All-tail IsPatternSegment s ss all)) where
      shorts : (s : Segment) → IsPatternSegment s → length (segment_text s) ≤ 64
      shorts AnySegments good = omega arith
      shorts (Parts ps) good = good.short

-- a pattern is no longer than this
pub length-pattern_text : (q : List Segment) → IsPattern q → length (pattern_text q) ≤ 1040
length-pattern_text q good = let f = good.few in omega (arith, lengths q good.segments)

-- a pattern that is written begins with a slash
pub pattern_slash : (q : List Segment) → IsPattern q → (rest : List ℕ) × (pattern_text q ≡ 47 ∷ rest)
pattern_slash [] good = let n : 0 < length {A = Segment} [] = good.nonempty in absurd (omega arith)
pattern_slash (s ∷ ss) good = (segment_text s ++ pattern_text ss, refl)

pub takes_yes : (old : Reading) (b : ℕ) (new : Reading) (taken : Bool) → taken ≡ true → Takes old b new taken → ReadsOn old b new
takes_yes old b new true e h = h
takes_yes old b new false e h = absurd (let z : false ≡ true = e in cc)

pub takes_no : (old : Reading) (b : ℕ) (new : Reading) (taken : Bool) → taken ≡ false → Takes old b new taken → ReadsNoFurther old b
takes_no old b new true e h = absurd (let z : true ≡ false = e in cc)
takes_no old b new false e h = h

pub ends_yes : (r : Reading) (o : Option (List Segment)) (q : List Segment) → o ≡ Some q → Ends r o → IsPattern q × GoesOnTo r [] q
ends_yes r None q e h = absurd (let z : None ≡ Some q = e in cc)
ends_yes r (Some p) q e h = let same : p ≡ q = cc in let P : List Segment → Type 0 = λ x. IsPattern x × GoesOnTo r [] x in subst P same h

pub ends_no : (r : Reading) (o : Option (List Segment)) → o ≡ None → Ends r o → (q : List Segment) → IsPattern q → GoesOnTo r [] q → ⊥
ends_no r None e h = h
ends_no r (Some p) e h = absurd (let z : Some p ≡ None = e in cc)

-- before anything was read
pub begin : Reading
begin = record { done = []; parts = []; names = []; bytes = []; position = Between; used = 0 }

pub sound_begin : IsSound begin
unfolding begin
sound_begin = record {
  few = omega arith;
  segments = All-nil IsPatternSegment;
  parts = All-nil IsPart;
  inside = record { used = refl; short = omega arith; no_names = refl; no_bytes = refl };
}

pub begins : Reads IsPattern pattern_text (GoesOnTo begin) (47 ∷ [])
unfolding begin
begins = pattern_begins begin refl refl refl
