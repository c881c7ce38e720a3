-- Between two parts, a pattern that is being read goes on with a byte, or no pattern does.
use Rattle.std.proofs.Common.{◌≡◌, ℕ, ◌+◌, ◌<◌, ◌≤◌, List, [], ◌∷◌, ◌++◌, length, refl, sym, ◌∙◌, ap, subst, arith, append_assoc, length-append}
use Rattle.std.specs.List.{All, flat_map}
use Rattle.std.proofs.lemmas.Grind.{flat_map-append}
use Rattle.std.proofs.lemmas.List.{append-nil}
use Rattle.std.proofs.lemmas.List.Elements.{All-head, All-nil, All-push}
use Rattle.vt_path.specs.Byte.{IsPathByte}
use Rattle.vt_path.specs.Pattern.{IsPattern, IsPatternSegment, IsPart, IsWord, part_text, parts_text, segment_text, pattern_text, names_text}
use Rattle.vt_path.specs.private.PatternReading.{Reading, GoesOnTo, GoesOnFrom, IsInside, IsBetween, IsSound, ReadsOn, ReadsNoFurther, FromParts, IsSegmentOf, IsOpening, parts_of, names_size}
use Rattle.vt_path.specs.declared.pattern.Segment.{Segment}
use Rattle.vt_path.specs.declared.pattern.Part.{Part}
use Rattle.vt_path.specs.declared.pattern.Part.TheVariants.{Byte, AnyBytes, AnyByte, Set, Alternatives}
use Rattle.vt_path.specs.declared.pattern_reader.Position.{Position}
use Rattle.vt_path.specs.declared.pattern_reader.Position.TheVariants.{Between, InSet, InAlternatives}
use Rattle.vt_path.proofs.ByteLemmas.{no_slash, no_star, no_mark, no_bracket, no_brace}
use Rattle.vt_path.proofs.PatternNext.{Next, next_of, segment_text-parts, same_segment, good_segment, segment_good, more_good, parts_short, parts_some, with_part, without_part, same_rest, same_begun}

-- what goes on from a position that is known
pub goes_on_in : (r : Reading) (position : Position) (rest : List ℕ) (q : List Segment) → r.position ≡ position → GoesOnTo r rest q → GoesOnFrom position r rest q
goes_on_in r position rest q e h = let P : Position → Type 0 = λ x. GoesOnFrom x r rest q in subst P e h

pub goes_on_out : (r : Reading) (position : Position) (rest : List ℕ) (q : List Segment) → r.position ≡ position → GoesOnFrom position r rest q → GoesOnTo r rest q
goes_on_out r position rest q e h = let P : Position → Type 0 = λ x. GoesOnFrom x r rest q in subst P (sym e) h

pub inside_in : (r : Reading) (position : Position) → r.position ≡ position → IsSound r → IsInside position r
inside_in r position e sound = let P : Position → Type 0 = λ x. IsInside x r in subst P e sound.inside

pub inside_out : (r : Reading) (position : Position) → r.position ≡ position → IsInside position r → IsInside r.position r
inside_out r position e h = let P : Position → Type 0 = λ x. IsInside x r in subst P (sym e) h

-- one part more, and its bytes
pub length-with : (parts : List Part) (p : Part) → length (parts_text (parts ++ p ∷ [])) ≡ length (parts_text parts) + length (part_text p)
length-with parts p =
    ap length (flat_map-append part_text parts (p ∷ [])) ∙ (length-append (parts_text parts) (part_text p ++ []) ∙ ap (λ x. length (parts_text parts) + length x) (append-nil (part_text p)))

length-more : (more : List Part) (p : Part) (ps : List Part) → more ≡ p ∷ ps → length (parts_text more) ≡ length (part_text p) + length (parts_text ps)
length-more more p ps e = ap (λ x. length (parts_text x)) e ∙ length-append (part_text p) (parts_text ps)

-- Which part goes on with a byte that is all of its text.
pub record Goes (p : Part) (rest : List ℕ) (more : List Part) (tail : List Segment) : Type 0 where
  pub ps : List Part
  pub goes : more ≡ p ∷ ps
  pub text : rest ≡ parts_text ps ++ pattern_text tail

pub single : (p : Part) (b : ℕ) (rest : List ℕ) (more : List Part) (tail : List Segment) → part_text p ≡ b ∷ [] → IsPart p → Next b rest more tail
    → Goes p rest more tail
single (Byte c) b rest more tail e good n = go n where
  same : c ≡ b
  same = let z : c ∷ [] ≡ b ∷ [] = e in cc

  path : IsPathByte b
  path = subst IsPathByte same good

  go : Next b rest more tail → Goes (Byte c) rest more tail
  go (Next.at_slash s ss x m t y) = absurd (no_slash b x path)
  go (Next.at_byte ps p m y) = record { ps = ps; goes = m ∙ ap (λ (a : ℕ). Byte a ∷ ps) (sym same); text = y }
  go (Next.at_star ps x m y) = absurd (no_star b x path)
  go (Next.at_mark ps x m y) = absurd (no_mark b x path)
  go (Next.at_set bytes ps x m y) = absurd (no_bracket b x path)
  go (Next.at_alternatives name names ps x m y) = absurd (no_brace b x path)
single AnyBytes b rest more tail e good n = go n where
  same : b ≡ 42
  same = let z : 42 ∷ [] ≡ b ∷ [] = e in cc

  go : Next b rest more tail → Goes AnyBytes rest more tail
  go (Next.at_slash s ss x m t y) = absurd (omega (arith, same))
  go (Next.at_byte ps p m y) = absurd (no_star b same p)
  go (Next.at_star ps x m y) = record { ps = ps; goes = m; text = y }
  go (Next.at_mark ps x m y) = absurd (omega (arith, same))
  go (Next.at_set bytes ps x m y) = absurd (omega (arith, same))
  go (Next.at_alternatives name names ps x m y) = absurd (omega (arith, same))
single AnyByte b rest more tail e good n = go n where
  same : b ≡ 63
  same = let z : 63 ∷ [] ≡ b ∷ [] = e in cc

  go : Next b rest more tail → Goes AnyByte rest more tail
  go (Next.at_slash s ss x m t y) = absurd (omega (arith, same))
  go (Next.at_byte ps p m y) = absurd (no_mark b same p)
  go (Next.at_star ps x m y) = absurd (omega (arith, same))
  go (Next.at_mark ps x m y) = record { ps = ps; goes = m; text = y }
  go (Next.at_set bytes ps x m y) = absurd (omega (arith, same))
  go (Next.at_alternatives name names ps x m y) = absurd (omega (arith, same))
single (Set bytes) b rest more tail e good n =
    let l : length (91 ∷ (bytes ++ 93 ∷ [])) ≡ 1 = ap length e in
    let k : length (bytes ++ 93 ∷ []) ≡ length bytes + 1 = length-append bytes (93 ∷ []) in
    absurd (omega arith)
single (Alternatives names) b rest more tail e good n =
    let l : length (123 ∷ (names_text names ++ 125 ∷ [])) ≡ 1 = ap length e in
    let k : length (names_text names ++ 125 ∷ []) ≡ length (names_text names) + 1 = length-append (names_text names) (125 ∷ []) in
    absurd (omega arith)

next_at : (r : Reading) (b : ℕ) (rest : List ℕ) (q : List Segment) → IsPattern q → (h : FromParts r.done r.parts (b ∷ rest) q) → Next b rest h.more h.tail
next_at r b rest q good h = next_of b rest h.more h.tail (more_good good h) h.text

pub push_reads_on : (r : Reading) (p : Part) (b : ℕ) → r.position ≡ Between → IsSound r → IsPart p → part_text p ≡ b ∷ [] → r.used < 64
    → ReadsOn r b (record { done = r.done; parts = r.parts ++ p ∷ []; names = r.names; bytes = r.bytes; position = r.position; used = r.used + 1 })
push_reads_on r p b e sound good t room =
    let i : IsBetween r = inside_in r Between e sound in
    let new : Reading = record { done = r.done; parts = r.parts ++ p ∷ []; names = r.names; bytes = r.bytes; position = r.position; used = r.used + 1 } in
    let n : length (part_text p) ≡ 1 = ap length t in
    record {
      sound = record {
        few = sound.few;
        segments = sound.segments;
        parts = All-push IsPart r.parts p sound.parts good;
        inside = inside_out new Between e (record { used = (let u = i.used in let w = length-with r.parts p in omega arith); short = omega arith; no_names = i.no_names; no_bytes = i.no_bytes });
      };
      on = λ rest q whole h.
          let f : FromParts r.done r.parts (b ∷ rest) q = goes_on_in r Between (b ∷ rest) q e h in
          let g = single p b rest f.more f.tail t good (next_at r b rest q whole f) in
          goes_on_out new Between rest q e (same_rest (parts_text g.ps ++ pattern_text f.tail) rest (sym g.text) (with_part p g.ps f g.goes));
      back = λ rest q h.
          let f : FromParts r.done (r.parts ++ p ∷ []) rest q = goes_on_in new Between rest q e h in
          goes_on_out r Between (b ∷ rest) q e (same_rest (part_text p ++ rest) (b ∷ rest) (ap (λ x. x ++ rest) t) (without_part p f));
    }

pub no_push : (r : Reading) (p : Part) (b : ℕ) → r.position ≡ Between → IsSound r → IsPart p → part_text p ≡ b ∷ [] → r.used ≡ 64 → ReadsNoFurther r b
no_push r p b e sound good t full rest q whole h =
    let i : IsBetween r = inside_in r Between e sound in
    let f : FromParts r.done r.parts (b ∷ rest) q = goes_on_in r Between (b ∷ rest) q e h in
    let g = single p b rest f.more f.tail t good (next_at r b rest q whole f) in
    let u : r.used ≡ length (parts_text r.parts) = i.used in
    let n : length (part_text p) ≡ 1 = ap length t in
    let m : length (parts_text f.more) ≡ length (part_text p) + length (parts_text g.ps) = length-more f.more p g.ps g.goes in
    let s : length (parts_text r.parts) + length (parts_text f.more) ≤ 64 = parts_short whole f in
    omega arith

-- a byte that begins nothing
pub no_other : (r : Reading) (b : ℕ) → r.position ≡ Between → (IsPathByte b → ⊥) → (b ≡ 47 → ⊥) → (b ≡ 42 → ⊥) → (b ≡ 63 → ⊥) → (b ≡ 91 → ⊥) → (b ≡ 123 → ⊥)
    → ReadsNoFurther r b
no_other r b e path slash star mark bracket brace rest q whole h =
    let f : FromParts r.done r.parts (b ∷ rest) q = goes_on_in r Between (b ∷ rest) q e h in go (next_at r b rest q whole f) where
      go : {more : List Part} {tail : List Segment} → Next b rest more tail → ⊥
      go (Next.at_slash s ss x m t y) = slash x
      go (Next.at_byte ps p m y) = path p
      go (Next.at_star ps x m y) = star x
      go (Next.at_mark ps x m y) = mark x
      go (Next.at_set bytes ps x m y) = bracket x
      go (Next.at_alternatives name names ps x m y) = brace x

-- What brackets and alternatives go on with.
pub record GoesSet (rest : List ℕ) (more : List Part) (tail : List Segment) : Type 0 where
  pub bytes : List ℕ
  pub ps : List Part
  pub goes : more ≡ Set bytes ∷ ps
  pub text : rest ≡ bytes ++ 93 ∷ (parts_text ps ++ pattern_text tail)

pub record GoesAlternatives (rest : List ℕ) (more : List Part) (tail : List Segment) : Type 0 where
  pub name : List ℕ
  pub names : List (List ℕ)
  pub ps : List Part
  pub goes : more ≡ Alternatives (name ∷ names) ∷ ps
  pub text : rest ≡ name ++ (flat_map (λ other. 44 ∷ other) names ++ 125 ∷ (parts_text ps ++ pattern_text tail))

pub bracket : (b : ℕ) (rest : List ℕ) (more : List Part) (tail : List Segment) → b ≡ 91 → Next b rest more tail → GoesSet rest more tail
bracket b rest more tail e (Next.at_slash s ss x m t y) = absurd (omega arith)
bracket b rest more tail e (Next.at_byte ps p m y) = absurd (no_bracket b e p)
bracket b rest more tail e (Next.at_star ps x m y) = absurd (omega arith)
bracket b rest more tail e (Next.at_mark ps x m y) = absurd (omega arith)
bracket b rest more tail e (Next.at_set bytes ps x m y) = record { bytes = bytes; ps = ps; goes = m; text = y }
bracket b rest more tail e (Next.at_alternatives name names ps x m y) = absurd (omega arith)

pub brace : (b : ℕ) (rest : List ℕ) (more : List Part) (tail : List Segment) → b ≡ 123 → Next b rest more tail → GoesAlternatives rest more tail
brace b rest more tail e (Next.at_slash s ss x m t y) = absurd (omega arith)
brace b rest more tail e (Next.at_byte ps p m y) = absurd (no_brace b e p)
brace b rest more tail e (Next.at_star ps x m y) = absurd (omega arith)
brace b rest more tail e (Next.at_mark ps x m y) = absurd (omega arith)
brace b rest more tail e (Next.at_set bytes ps x m y) = absurd (omega arith)
brace b rest more tail e (Next.at_alternatives name names ps x m y) = record { name = name; names = names; ps = ps; goes = m; text = y }

set_text : (bytes more after rest : List ℕ) (b : ℕ) → bytes ≡ [] → rest ≡ more ++ 93 ∷ after → b ≡ 91 → part_text (Set (bytes ++ more)) ++ after ≡ b ∷ rest
set_text bytes more after rest b e t x = rw (e, t, x) (ap (λ z. 91 ∷ z) (append_assoc more (93 ∷ []) after))

alternatives_text : (names others : List (List ℕ)) (bytes more after rest : List ℕ) (b : ℕ) → names ≡ [] → bytes ≡ []
    → rest ≡ more ++ (flat_map (λ other. 44 ∷ other) others ++ 125 ∷ after) → b ≡ 123
    → part_text (Alternatives (names ++ (bytes ++ more) ∷ others)) ++ after ≡ b ∷ rest
alternatives_text names others bytes more after rest b n e t x =
    let commas : List ℕ = flat_map (λ other. 44 ∷ other) others in
    rw (n, e, t, x) (ap (λ z. 123 ∷ z) (append_assoc (more ++ commas) (125 ∷ []) after ∙ append_assoc more commas (125 ∷ after)))

-- after the bracket
pub bracket_reads_on : (r : Reading) (b : ℕ) → b ≡ 91 → r.position ≡ Between → IsSound r → r.used + 3 ≤ 64
    → ReadsOn r b (record { done = r.done; parts = r.parts; names = r.names; bytes = r.bytes; position = InSet; used = r.used + 1 })
bracket_reads_on r b x e sound room =
    let i : IsBetween r = inside_in r Between e sound in
    record {
      sound = record {
        few = sound.few;
        segments = sound.segments;
        parts = sound.parts;
        inside = record {
          used = (let u = i.used in let n = ap length i.no_bytes in omega arith);
          short = omega arith;
          room = λ _. omega arith;
          bytes = (let n = i.no_bytes in rw n (All-nil IsPathByte));
          no_names = i.no_names;
        };
      };
      on = λ rest q whole h.
          let f : FromParts r.done r.parts (b ∷ rest) q = goes_on_in r Between (b ∷ rest) q e h in
          let g = bracket b rest f.more f.tail x (next_at r b rest q whole f) in
          record {
            more = g.bytes;
            after = parts_text g.ps ++ pattern_text f.tail;
            text = g.text;
            closed = same_begun (r.parts ++ Set g.bytes ∷ []) (r.parts ++ Set (r.bytes ++ g.bytes) ∷ [])
                (ap (λ (y : List ℕ). r.parts ++ Set (y ++ g.bytes) ∷ []) (sym i.no_bytes)) (with_part (Set g.bytes) g.ps f g.goes);
          };
      back = λ rest q h.
          goes_on_out r Between (b ∷ rest) q e
          (same_rest (part_text (Set (r.bytes ++ h.more)) ++ h.after) (b ∷ rest) (set_text r.bytes h.more h.after rest b i.no_bytes h.text x)
          (without_part (Set (r.bytes ++ h.more)) h.closed));
    }

pub no_bracket_full : (r : Reading) (b : ℕ) → b ≡ 91 → r.position ≡ Between → IsSound r → 64 < r.used + 3 → ReadsNoFurther r b
no_bracket_full r b x e sound full rest q whole h =
    let i : IsBetween r = inside_in r Between e sound in
    let f : FromParts r.done r.parts (b ∷ rest) q = goes_on_in r Between (b ∷ rest) q e h in
    let g = bracket b rest f.more f.tail x (next_at r b rest q whole f) in
    let u : r.used ≡ length (parts_text r.parts) = i.used in
    let m : length (parts_text f.more) ≡ length (part_text (Set g.bytes)) + length (parts_text g.ps) = length-more f.more (Set g.bytes) g.ps g.goes in
    let s : length (parts_text r.parts) + length (parts_text f.more) ≤ 64 = parts_short whole f in
    let w : IsWord g.bytes = All-head IsPart (Set g.bytes) g.ps (let all = more_good whole f in let goes = g.goes in subst (All IsPart) goes all) in
    let some : 0 < length g.bytes = w.nonempty in
    let k : length (g.bytes ++ 93 ∷ []) ≡ length g.bytes + 1 = length-append g.bytes (93 ∷ []) in
    omega arith

-- after the brace
pub brace_reads_on : (r : Reading) (b : ℕ) → b ≡ 123 → r.position ≡ Between → IsSound r → r.used + 3 ≤ 64
    → ReadsOn r b (record { done = r.done; parts = r.parts; names = r.names; bytes = r.bytes; position = InAlternatives; used = r.used + 1 })
brace_reads_on r b x e sound room =
    let i : IsBetween r = inside_in r Between e sound in
    record {
      sound = record {
        few = sound.few;
        segments = sound.segments;
        parts = sound.parts;
        inside = record {
          used = (let u = i.used in let n = ap length i.no_bytes in let m = ap names_size i.no_names in omega arith);
          short = omega arith;
          room = λ _. omega arith;
          bytes = (let n = i.no_bytes in rw n (All-nil IsPathByte));
          names = (let n = i.no_names in rw n (All-nil IsWord));
        };
      };
      on = λ rest q whole h.
          let f : FromParts r.done r.parts (b ∷ rest) q = goes_on_in r Between (b ∷ rest) q e h in
          let g = brace b rest f.more f.tail x (next_at r b rest q whole f) in
          record {
            more = g.name;
            others = g.names;
            after = parts_text g.ps ++ pattern_text f.tail;
            text = g.text;
            closed = same_begun (r.parts ++ Alternatives (g.name ∷ g.names) ∷ []) (r.parts ++ Alternatives (r.names ++ (r.bytes ++ g.name) ∷ g.names) ∷ [])
                (ap (λ (y : List ℕ). r.parts ++ Alternatives ((y ++ g.name) ∷ g.names) ∷ []) (sym i.no_bytes)
                ∙ ap (λ (y : List (List ℕ)). r.parts ++ Alternatives (y ++ (r.bytes ++ g.name) ∷ g.names) ∷ []) (sym i.no_names))
                (with_part (Alternatives (g.name ∷ g.names)) g.ps f g.goes);
          };
      back = λ rest q h.
          goes_on_out r Between (b ∷ rest) q e
          (same_rest (part_text (Alternatives (r.names ++ (r.bytes ++ h.more) ∷ h.others)) ++ h.after) (b ∷ rest)
          (alternatives_text r.names h.others r.bytes h.more h.after rest b i.no_names i.no_bytes h.text x)
          (without_part (Alternatives (r.names ++ (r.bytes ++ h.more) ∷ h.others)) h.closed));
    }

pub no_brace_full : (r : Reading) (b : ℕ) → b ≡ 123 → r.position ≡ Between → IsSound r → 64 < r.used + 3 → ReadsNoFurther r b
no_brace_full r b x e sound full rest q whole h =
    let i : IsBetween r = inside_in r Between e sound in
    let f : FromParts r.done r.parts (b ∷ rest) q = goes_on_in r Between (b ∷ rest) q e h in
    let g = brace b rest f.more f.tail x (next_at r b rest q whole f) in
    let u : r.used ≡ length (parts_text r.parts) = i.used in
    let m : length (parts_text f.more) ≡ length (part_text (Alternatives (g.name ∷ g.names))) + length (parts_text g.ps) = length-more f.more (Alternatives (g.name ∷ g.names)) g.ps g.goes in
    let s : length (parts_text r.parts) + length (parts_text f.more) ≤ 64 = parts_short whole f in
    let w : IsWord g.name =
    All-head IsWord g.name g.names (All-head IsPart (Alternatives (g.name ∷ g.names)) g.ps (let all = more_good whole f in let goes = g.goes in subst (All IsPart) goes all)).1 in
    let some : 0 < length g.name = w.nonempty in
    let k : length (names_text (g.name ∷ g.names) ++ 125 ∷ []) ≡ length (names_text (g.name ∷ g.names)) + 1 = length-append (names_text (g.name ∷ g.names)) (125 ∷ []) in
    let j : length (names_text (g.name ∷ g.names)) ≡ length g.name + length (flat_map (λ other. 44 ∷ other) g.names) = length-append g.name (flat_map (λ other. 44 ∷ other) g.names) in
    omega arith

-- both at once, as the code has them
pub opens_reads_on : (r : Reading) (position : Position) (b : ℕ) → IsOpening position b → r.position ≡ Between → IsSound r → r.used + 3 ≤ 64
    → ReadsOn r b (record { done = r.done; parts = r.parts; names = r.names; bytes = r.bytes; position = position; used = r.used + 1 })
opens_reads_on r Between b x e sound room = absurd x
opens_reads_on r InSet b x e sound room = bracket_reads_on r b x e sound room
opens_reads_on r InAlternatives b x e sound room = brace_reads_on r b x e sound room

pub no_opening : (r : Reading) (position : Position) (b : ℕ) → IsOpening position b → r.position ≡ Between → IsSound r → 64 < r.used + 3 → ReadsNoFurther r b
no_opening r Between b x e sound full = absurd x
no_opening r InSet b x e sound full = no_bracket_full r b x e sound full
no_opening r InAlternatives b x e sound full = no_brace_full r b x e sound full

-- What a slash goes on with.
record GoesSlash (rest : List ℕ) (more : List Part) (tail : List Segment) : Type 0 where
  next : Segment
  others : List Segment
  ended : more ≡ []
  after : tail ≡ next ∷ others
  text : rest ≡ segment_text next ++ pattern_text others

slash : (rest : List ℕ) (more : List Part) (tail : List Segment) → Next 47 rest more tail → GoesSlash rest more tail
slash rest more tail (Next.at_slash s ss x m t y) = record { next = s; others = ss; ended = m; after = t; text = y }
slash rest more tail (Next.at_byte ps p m y) = absurd (no_slash 47 refl p)
slash rest more tail (Next.at_star ps x m y) = absurd (omega arith)
slash rest more tail (Next.at_mark ps x m y) = absurd (omega arith)
slash rest more tail (Next.at_set bytes ps x m y) = absurd (omega arith)
slash rest more tail (Next.at_alternatives name names ps x m y) = absurd (omega arith)

whole_slash : (q done tail others : List Segment) (segment closed next : Segment) → q ≡ done ++ segment ∷ tail → segment ≡ closed → tail ≡ next ∷ others
    → q ≡ (done ++ closed ∷ []) ++ next ∷ others
whole_slash q done tail others segment closed next w s t = rw (w, s, t) (sym (append_assoc done (closed ∷ []) (next ∷ others)))

pub slash_reads_on : (r : Reading) (closed : Segment) → r.position ≡ Between → IsSound r → IsSegmentOf r.parts closed → 0 < length r.parts → length r.done + 1 < 16
    → ReadsOn r 47 (record { done = r.done ++ closed ∷ []; parts = []; names = r.names; bytes = r.bytes; position = r.position; used = 0 })
slash_reads_on r closed e sound is some room =
    let i : IsBetween r = inside_in r Between e sound in
    let new : Reading = record { done = r.done ++ closed ∷ []; parts = []; names = r.names; bytes = r.bytes; position = r.position; used = 0 } in
    record {
      sound = record {
        few = (let n = length-append r.done (closed ∷ []) in omega arith);
        segments = All-push IsPatternSegment r.done closed sound.segments
            (good_segment closed r.parts is sound.parts some (let u = i.used in let s = i.short in omega arith));
        parts = All-nil IsPart;
        inside = inside_out new Between e (record { used = refl; short = omega arith; no_names = i.no_names; no_bytes = i.no_bytes });
      };
      on = λ rest q whole h.
          let f : FromParts r.done r.parts (47 ∷ rest) q = goes_on_in r Between (47 ∷ rest) q e h in
          let g = slash rest f.more f.tail (next_at r 47 rest q whole f) in
          let its : parts_of f.segment ≡ r.parts = f.its_parts ∙ (ap (λ x. r.parts ++ x) g.ended ∙ append-nil r.parts) in
          goes_on_out new Between rest q e (record {
            segment = g.next;
            more = parts_of g.next;
            tail = g.others;
            whole = whole_slash q r.done f.tail g.others f.segment closed g.next f.whole (same_segment f.segment closed r.parts (segment_good whole f) its is) g.after;
            its_parts = refl;
            text = g.text ∙ ap (λ x. x ++ pattern_text g.others) (segment_text-parts g.next);
          });
      back = λ rest q h.
          let f : FromParts (r.done ++ closed ∷ []) [] rest q = goes_on_in new Between rest q e h in
          goes_on_out r Between (47 ∷ rest) q e (record {
            segment = closed;
            more = [];
            tail = f.segment ∷ f.tail;
            whole = f.whole ∙ append_assoc r.done (closed ∷ []) (f.segment ∷ f.tail);
            its_parts = is.same ∙ sym (append-nil r.parts);
            text = ap (λ x. 47 ∷ x) (f.text ∙ (ap (λ x. parts_text x ++ pattern_text f.tail) (sym f.its_parts) ∙ ap (λ x. x ++ pattern_text f.tail) (sym (segment_text-parts f.segment))));
          });
    }

pub no_slash_empty : (r : Reading) → r.position ≡ Between → r.parts ≡ [] → ReadsNoFurther r 47
no_slash_empty r e none rest q whole h =
    let f : FromParts r.done r.parts (47 ∷ rest) q = goes_on_in r Between (47 ∷ rest) q e h in
    let g = slash rest f.more f.tail (next_at r 47 rest q whole f) in
    let s : 0 < length r.parts + length f.more = parts_some whole f in
    let n = ap length none in
    let m = ap length g.ended in
    omega arith

length_slash : (q done tail others : List Segment) (segment next : Segment) → q ≡ done ++ segment ∷ tail → tail ≡ next ∷ others
    → length q ≡ length done + length (segment ∷ next ∷ others)
length_slash q done tail others segment next w t = rw (w, t) (length-append done (segment ∷ next ∷ others))

pub no_slash_full : (r : Reading) → r.position ≡ Between → length r.done + 1 ≡ 16 → ReadsNoFurther r 47
no_slash_full r e full rest q whole h =
    let f : FromParts r.done r.parts (47 ∷ rest) q = goes_on_in r Between (47 ∷ rest) q e h in
    let g = slash rest f.more f.tail (next_at r 47 rest q whole f) in
    let n = length_slash q r.done f.tail g.others f.segment g.next f.whole g.after in
    let few : length q ≤ 16 = whole.few in
    omega arith
