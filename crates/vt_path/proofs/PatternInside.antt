use Rattle.std.proofs.Common.{◌≡◌, ℕ, ◌+◌, ◌<◌, ◌≤◌, List, [], ◌∷◌, ◌++◌, length, refl, sym, ◌∙◌, ap, subst, arith, append_assoc, length-append, suc}
use Rattle.std.specs.List.{All}
use Rattle.std.proofs.lemmas.List.{append-nil}
use Rattle.std.proofs.lemmas.List.Elements.{All-head, All-push}
use Rattle.vt_path.specs.Byte.{IsPathByte}
use Rattle.vt_path.specs.Pattern.{IsPattern, IsPart, IsWord, part_text, parts_text}
use Rattle.vt_path.specs.private.PatternReading.{Reading, GoesOnTo, IsInSet, IsSound, ReadsOn, ReadsNoFurther, FromParts, FromSet}
use Rattle.vt_path.specs.declared.pattern.Segment.{Segment}
use Rattle.vt_path.specs.declared.pattern.Part.{Part}
use Rattle.vt_path.specs.declared.pattern.Part.TheVariants.{Set}
use Rattle.vt_path.specs.declared.pattern_reader.Position.TheVariants.{Between, InSet}
use Rattle.vt_path.proofs.ByteLemmas.{no_closing_bracket}
use Rattle.vt_path.proofs.Lists.{All-prefix, All-back, All-middle}
use Rattle.vt_path.proofs.PatternNext.{parts_good, parts_short, same_begun}
use Rattle.vt_path.proofs.PatternReadsOn.{goes_on_in, goes_on_out, inside_in, inside_out, length-with}

-- what bytes and an end go on with, by their first byte
pub data NextInside (end b : ℕ) (rest more after : List ℕ) : Type 0 where
  at_end : b ≡ end → more ≡ [] → rest ≡ after → NextInside end b rest more after
  at_byte : (later : List ℕ) → IsPathByte b → more ≡ b ∷ later → rest ≡ later ++ end ∷ after → NextInside end b rest more after

next_inside : (end b : ℕ) (rest more after : List ℕ) → All IsPathByte more → b ∷ rest ≡ more ++ end ∷ after → NextInside end b rest more after
next_inside end b rest [] after all e =
    let z : b ∷ rest ≡ end ∷ after = e in
    let x : b ≡ end = cc in
    let y : rest ≡ after = cc in
    NextInside.at_end x refl y
next_inside end b rest (c ∷ cs) after all e =
    let z : b ∷ rest ≡ c ∷ (cs ++ end ∷ after) = e in
    let x : c ≡ b = cc in
    let y : rest ≡ cs ++ end ∷ after = cc in
    NextInside.at_byte cs (subst IsPathByte x (All-head IsPathByte c cs all)) (ap (λ z. z ∷ cs) x) y

module _ (r : Reading) (e : r.position ≡ InSet) where
  set_in : (rest : List ℕ) (q : List Segment) → GoesOnTo r rest q → FromSet r.done r.parts r.bytes rest q
  set_in rest q h = goes_on_in r InSet rest q e h

  -- the brackets, whole
  set_word : {rest : List ℕ} {q : List Segment} → IsPattern q → (h : FromSet r.done r.parts r.bytes rest q) → IsWord (r.bytes ++ h.more)
  set_word good h =
      All-middle IsPart r.parts (Set (r.bytes ++ h.more)) [] (All-prefix IsPart (r.parts ++ Set (r.bytes ++ h.more) ∷ []) h.closed.more (parts_good good h.closed))

  set_short : {rest : List ℕ} {q : List Segment} → IsPattern q → (h : FromSet r.done r.parts r.bytes rest q)
      → length (parts_text r.parts) + 2 + length r.bytes + length h.more ≤ 64
  set_short good h =
      let p : Part = Set (r.bytes ++ h.more) in
      let s = parts_short good h.closed in
      let n : length (parts_text (r.parts ++ Set (r.bytes ++ h.more) ∷ [])) ≡ length (parts_text r.parts) + length (part_text (Set (r.bytes ++ h.more))) = length-with r.parts (Set (r.bytes ++ h.more)) in
      let k : length ((r.bytes ++ h.more) ++ 93 ∷ []) ≡ length (r.bytes ++ h.more) + 1 = length-append (r.bytes ++ h.more) (93 ∷ []) in
      let j : length (r.bytes ++ h.more) ≡ length r.bytes + length h.more = length-append r.bytes h.more in
      omega arith

  set_next : (b : ℕ) (rest : List ℕ) (q : List Segment) → IsPattern q → (h : FromSet r.done r.parts r.bytes (b ∷ rest) q) → NextInside 93 b rest h.more h.after
  set_next b rest q good h = next_inside 93 b rest h.more h.after (All-back IsPathByte r.bytes h.more (set_word good h).bytes) h.text

  -- one byte more in brackets
  pub set_byte_reads_on : (b : ℕ) → IsSound r → IsPathByte b → r.used + 2 ≤ 64
      → ReadsOn r b (record { done = r.done; parts = r.parts; names = r.names; bytes = r.bytes ++ b ∷ []; position = r.position; used = r.used + 1 })
  set_byte_reads_on b sound path room =
      let i : IsInSet r = inside_in r InSet e sound in
      let new : Reading = record { done = r.done; parts = r.parts; names = r.names; bytes = r.bytes ++ b ∷ []; position = r.position; used = r.used + 1 } in
      let n : length (r.bytes ++ b ∷ []) ≡ length r.bytes + 1 = length-append r.bytes (b ∷ []) in
      record {
        sound = record {
          few = sound.few;
          segments = sound.segments;
          parts = sound.parts;
          inside = inside_out new InSet e (record {
            used = (let u = i.used in omega arith);
            short = omega arith;
            room = λ none. absurd (omega arith);
            bytes = All-push IsPathByte r.bytes b i.bytes path;
            no_names = i.no_names;
          });
        };
        on = λ rest q whole h.
            let f = set_in (b ∷ rest) q h in
            goes_on_out new InSet rest q e (goes b rest q path f (set_next b rest q whole f));
        back = λ rest q h.
            let f : FromSet r.done r.parts (r.bytes ++ b ∷ []) rest q = goes_on_in new InSet rest q e h in
            goes_on_out r InSet (b ∷ rest) q e (record {
              more = b ∷ f.more;
              after = f.after;
              text = ap (λ x. b ∷ x) f.text;
              closed = same_begun (r.parts ++ Set ((r.bytes ++ b ∷ []) ++ f.more) ∷ []) (r.parts ++ Set (r.bytes ++ b ∷ f.more) ∷ [])
                  (ap (λ (x : List ℕ). r.parts ++ Set x ∷ []) (append_assoc r.bytes (b ∷ []) f.more)) f.closed;
            });
      } where
        goes : (b : ℕ) (rest : List ℕ) (q : List Segment) → IsPathByte b → (f : FromSet r.done r.parts r.bytes (b ∷ rest) q) → NextInside 93 b rest f.more f.after
            → FromSet r.done r.parts (r.bytes ++ b ∷ []) rest q
        goes b rest q path f (NextInside.at_end x m y) = absurd (no_closing_bracket b x path)
        goes b rest q path f (NextInside.at_byte later p m y) = record {
          more = later;
          after = f.after;
          text = y;
          closed = same_begun (r.parts ++ Set (r.bytes ++ f.more) ∷ []) (r.parts ++ Set ((r.bytes ++ b ∷ []) ++ later) ∷ [])
              (ap (λ (x : List ℕ). r.parts ++ Set (r.bytes ++ x) ∷ []) m ∙ ap (λ (x : List ℕ). r.parts ++ Set x ∷ []) (sym (append_assoc r.bytes (b ∷ []) later))) f.closed;
        }

  pub no_set_byte_full : (b : ℕ) → IsSound r → IsPathByte b → 64 < r.used + 2 → ReadsNoFurther r b
  no_set_byte_full b sound path full rest q whole h =
      let f = set_in (b ∷ rest) q h in goes b rest q sound path full whole f (set_next b rest q whole f) where
        goes : (b : ℕ) (rest : List ℕ) (q : List Segment) → IsSound r → IsPathByte b → 64 < r.used + 2 → IsPattern q → (f : FromSet r.done r.parts r.bytes (b ∷ rest) q)
            → NextInside 93 b rest f.more f.after → ⊥
        goes b rest q sound path full whole f (NextInside.at_end x m y) = no_closing_bracket b x path
        goes b rest q sound path full whole f (NextInside.at_byte later p m y) =
            let i : IsInSet r = inside_in r InSet e sound in
            let u = i.used in
            let s = set_short whole f in
            let n : length f.more ≡ suc (length later) = ap length m in
            omega arith

  pub no_set_other : (b : ℕ) → (IsPathByte b → ⊥) → (b ≡ 93 → ⊥) → ReadsNoFurther r b
  no_set_other b path end rest q whole h =
      let f = set_in (b ∷ rest) q h in goes (set_next b rest q whole f) where
        goes : {more after : List ℕ} → NextInside 93 b rest more after → ⊥
        goes (NextInside.at_end x m y) = end x
        goes (NextInside.at_byte later p m y) = path p

  -- the closing bracket
  pub set_end_reads_on : IsSound r → 0 < length r.bytes
      → ReadsOn r 93 (record { done = r.done; parts = r.parts ++ Set r.bytes ∷ []; names = r.names; bytes = []; position = Between; used = r.used + 1 })
  set_end_reads_on sound some =
      let i : IsInSet r = inside_in r InSet e sound in
      let n : length (parts_text (r.parts ++ Set r.bytes ∷ [])) ≡ length (parts_text r.parts) + length (part_text (Set r.bytes)) = length-with r.parts (Set r.bytes) in
      let k : length (r.bytes ++ 93 ∷ []) ≡ length r.bytes + 1 = length-append r.bytes (93 ∷ []) in
      record {
        sound = record {
          few = sound.few;
          segments = sound.segments;
          parts = All-push IsPart r.parts (Set r.bytes) sound.parts (record { nonempty = some; bytes = i.bytes });
          inside = record { used = (let u = i.used in omega arith); short = i.short; no_names = i.no_names; no_bytes = refl };
        };
        on = λ rest q whole h. let f = set_in (93 ∷ rest) q h in goes rest q f (set_next 93 rest q whole f);
        back = λ rest q h.
            goes_on_out r InSet (93 ∷ rest) q e (record {
              more = [];
              after = rest;
              text = refl;
              closed = same_begun (r.parts ++ Set r.bytes ∷ []) (r.parts ++ Set (r.bytes ++ []) ∷ []) (ap (λ (x : List ℕ). r.parts ++ Set x ∷ []) (sym (append-nil r.bytes))) h;
            });
      } where
        goes : (rest : List ℕ) (q : List Segment) → (f : FromSet r.done r.parts r.bytes (93 ∷ rest) q) → NextInside 93 93 rest f.more f.after
            → FromParts r.done (r.parts ++ Set r.bytes ∷ []) rest q
        goes rest q f (NextInside.at_end x m y) =
            let P : List ℕ → Type 0 = λ z. FromParts r.done (r.parts ++ Set r.bytes ∷ []) z q in
            let c : P f.after = same_begun (r.parts ++ Set (r.bytes ++ f.more) ∷ []) (r.parts ++ Set r.bytes ∷ [])
            (ap (λ (x : List ℕ). r.parts ++ Set (r.bytes ++ x) ∷ []) m ∙ ap (λ (x : List ℕ). r.parts ++ Set x ∷ []) (append-nil r.bytes)) f.closed in
            subst P (sym y) c
        goes rest q f (NextInside.at_byte later p m y) = absurd (no_closing_bracket 93 refl p)

  pub no_set_end : r.bytes ≡ [] → ReadsNoFurther r 93
  no_set_end none rest q whole h =
      let f = set_in (93 ∷ rest) q h in goes rest q whole f (set_next 93 rest q whole f) where
        goes : (rest : List ℕ) (q : List Segment) → IsPattern q → (f : FromSet r.done r.parts r.bytes (93 ∷ rest) q) → NextInside 93 93 rest f.more f.after → ⊥
        goes rest q whole f (NextInside.at_end x m y) =
            let w : 0 < length (r.bytes ++ f.more) = (set_word whole f).nonempty in
            let n : length (r.bytes ++ f.more) ≡ length r.bytes + length f.more = length-append r.bytes f.more in
            let j = ap length none in
            let k = ap length m in
            omega arith
        goes rest q whole f (NextInside.at_byte later p m y) = no_closing_bracket 93 refl p
