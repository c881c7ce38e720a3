use Rattle.std.proofs.Common.{◌≡◌, ℕ, ◌+◌, ◌<◌, ◌≤◌, List, [], ◌∷◌, ◌++◌, length, refl, sym, ◌∙◌, ap, subst, arith, append_assoc, length-append, suc}
use Rattle.std.specs.List.{All, flat_map}
use Rattle.std.proofs.lemmas.List.{append-nil}
use Rattle.std.proofs.lemmas.List.Elements.{All-head, All-tail, All-nil, All-push}
use Rattle.vt_path.specs.Byte.{IsPathByte}
use Rattle.vt_path.specs.Pattern.{IsPattern, IsPart, IsWord, part_text, parts_text, names_text}
use Rattle.vt_path.specs.private.PatternReading.{Reading, GoesOnTo, IsInAlternatives, IsSound, ReadsOn, ReadsNoFurther, FromParts, FromAlternatives, names_size}
use Rattle.vt_path.specs.declared.pattern.Segment.{Segment}
use Rattle.vt_path.specs.declared.pattern.Part.{Part}
use Rattle.vt_path.specs.declared.pattern.Part.TheVariants.{Alternatives}
use Rattle.vt_path.specs.declared.pattern_reader.Position.TheVariants.{Between, InAlternatives}
use Rattle.vt_path.proofs.ByteLemmas.{no_closing_brace, no_comma}
use Rattle.vt_path.proofs.Lists.{All-prefix, All-back, All-middle}
use Rattle.vt_path.proofs.PatternNext.{parts_good, parts_short, same_begun}
use Rattle.vt_path.proofs.PatternReadsOn.{goes_on_in, goes_on_out, inside_in, inside_out, length-with}

-- what the bytes of an alternative, the others and the brace go on with
pub data NextName (b : ℕ) (rest more : List ℕ) (others : List (List ℕ)) (after : List ℕ) : Type 0 where
  at_comma : (name : List ℕ) (names : List (List ℕ)) → b ≡ 44 → more ≡ [] → others ≡ name ∷ names
      → rest ≡ name ++ (flat_map (λ other. 44 ∷ other) names ++ 125 ∷ after) → NextName b rest more others after
  at_end : b ≡ 125 → more ≡ [] → others ≡ [] → rest ≡ after → NextName b rest more others after
  at_byte : (later : List ℕ) → IsPathByte b → more ≡ b ∷ later → rest ≡ later ++ (flat_map (λ other. 44 ∷ other) others ++ 125 ∷ after)
      → NextName b rest more others after

next_name : (b : ℕ) (rest more : List ℕ) (others : List (List ℕ)) (after : List ℕ) → All IsPathByte more
    → b ∷ rest ≡ more ++ (flat_map (λ other. 44 ∷ other) others ++ 125 ∷ after) → NextName b rest more others after
next_name b rest [] [] after all e =
    let z : b ∷ rest ≡ 125 ∷ after = e in
    let x : b ≡ 125 = cc in
    let y : rest ≡ after = cc in
    NextName.at_end x refl refl y
next_name b rest [] (n ∷ ns) after all e =
    let z : b ∷ rest ≡ 44 ∷ ((n ++ flat_map (λ other. 44 ∷ other) ns) ++ 125 ∷ after) = e in
    let x : b ≡ 44 = cc in
    let y : rest ≡ (n ++ flat_map (λ other. 44 ∷ other) ns) ++ 125 ∷ after = cc in
    NextName.at_comma n ns x refl refl (y ∙ append_assoc n (flat_map (λ other. 44 ∷ other) ns) (125 ∷ after))
next_name b rest (c ∷ cs) others after all e =
    let z : b ∷ rest ≡ c ∷ (cs ++ (flat_map (λ other. 44 ∷ other) others ++ 125 ∷ after)) = e in
    let x : c ≡ b = cc in
    let y : rest ≡ cs ++ (flat_map (λ other. 44 ∷ other) others ++ 125 ∷ after) = cc in
    NextName.at_byte cs (subst IsPathByte x (All-head IsPathByte c cs all)) (ap (λ z. z ∷ cs) x) y

-- how long alternatives are
length-commas : (others : List (List ℕ)) → length (flat_map (λ other. 44 ∷ other) others) ≡ names_size others
length-commas [] = refl
length-commas (n ∷ ns) =
    let k : length ((44 ∷ n) ++ flat_map (λ other. 44 ∷ other) ns) ≡ suc (length n) + length (flat_map (λ other. 44 ∷ other) ns) = length-append (44 ∷ n) _ in
    omega (arith, length-commas ns)

names_size-append : (names others : List (List ℕ)) → names_size (names ++ others) ≡ names_size names + names_size others
names_size-append [] others = omega arith
names_size-append (n ∷ ns) others = omega (arith, names_size-append ns others)

length-names_text : (names : List (List ℕ)) → 0 < length names → length (names_text names) + 1 ≡ names_size names
length-names_text [] some = absurd (omega arith)
length-names_text (n ∷ ns) some =
    let k : length (n ++ flat_map (λ other. 44 ∷ other) ns) ≡ length n + length (flat_map (λ other. 44 ∷ other) ns) = length-append n _ in
    omega (arith, length-commas ns)

length-alternatives : (names : List (List ℕ)) → 0 < length names → length (part_text (Alternatives names)) ≡ names_size names + 1
length-alternatives names some =
    let k : length (names_text names ++ 125 ∷ []) ≡ length (names_text names) + 1 = length-append (names_text names) (125 ∷ []) in
    omega (arith, length-names_text names some)

-- alternatives with one in the middle
pub length-middle : (names others : List (List ℕ)) (name : List ℕ) → length (part_text (Alternatives (names ++ name ∷ others))) ≡ names_size names + length name + 1 + names_size others + 1
length-middle names others name =
    let k : length (names ++ name ∷ others) ≡ length names + suc (length others) = length-append names (name ∷ others) in
    omega (arith, length-alternatives (names ++ name ∷ others) (omega arith), names_size-append names (name ∷ others))

module _ (r : Reading) (e : r.position ≡ InAlternatives) where
  names_in : (rest : List ℕ) (q : List Segment) → GoesOnTo r rest q → FromAlternatives r.done r.parts r.names r.bytes rest q
  names_in rest q h = goes_on_in r InAlternatives rest q e h

  -- the alternatives, whole
  names_words : {rest : List ℕ} {q : List Segment} → IsPattern q → (h : FromAlternatives r.done r.parts r.names r.bytes rest q)
      → All IsWord (r.names ++ (r.bytes ++ h.more) ∷ h.others)
  names_words good h =
      (All-middle IsPart r.parts (Alternatives (r.names ++ (r.bytes ++ h.more) ∷ h.others)) []
      (All-prefix IsPart (r.parts ++ Alternatives (r.names ++ (r.bytes ++ h.more) ∷ h.others) ∷ []) h.closed.more (parts_good good h.closed))).1

  names_word : {rest : List ℕ} {q : List Segment} → IsPattern q → (h : FromAlternatives r.done r.parts r.names r.bytes rest q) → IsWord (r.bytes ++ h.more)
  names_word good h = All-middle IsWord r.names (r.bytes ++ h.more) h.others (names_words good h)

  names_short : {rest : List ℕ} {q : List Segment} → IsPattern q → (h : FromAlternatives r.done r.parts r.names r.bytes rest q)
      → length (parts_text r.parts) + names_size r.names + length r.bytes + length h.more + names_size h.others + 2 ≤ 64
  names_short good h =
      let p : Part = Alternatives (r.names ++ (r.bytes ++ h.more) ∷ h.others) in
      let s = parts_short good h.closed in
      let n : length (parts_text (r.parts ++ Alternatives (r.names ++ (r.bytes ++ h.more) ∷ h.others) ∷ []))
      ≡ length (parts_text r.parts) + length (part_text (Alternatives (r.names ++ (r.bytes ++ h.more) ∷ h.others)))
      = length-with r.parts (Alternatives (r.names ++ (r.bytes ++ h.more) ∷ h.others)) in
      let k = length-middle r.names h.others (r.bytes ++ h.more) in
      let j : length (r.bytes ++ h.more) ≡ length r.bytes + length h.more = length-append r.bytes h.more in
      omega arith

  names_next : (b : ℕ) (rest : List ℕ) (q : List Segment) → IsPattern q → (h : FromAlternatives r.done r.parts r.names r.bytes (b ∷ rest) q)
      → NextName b rest h.more h.others h.after
  names_next b rest q good h = next_name b rest h.more h.others h.after (All-back IsPathByte r.bytes h.more (names_word good h).bytes) h.text

  -- one byte more in an alternative
  pub name_byte_reads_on : (b : ℕ) → IsSound r → IsPathByte b → r.used + 2 ≤ 64
      → ReadsOn r b (record { done = r.done; parts = r.parts; names = r.names; bytes = r.bytes ++ b ∷ []; position = r.position; used = r.used + 1 })
  name_byte_reads_on b sound path room =
      let i : IsInAlternatives r = inside_in r InAlternatives e sound in
      let new : Reading = record { done = r.done; parts = r.parts; names = r.names; bytes = r.bytes ++ b ∷ []; position = r.position; used = r.used + 1 } in
      let n : length (r.bytes ++ b ∷ []) ≡ length r.bytes + 1 = length-append r.bytes (b ∷ []) in
      record {
        sound = record {
          few = sound.few;
          segments = sound.segments;
          parts = sound.parts;
          inside = inside_out new InAlternatives e (record {
            used = (let u = i.used in omega arith);
            short = omega arith;
            room = λ none. absurd (omega arith);
            bytes = All-push IsPathByte r.bytes b i.bytes path;
            names = i.names;
          });
        };
        on = λ rest q whole h.
            let f = names_in (b ∷ rest) q h in
            goes_on_out new InAlternatives rest q e (goes b rest q path f (names_next b rest q whole f));
        back = λ rest q h.
            let f : FromAlternatives r.done r.parts r.names (r.bytes ++ b ∷ []) rest q = goes_on_in new InAlternatives rest q e h in
            goes_on_out r InAlternatives (b ∷ rest) q e (record {
              more = b ∷ f.more;
              others = f.others;
              after = f.after;
              text = ap (λ x. b ∷ x) f.text;
              closed = same_begun (r.parts ++ Alternatives (r.names ++ ((r.bytes ++ b ∷ []) ++ f.more) ∷ f.others) ∷ []) (r.parts ++ Alternatives (r.names ++ (r.bytes ++ b ∷ f.more) ∷ f.others) ∷ [])
                  (ap (λ (x : List ℕ). r.parts ++ Alternatives (r.names ++ x ∷ f.others) ∷ []) (append_assoc r.bytes (b ∷ []) f.more)) f.closed;
            });
      } where
        goes : (b : ℕ) (rest : List ℕ) (q : List Segment) → IsPathByte b → (f : FromAlternatives r.done r.parts r.names r.bytes (b ∷ rest) q)
            → NextName b rest f.more f.others f.after → FromAlternatives r.done r.parts r.names (r.bytes ++ b ∷ []) rest q
        goes b rest q path f (NextName.at_comma name names x m t y) = absurd (no_comma b x path)
        goes b rest q path f (NextName.at_end x m t y) = absurd (no_closing_brace b x path)
        goes b rest q path f (NextName.at_byte later p m y) = record {
          more = later;
          others = f.others;
          after = f.after;
          text = y;
          closed = same_begun (r.parts ++ Alternatives (r.names ++ (r.bytes ++ f.more) ∷ f.others) ∷ []) (r.parts ++ Alternatives (r.names ++ ((r.bytes ++ b ∷ []) ++ later) ∷ f.others) ∷ [])
              (ap (λ (x : List ℕ). r.parts ++ Alternatives (r.names ++ (r.bytes ++ x) ∷ f.others) ∷ []) m
              ∙ ap (λ (x : List ℕ). r.parts ++ Alternatives (r.names ++ x ∷ f.others) ∷ []) (sym (append_assoc r.bytes (b ∷ []) later))) f.closed;
        }

  pub no_name_byte_full : (b : ℕ) → IsSound r → IsPathByte b → 64 < r.used + 2 → ReadsNoFurther r b
  no_name_byte_full b sound path full rest q whole h =
      let f = names_in (b ∷ rest) q h in goes b rest q sound path full whole f (names_next b rest q whole f) where
        goes : (b : ℕ) (rest : List ℕ) (q : List Segment) → IsSound r → IsPathByte b → 64 < r.used + 2 → IsPattern q
            → (f : FromAlternatives r.done r.parts r.names r.bytes (b ∷ rest) q) → NextName b rest f.more f.others f.after → ⊥
        goes b rest q sound path full whole f (NextName.at_comma name names x m t y) = no_comma b x path
        goes b rest q sound path full whole f (NextName.at_end x m t y) = no_closing_brace b x path
        goes b rest q sound path full whole f (NextName.at_byte later p m y) =
            let i : IsInAlternatives r = inside_in r InAlternatives e sound in
            let u = i.used in
            let s = names_short whole f in
            let n : length f.more ≡ suc (length later) = ap length m in
            omega arith

  pub no_name_other : (b : ℕ) → (IsPathByte b → ⊥) → (b ≡ 44 → ⊥) → (b ≡ 125 → ⊥) → ReadsNoFurther r b
  no_name_other b path comma end rest q whole h =
      let f = names_in (b ∷ rest) q h in goes (names_next b rest q whole f) where
        goes : {more : List ℕ} {others : List (List ℕ)} {after : List ℕ} → NextName b rest more others after → ⊥
        goes (NextName.at_comma name names x m t y) = comma x
        goes (NextName.at_end x m t y) = end x
        goes (NextName.at_byte later p m y) = path p

  -- the comma
  pub comma_reads_on : IsSound r → 0 < length r.bytes → r.used + 3 ≤ 64
      → ReadsOn r 44 (record { done = r.done; parts = r.parts; names = r.names ++ r.bytes ∷ []; bytes = []; position = r.position; used = r.used + 1 })
  comma_reads_on sound some room =
      let i : IsInAlternatives r = inside_in r InAlternatives e sound in
      let new : Reading = record { done = r.done; parts = r.parts; names = r.names ++ r.bytes ∷ []; bytes = []; position = r.position; used = r.used + 1 } in
      let n : names_size (r.names ++ r.bytes ∷ []) ≡ names_size r.names + names_size (r.bytes ∷ []) = names_size-append r.names (r.bytes ∷ []) in
      record {
        sound = record {
          few = sound.few;
          segments = sound.segments;
          parts = sound.parts;
          inside = inside_out new InAlternatives e (record {
            used = (let u = i.used in omega arith);
            short = omega arith;
            room = λ _. omega arith;
            bytes = All-nil IsPathByte;
            names = All-push IsWord r.names r.bytes i.names (record { nonempty = some; bytes = i.bytes });
          });
        };
        on = λ rest q whole h.
            let f = names_in (44 ∷ rest) q h in
            goes_on_out new InAlternatives rest q e (goes rest q f (names_next 44 rest q whole f));
        back = λ rest q h.
            let f : FromAlternatives r.done r.parts (r.names ++ r.bytes ∷ []) [] rest q = goes_on_in new InAlternatives rest q e h in
            goes_on_out r InAlternatives (44 ∷ rest) q e (record {
              more = [];
              others = f.more ∷ f.others;
              after = f.after;
              text = ap (λ x. 44 ∷ x) (f.text ∙ sym (append_assoc f.more (flat_map (λ other. 44 ∷ other) f.others) (125 ∷ f.after)));
              closed = same_begun (r.parts ++ Alternatives ((r.names ++ r.bytes ∷ []) ++ f.more ∷ f.others) ∷ []) (r.parts ++ Alternatives (r.names ++ (r.bytes ++ []) ∷ f.more ∷ f.others) ∷ [])
                  (ap (λ (x : List (List ℕ)). r.parts ++ Alternatives x ∷ []) (append_assoc r.names (r.bytes ∷ []) (f.more ∷ f.others))
                  ∙ ap (λ (x : List ℕ). r.parts ++ Alternatives (r.names ++ x ∷ f.more ∷ f.others) ∷ []) (sym (append-nil r.bytes))) f.closed;
            });
      } where
        goes : (rest : List ℕ) (q : List Segment) → (f : FromAlternatives r.done r.parts r.names r.bytes (44 ∷ rest) q)
            → NextName 44 rest f.more f.others f.after → FromAlternatives r.done r.parts (r.names ++ r.bytes ∷ []) [] rest q
        goes rest q f (NextName.at_comma name names x m t y) = record {
          more = name;
          others = names;
          after = f.after;
          text = y;
          closed = same_begun (r.parts ++ Alternatives (r.names ++ (r.bytes ++ f.more) ∷ f.others) ∷ []) (r.parts ++ Alternatives ((r.names ++ r.bytes ∷ []) ++ name ∷ names) ∷ [])
              (ap (λ (x : List ℕ). r.parts ++ Alternatives (r.names ++ (r.bytes ++ x) ∷ f.others) ∷ []) m
              ∙ (ap (λ (x : List ℕ). r.parts ++ Alternatives (r.names ++ x ∷ f.others) ∷ []) (append-nil r.bytes)
              ∙ (ap (λ (x : List (List ℕ)). r.parts ++ Alternatives (r.names ++ r.bytes ∷ x) ∷ []) t
              ∙ ap (λ (x : List (List ℕ)). r.parts ++ Alternatives x ∷ []) (sym (append_assoc r.names (r.bytes ∷ []) (name ∷ names)))))) f.closed;
        }
        goes rest q f (NextName.at_end x m t y) = absurd (omega arith)
        goes rest q f (NextName.at_byte later p m y) = absurd (no_comma 44 refl p)

  pub no_comma_empty : r.bytes ≡ [] → ReadsNoFurther r 44
  no_comma_empty none rest q whole h =
      let f = names_in (44 ∷ rest) q h in goes rest q whole f (names_next 44 rest q whole f) where
        goes : (rest : List ℕ) (q : List Segment) → IsPattern q → (f : FromAlternatives r.done r.parts r.names r.bytes (44 ∷ rest) q)
            → NextName 44 rest f.more f.others f.after → ⊥
        goes rest q whole f (NextName.at_comma name names x m t y) =
            let w : 0 < length (r.bytes ++ f.more) = (names_word whole f).nonempty in
            let n : length (r.bytes ++ f.more) ≡ length r.bytes + length f.more = length-append r.bytes f.more in
            let j = ap length none in
            let k = ap length m in
            omega arith
        goes rest q whole f (NextName.at_end x m t y) = omega arith
        goes rest q whole f (NextName.at_byte later p m y) = no_comma 44 refl p

  pub no_comma_full : IsSound r → 64 < r.used + 3 → ReadsNoFurther r 44
  no_comma_full sound full rest q whole h =
      let f = names_in (44 ∷ rest) q h in goes rest q sound full whole f (names_next 44 rest q whole f) where
        goes : (rest : List ℕ) (q : List Segment) → IsSound r → 64 < r.used + 3 → IsPattern q → (f : FromAlternatives r.done r.parts r.names r.bytes (44 ∷ rest) q)
            → NextName 44 rest f.more f.others f.after → ⊥
        goes rest q sound full whole f (NextName.at_comma name names x m t y) =
            let i : IsInAlternatives r = inside_in r InAlternatives e sound in
            let u = i.used in
            let s = names_short whole f in
            let others : All IsWord f.others = All-tail IsWord (r.bytes ++ f.more) f.others (All-back IsWord r.names ((r.bytes ++ f.more) ∷ f.others) (names_words whole f)) in
            let word : IsWord name = All-head IsWord name names (subst (All IsWord) t others) in
            let some : 0 < length name = word.nonempty in
            let n : names_size f.others ≡ length name + 1 + names_size names = ap names_size t in
            omega arith
        goes rest q sound full whole f (NextName.at_end x m t y) = omega arith
        goes rest q sound full whole f (NextName.at_byte later p m y) = no_comma 44 refl p

  -- the closing brace
  pub brace_end_reads_on : IsSound r → 0 < length r.bytes
      → ReadsOn r 125 (record { done = r.done; parts = r.parts ++ Alternatives (r.names ++ r.bytes ∷ []) ∷ []; names = []; bytes = []; position = Between; used = r.used + 1 })
  brace_end_reads_on sound some =
      let i : IsInAlternatives r = inside_in r InAlternatives e sound in
      let n : length (parts_text (r.parts ++ Alternatives (r.names ++ r.bytes ∷ []) ∷ [])) ≡ length (parts_text r.parts) + length (part_text (Alternatives (r.names ++ r.bytes ∷ [])))
      = length-with r.parts (Alternatives (r.names ++ r.bytes ∷ [])) in
      let k = length-middle r.names [] r.bytes in
      let j : length (r.names ++ r.bytes ∷ []) ≡ length r.names + 1 = length-append r.names (r.bytes ∷ []) in
      record {
        sound = record {
          few = sound.few;
          segments = sound.segments;
          parts = All-push IsPart r.parts (Alternatives (r.names ++ r.bytes ∷ [])) sound.parts
              (omega arith, All-push IsWord r.names r.bytes i.names (record { nonempty = some; bytes = i.bytes }));
          inside = record { used = (let u = i.used in omega arith); short = i.short; no_names = refl; no_bytes = refl };
        };
        on = λ rest q whole h. let f = names_in (125 ∷ rest) q h in goes rest q f (names_next 125 rest q whole f);
        back = λ rest q h.
            goes_on_out r InAlternatives (125 ∷ rest) q e (record {
              more = [];
              others = [];
              after = rest;
              text = refl;
              closed = same_begun (r.parts ++ Alternatives (r.names ++ r.bytes ∷ []) ∷ []) (r.parts ++ Alternatives (r.names ++ (r.bytes ++ []) ∷ []) ∷ [])
                  (ap (λ (x : List ℕ). r.parts ++ Alternatives (r.names ++ x ∷ []) ∷ []) (sym (append-nil r.bytes))) h;
            });
      } where
        goes : (rest : List ℕ) (q : List Segment) → (f : FromAlternatives r.done r.parts r.names r.bytes (125 ∷ rest) q)
            → NextName 125 rest f.more f.others f.after → FromParts r.done (r.parts ++ Alternatives (r.names ++ r.bytes ∷ []) ∷ []) rest q
        goes rest q f (NextName.at_end x m t y) =
            let P : List ℕ → Type 0 = λ z. FromParts r.done (r.parts ++ Alternatives (r.names ++ r.bytes ∷ []) ∷ []) z q in
            let c : P f.after = same_begun (r.parts ++ Alternatives (r.names ++ (r.bytes ++ f.more) ∷ f.others) ∷ []) (r.parts ++ Alternatives (r.names ++ r.bytes ∷ []) ∷ [])
            (ap (λ (x : List ℕ). r.parts ++ Alternatives (r.names ++ (r.bytes ++ x) ∷ f.others) ∷ []) m
            ∙ (ap (λ (x : List ℕ). r.parts ++ Alternatives (r.names ++ x ∷ f.others) ∷ []) (append-nil r.bytes)
            ∙ ap (λ (x : List (List ℕ)). r.parts ++ Alternatives (r.names ++ r.bytes ∷ x) ∷ []) t)) f.closed in
            subst P (sym y) c
        goes rest q f (NextName.at_comma name names x m t y) = absurd (omega arith)
        goes rest q f (NextName.at_byte later p m y) = absurd (no_closing_brace 125 refl p)

  pub no_brace_end : r.bytes ≡ [] → ReadsNoFurther r 125
  no_brace_end none rest q whole h =
      let f = names_in (125 ∷ rest) q h in goes rest q whole f (names_next 125 rest q whole f) where
        goes : (rest : List ℕ) (q : List Segment) → IsPattern q → (f : FromAlternatives r.done r.parts r.names r.bytes (125 ∷ rest) q)
            → NextName 125 rest f.more f.others f.after → ⊥
        goes rest q whole f (NextName.at_end x m t y) =
            let w : 0 < length (r.bytes ++ f.more) = (names_word whole f).nonempty in
            let n : length (r.bytes ++ f.more) ≡ length r.bytes + length f.more = length-append r.bytes f.more in
            let j = ap length none in
            let k = ap length m in
            omega arith
        goes rest q whole f (NextName.at_comma name names x m t y) = omega arith
        goes rest q whole f (NextName.at_byte later p m y) = no_closing_brace 125 refl p
