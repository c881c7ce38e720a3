-- Which bytes are a pattern can be told, and so the pattern of bytes is a function.
use Rattle.std.specs.Prelude.{◌≡◌, ◌≢◌, ◌⊎◌, ◌↔◌, ℕ, ◌<◌, ◌≤◌, List, [], ◌∷◌, ◌++◌, length, Option, Some, None}
use Rattle.std.specs.List.{All, flat_map}
use Rattle.std.proofs.Common.{inl, inr, refl, sym, ap, subst, ◌∙◌, arith}
use Rattle.vt_path.specs.Byte.{IsPathByte}
use Rattle.vt_frac.proofs.Decision.{Decision, holds, fails, both, three, denied, one_of, alike, is_at_most}
use Rattle.vt_path.proofs.TextsDecided.{is_filled, are_same, is_begun, Enclosed, is_enclosed, IsTextOf, AreTextsOf, are_texts, length-values}
use Rattle.vt_path.proofs.PathDecided.{path_byte_decided, path_bytes_decided}
use Rattle.vt_path.specs.Pattern.{IsPattern, IsPatternText, IsPatternSegment, IsPart, IsWord, names_text, part_text, parts_text, segment_text, pattern_text}
use Rattle.vt_path.specs.declared.pattern.Segment.{Segment}
use Rattle.vt_path.specs.declared.pattern.Segment.TheVariants.{AnySegments, Parts}
use Rattle.vt_path.specs.declared.pattern.Part.{Part}
use Rattle.vt_path.specs.declared.pattern.Part.TheVariants.{Byte, AnyBytes, AnyByte, Set, Alternatives}

word_decided : (bytes : List ℕ) → Decision (IsWord bytes)
word_decided bytes =
    alike (λ p. record { nonempty = p.0; bytes = p.1 }) (λ w. (w.nonempty, w.bytes)) (both (is_filled bytes) (path_bytes_decided bytes))

-- Alternatives

abbrev comma_text : List ℕ → List ℕ
comma_text name = 44 ∷ name

comma_word : (bytes : List ℕ) → Decision (IsTextOf IsWord comma_text bytes)
comma_word bytes =
    alike
    (λ h. record { value = h.rest; good = h.fact; written = h.whole })
    (λ h. record { rest = h.value; whole = h.written; fact = h.good })
    (is_begun 44 IsWord word_decided bytes)

-- these bytes, with a comma before them, are words each with its comma
abbrev AreNames : List ℕ → Type 0
AreNames bytes = AreTextsOf IsWord comma_text (length (44 ∷ bytes)) (44 ∷ bytes)

names_decided : (bytes : List ℕ) → Decision (AreNames bytes)
names_decided bytes = are_texts IsWord comma_text comma_word (length (44 ∷ bytes)) (44 ∷ bytes)

comma_before : (names : List (List ℕ)) → 0 < length names → flat_map comma_text names ≡ 44 ∷ names_text names
comma_before [] some = absurd (omega arith)
comma_before (name ∷ names) some = refl

after_comma : (bytes text : List ℕ) → 44 ∷ bytes ≡ 44 ∷ text → bytes ≡ text
after_comma bytes text e = cc

-- alternatives as they are written, without their braces
record IsNamesText (bytes : List ℕ) : Type 0 where
  names : List (List ℕ)
  some : 0 < length names
  words : All IsWord names
  written : bytes ≡ names_text names

names_text_decided : (bytes : List ℕ) → Decision (IsNamesText bytes)
names_text_decided bytes =
    alike
    (λ h. record {
      names = h.values;
      some = h.some;
      words = h.good;
      written = after_comma bytes (names_text h.values) (h.written ∙ comma_before h.values h.some);
    })
    (λ h. between h.names h.some h.words h.written)
    (names_decided bytes) where
      between : (names : List (List ℕ)) → 0 < length names → All IsWord names → bytes ≡ names_text names → AreNames bytes
      between names some words written =
          let e : 44 ∷ bytes ≡ flat_map comma_text names = ap (λ z. 44 ∷ z) written ∙ sym (comma_before names some) in
          let n : length (44 ∷ bytes) ≡ length (flat_map comma_text names) = ap length e in
          let few : length names ≤ length (flat_map comma_text names) = length-values comma_text (λ name. omega arith) names in
          record { values = names; some = some; few = subst (λ m. length names ≤ m) (sym n) few; good = words; written = e }

-- Parts

abbrev byte_text : ℕ → List ℕ
byte_text b = b ∷ []

head_of : (b c : ℕ) (bs : List ℕ) → b ∷ bs ≡ c ∷ [] → b ≡ c
head_of b c bs e = cc

not_nil : (c : ℕ) → [] ≡ c ∷ [] → ⊥
not_nil c e = cc

not_two : (a b c : ℕ) (bs : List ℕ) → a ∷ b ∷ bs ≡ c ∷ [] → ⊥
not_two a b c bs e = cc

one_byte : (bytes : List ℕ) → Decision (IsTextOf IsPathByte byte_text bytes)
one_byte [] = fails (λ h. not_nil h.value h.written)
one_byte (b ∷ []) =
    alike (λ p. record { value = b; good = p; written = refl }) (λ h. subst IsPathByte (sym (head_of b h.value [] h.written)) h.good) (path_byte_decided b)
one_byte (a ∷ b ∷ bs) = fails (λ h. not_two a b h.value bs h.written)

-- how a part may be written
abbrev IsPartText : List ℕ → Type 0
IsPartText bytes =
    IsTextOf IsPathByte byte_text bytes ⊎ (bytes ≡ 42 ∷ []) ⊎ (bytes ≡ 63 ∷ []) ⊎ Enclosed 91 93 IsWord bytes ⊎ Enclosed 123 125 IsNamesText bytes

part_from : (bytes : List ℕ) → IsPartText bytes → IsTextOf IsPart part_text bytes
part_from bytes (inl h) = record { value = Byte h.value; good = h.good; written = h.written }
part_from bytes (inr (inl e)) = record { value = AnyBytes; good = tt; written = e }
part_from bytes (inr (inr (inl e))) = record { value = AnyByte; good = tt; written = e }
part_from bytes (inr (inr (inr (inl h)))) = record { value = Set h.inner; good = h.fact; written = h.whole }
part_from bytes (inr (inr (inr (inr h)))) = record {
  value = Alternatives h.fact.names;
  good = (h.fact.some, h.fact.words);
  written = h.whole ∙ ap (λ z. 123 ∷ (z ++ 125 ∷ [])) h.fact.written;
}

part_to : (bytes : List ℕ) (part : Part) → IsPart part → bytes ≡ part_text part → IsPartText bytes
part_to bytes (Byte b) good e = inl (record { value = b; good = good; written = e })
part_to bytes AnyBytes good e = inr (inl e)
part_to bytes AnyByte good e = inr (inr (inl e))
part_to bytes (Set held) good e = inr (inr (inr (inl (record { inner = held; whole = e; fact = good }))))
part_to bytes (Alternatives names) good e = inr (inr (inr (inr (record {
  inner = names_text names;
  whole = e;
  fact = record { names = names; some = good.0; words = good.1; written = refl };
}))))

part_decided : (bytes : List ℕ) → Decision (IsTextOf IsPart part_text bytes)
part_decided bytes =
    alike (part_from bytes) (λ h. part_to bytes h.value h.good h.written)
    (one_of (one_byte bytes) (one_of (are_same bytes (42 ∷ [])) (one_of (are_same bytes (63 ∷ []))
    (one_of (is_enclosed 91 93 IsWord word_decided bytes) (is_enclosed 123 125 IsNamesText names_text_decided bytes)))))

part_filled : (part : Part) → 0 < length (part_text part)
part_filled (Byte b) = omega arith
part_filled AnyBytes = omega arith
part_filled AnyByte = omega arith
part_filled (Set held) = omega arith
part_filled (Alternatives names) = omega arith

-- Segments

-- two stars, or one or more parts in at most 64 bytes which are not two stars
abbrev IsSegmentText : List ℕ → Type 0
IsSegmentText bytes = (bytes ≡ 42 ∷ 42 ∷ []) ⊎ ((bytes ≢ 42 ∷ 42 ∷ []) × (length bytes ≤ 64) × AreTextsOf IsPart part_text 64 bytes)

segment_from : (bytes : List ℕ) → IsSegmentText bytes → IsTextOf IsPatternSegment segment_text bytes
segment_from bytes (inl e) = record { value = AnySegments; good = tt; written = e }
segment_from bytes (inr (other, short, h)) = record {
  value = Parts h.values;
  good = record {
    nonempty = h.some;
    each = h.good;
    short = subst (λ z. length z ≤ 64) h.written short;
    not_any = λ e. other (h.written ∙ ap parts_text e);
  };
  written = h.written;
}

segment_to : (bytes : List ℕ) → Decision (bytes ≡ 42 ∷ 42 ∷ []) → (segment : Segment) → IsPatternSegment segment → bytes ≡ segment_text segment → IsSegmentText bytes
segment_to bytes d AnySegments good e = inl e
segment_to bytes (holds any) (Parts parts) good e = inl any
segment_to bytes (fails other) (Parts parts) good e =
    let few : length parts ≤ length (parts_text parts) = length-values part_text part_filled parts in
    let short : length (parts_text parts) ≤ 64 = good.short in
    inr (
      other,
      subst (λ z. length z ≤ 64) (sym e) short,
      record { values = parts; some = good.nonempty; few = omega arith; good = good.each; written = e },
    )

segment_decided : (bytes : List ℕ) → Decision (IsTextOf IsPatternSegment segment_text bytes)
segment_decided bytes =
    let any = are_same bytes (42 ∷ 42 ∷ []) in
    alike
    (segment_from bytes)
    (λ h. segment_to bytes any h.value h.good h.written)
    (one_of any (three (denied any) (is_at_most (length bytes) 64) (are_texts IsPart part_text part_decided 64 bytes)))

-- a slash and a segment
abbrev slash_text : Segment → List ℕ
slash_text segment = 47 ∷ segment_text segment

slashed : (bytes : List ℕ) → Decision (IsTextOf IsPatternSegment slash_text bytes)
slashed bytes =
    alike
    (λ h. record { value = h.fact.value; good = h.fact.good; written = h.whole ∙ ap (λ z. 47 ∷ z) h.fact.written })
    (λ h. record { rest = segment_text h.value; whole = h.written; fact = record { value = h.value; good = h.good; written = refl } })
    (is_begun 47 (IsTextOf IsPatternSegment segment_text) segment_decided bytes)

pub pattern_decided : (bytes : List ℕ) → Decision (IsPatternText bytes)
pattern_decided bytes =
    alike
    (λ h. (h.values, record { nonempty = h.some; few = h.few; segments = h.good }, h.written))
    (λ p. record { values = p.0; some = p.1.nonempty; few = p.1.few; good = p.1.segments; written = p.2 })
    (are_texts IsPatternSegment slash_text slashed 16 bytes)

abbrev pub pattern_by : (bytes : List ℕ) → Decision (IsPatternText bytes) → Option (List Segment)
pattern_by bytes (holds (pattern, good, written)) = Some pattern
pattern_by bytes (fails none) = None

-- the pattern that the bytes are, if they are one
unfoldable pub pattern_of : List ℕ → Option (List Segment)
pattern_of bytes = pattern_by bytes (pattern_decided bytes)

-- it is a pattern exactly where the bytes are that pattern as it is written
abbrev pub IsPatternWhereWritten : Type 0
IsPatternWhereWritten = (bytes : List ℕ) (pattern : List Segment) → (pattern_of bytes ≡ Some pattern) ↔ (IsPattern pattern × (bytes ≡ pattern_text pattern))

-- it is none exactly where the bytes are no pattern
abbrev pub IsNoneWhereNoPattern : Type 0
IsNoneWhereNoPattern = (bytes : List ℕ) → (pattern_of bytes ≡ None) ↔ (IsPatternText bytes → ⊥)
