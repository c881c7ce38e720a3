-- The rest of a text, read unit by unit.
use Rattle.std.proofs.Common.{◌≡◌, ℕ, ◌+◌, ◌<◌, ◌≤◌, List, [], ◌∷◌, ◌++◌, length, drop, slice_index, Option, Some, None, refl, sym, ap, ◌∙◌, ⊎_elim, inl, inr, ◌⊎◌, subst, cond, Err, arith, zero-add, add_assoc, append_assoc, length-drop}
use Rattle.std.proofs.lemmas.Bool.{cases_eq, cases_lt, le-leb, lt-leb}
use Rattle.std.proofs.lemmas.List.{append-nil, length_push, drop-drop, drop_all}
use Rattle.vt_lex.specs.declared.texts.TextUnit.TheVariants.{Closing, Byte, Bad}
use Rattle.vt_lex.specs.declared.texts.Measure.{Measure}
use Rattle.vt_lex.specs.declared.token.TokenKind.TheVariants.{Text}
use Rattle.vt_lex.specs.declared.fault.LexKind.TheVariants.{Long}
use Rattle.vt_lex.specs.declared.lexeme.Sort.TheVariants.{Token}
use Rattle.vt_lex.specs.Lexemes.{lexeme, text_of}
use Rattle.vt_lex.specs.Texts.{Body, and_byte, with_unit, unit_of, body_of, value_of, value_of_body, IsTextForm, measured}

-- the rest begins with these bytes of the value, whose form has so many bytes
abbrev pub prepend : ℕ → List ℕ → Option Body → Option Body
prepend len values None = None
prepend len values (Some body) = Some (record { len = len + body.len; value = values ++ body.value })

-- at bytes are read, which are count bytes of the value
pub record Measures (quote : ℕ) (bytes : List ℕ) (at count : ℕ) : Type 0 where
  pub values : List ℕ
  pub counted : length values ≡ count
  pub so_far : body_of quote bytes ≡ prepend at values (body_of quote (drop at bytes))

pub body_closing : (quote : ℕ) (bs : List ℕ) → 0 < length bs → unit_of quote (slice_index bs 0) (slice_index bs 1) ≡ Closing → body_of quote bs ≡ Some (record { len = 1; value = [] })
body_closing quote [] some e = absurd (omega arith)
body_closing quote (b ∷ []) some e = ap (λ u. with_unit u None None) e
body_closing quote (b ∷ c ∷ bs) some e = ap (λ u. with_unit u (body_of quote (c ∷ bs)) (body_of quote bs)) e

pub body_bad : (quote : ℕ) (bs : List ℕ) → 0 < length bs → unit_of quote (slice_index bs 0) (slice_index bs 1) ≡ Bad → body_of quote bs ≡ None
body_bad quote [] some e = absurd (omega arith)
body_bad quote (b ∷ []) some e = ap (λ u. with_unit u None None) e
body_bad quote (b ∷ c ∷ bs) some e = ap (λ u. with_unit u (body_of quote (c ∷ bs)) (body_of quote bs)) e

one_or_two : (n : ℕ) → 0 < n → n ≤ 2 → (n ≡ 1) ⊎ (n ≡ 2)
one_or_two n some two = ⊎_elim (λ (e : n ≡ 1). inl e) (λ (other : n ≡ 1 → ⊥). inr (omega arith)) (cases_eq n 1)

-- a form of one byte or two goes before the rest
pub body_byte : (quote : ℕ) (bs : List ℕ) (value len : ℕ) → 0 < len → len ≤ 2 → len ≤ length bs → unit_of quote (slice_index bs 0) (slice_index bs 1) ≡ Byte value len → body_of quote bs ≡ and_byte value len (body_of quote (drop len bs))
body_byte quote [] value len some two within e = absurd (omega arith)
body_byte quote (b ∷ []) value len some two within e =
    let one : len ≡ 1 = omega arith in
    let f : unit_of quote b 0 ≡ Byte value 1 = e ∙ ap (λ n. Byte value n) one in
    rw one (ap (λ u. with_unit u None None) f)
body_byte quote (b ∷ c ∷ bs) value len some two within e =
    ⊎_elim
    (λ (one : len ≡ 1). rw one (ap (λ u. with_unit u (body_of quote (c ∷ bs)) (body_of quote bs)) (e ∙ ap (λ n. Byte value n) one)))
    (λ (both : len ≡ 2). rw both (ap (λ u. with_unit u (body_of quote (c ∷ bs)) (body_of quote bs)) (e ∙ ap (λ n. Byte value n) both)))
    (one_or_two len some two)

pub prepend_none : (o : Option Body) → o ≡ prepend 0 [] o
prepend_none None = refl
prepend_none (Some body) = ap (λ n. Some (record { len = n; value = body.value })) (sym (zero-add body.len))

pub prepend_byte : (at len value : ℕ) (values : List ℕ) (o : Option Body) → prepend at values (and_byte value len o) ≡ prepend (at + len) (values ++ value ∷ []) o
prepend_byte at len value values None = refl
prepend_byte at len value values (Some body) =
    ap (λ n. Some (record { len = n; value = values ++ value ∷ body.value })) (sym (add_assoc at len body.len))
    ∙ ap (λ vs. Some (record { len = (at + len) + body.len; value = vs })) (sym (append_assoc values (value ∷ []) body.value))

-- what is read so far, and one more unit; bs is what is left
module _ (quote : ℕ) (bytes : List ℕ) (at count : ℕ) (bs : List ℕ) (left : bs ≡ drop at bytes) (m : Measures quote bytes at count) (more : at < length bytes) where
  pub measured_closing : Closing ≡ unit_of quote (slice_index bs 0) (slice_index bs 1) → Some (record { len = at + 1; count = count }) ≡ measured (body_of quote bytes)
  measured_closing e =
      let some : 0 < length bs = omega (arith, length-drop at bytes, ap length left) in
      let whole : body_of quote bytes ≡ Some (record { len = at + 1; value = m.values ++ [] }) = m.so_far ∙ ap (prepend at m.values) (ap (body_of quote) (sym left) ∙ body_closing quote bs some (sym e)) in
      let counted : count ≡ length (m.values ++ []) = sym (ap length (append-nil m.values) ∙ m.counted) in
      ap (λ n. Some (record { len = at + 1; count = n })) counted ∙ sym (ap measured whole)

  pub measured_bad : Bad ≡ unit_of quote (slice_index bs 0) (slice_index bs 1) → None ≡ measured (body_of quote bytes)
  measured_bad e =
      let some : 0 < length bs = omega (arith, length-drop at bytes, ap length left) in
      sym (ap measured (m.so_far ∙ ap (prepend at m.values) (ap (body_of quote) (sym left) ∙ body_bad quote bs some (sym e))))

  pub measures_byte : (value len : ℕ) → (0 < len) × (len ≤ 2) × (len ≤ length bs) → Byte value len ≡ unit_of quote (slice_index bs 0) (slice_index bs 1) → Measures quote bytes (at + len) (count + 1)
  measures_byte value len within e = record {
    values = m.values ++ value ∷ [];
    counted = length_push m.values value ∙ ap (λ n. n + 1) m.counted;
    so_far =
        m.so_far
        ∙ (ap (prepend at m.values)
        (ap (body_of quote) (sym left)
        ∙ (body_byte quote bs value len within.0 within.1 within.2 (sym e)
        ∙ ap (λ xs. and_byte value len (body_of quote xs)) (ap (drop len) left ∙ drop-drop len at bytes)))
        ∙ prepend_byte at len value m.values (body_of quote (drop (at + len) bytes)));
  }

pub measures_none : (quote : ℕ) (bytes : List ℕ) → Measures quote bytes 0 0
measures_none quote bytes = record { values = []; counted = refl; so_far = prepend_none (body_of quote bytes) }

-- at the end of the bytes there is no text
pub measured_end : (quote : ℕ) (bytes : List ℕ) (at count : ℕ) → Measures quote bytes at count → length bytes ≤ at → None ≡ measured (body_of quote bytes)
measured_end quote bytes at count m over =
    sym (ap measured (m.so_far ∙ ap (λ bs. prepend at m.values (body_of quote bs)) (drop_all at bytes over)))

-- a text of these lengths
pub text_within : (o : Option Body) (m : Measure) → Some m ≡ measured o → m.count ≤ 4096 → text_of o ≡ lexeme (Token Text) (1 + m.len)
text_within None m e h = absurd (let z : Some m ≡ None = e in cc)
text_within (Some body) m e h =
    let same : m ≡ record { len = body.len; count = length body.value } = cc in
    let few : length body.value ≤ 4096 = subst (λ (x : Measure). x.count ≤ 4096) same h in
    ap (λ b. cond b (lexeme (Token Text) (1 + body.len)) (Err Long)) (le-leb (length body.value) 4096 few)
    ∙ ap (λ (x : Measure). lexeme (Token Text) (1 + x.len)) (sym same)

pub text_beyond : (o : Option Body) (m : Measure) → Some m ≡ measured o → 4096 < m.count → text_of o ≡ Err Long
text_beyond None m e h = absurd (let z : Some m ≡ None = e in cc)
text_beyond (Some body) m e h =
    let same : m ≡ record { len = body.len; count = length body.value } = cc in
    let many : 4096 < length body.value = subst (λ (x : Measure). 4096 < x.count) same h in
    ap (λ b. cond b (lexeme (Token Text) (1 + body.len)) (Err Long)) (lt-leb (length body.value) 4096 many)

-- what is read of a form of a text, behind its opening quote up to a place, is these bytes of its value
pub record Values (form : List ℕ) (quote at : ℕ) (values : List ℕ) : Type 0 where
  pub body : Body
  pub left : body_of quote (drop at form) ≡ Some body
  pub so_far : value_of form ≡ values ++ body.value

-- what is left is not nothing
pub values_more : (form : List ℕ) (quote at : ℕ) (values : List ℕ) → Values form quote at values → at < length form
values_more form quote at values v =
    ⊎_elim (λ (h : at < length form). h)
    (λ (h : length form ≤ at). absurd (let z : None ≡ Some v.body = sym (ap (body_of quote) (drop_all at form h)) ∙ v.left in cc))
    (cases_lt at (length form))

module _ (form : List ℕ) (quote at : ℕ) (values : List ℕ) (bs : List ℕ) (rest : bs ≡ drop at form) (v : Values form quote at values) where
  some_left : 0 < length bs
  some_left = omega (arith, values_more form quote at values v, ap length rest, length-drop at form)

  pub values_closing : Closing ≡ unit_of quote (slice_index bs 0) (slice_index bs 1) → values ≡ value_of form
  values_closing e =
      let z : Some v.body ≡ Some (record { len = 1; value = [] }) = sym v.left ∙ (ap (body_of quote) (sym rest) ∙ body_closing quote bs some_left (sym e)) in
      let same : v.body ≡ record { len = 1; value = [] } = cc in
      sym (v.so_far ∙ (ap (λ (b : Body). values ++ b.value) same ∙ append-nil values))

  pub values_bad : Bad ≡ unit_of quote (slice_index bs 0) (slice_index bs 1) → ⊥
  values_bad e = let z : Some v.body ≡ None = sym v.left ∙ (ap (body_of quote) (sym rest) ∙ body_bad quote bs some_left (sym e)) in cc

  pub values_byte : (value len : ℕ) → (0 < len) × (len ≤ 2) × (len ≤ length bs) → Byte value len ≡ unit_of quote (slice_index bs 0) (slice_index bs 1) → Values form quote (at + len) (values ++ value ∷ [])
  values_byte value len within e =
      let one = body_byte quote bs value len within.0 within.1 within.2 (sym e) in
      go (body_of quote (drop len bs)) refl (sym v.left ∙ (ap (body_of quote) (sym rest) ∙ one)) where
        go : (o : Option Body) → body_of quote (drop len bs) ≡ o → Some v.body ≡ and_byte value len (body_of quote (drop len bs)) → Values form quote (at + len) (values ++ value ∷ [])
        go None f g = absurd (let z : Some v.body ≡ None = g ∙ ap (and_byte value len) f in cc)
        go (Some body) f g =
            let z : Some v.body ≡ Some (record { len = len + body.len; value = value ∷ body.value }) = g ∙ ap (and_byte value len) f in
            let same : v.body ≡ record { len = len + body.len; value = value ∷ body.value } = cc in
            record {
              body = body;
              left = ap (body_of quote) (sym (ap (drop len) rest ∙ drop-drop len at form)) ∙ f;
              so_far = v.so_far ∙ (ap (λ (b : Body). values ++ b.value) same ∙ sym (append_assoc values (value ∷ []) body.value));
            }

pub values_start : (form : List ℕ) → IsTextForm form → Values form (slice_index form 0) 1 []
values_start form t = record { body = t.body; left = t.closes; so_far = ap value_of_body t.closes }
