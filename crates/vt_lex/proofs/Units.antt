-- Texts unit by unit: a text without an end is broken, and one with an end has as many units as bytes of its value.
use Rattle.std.proofs.Common.{◌≡◌, ℕ, suc, ◌+◌, Bool, true, false, not, ◌&&◌, ◌||◌, ◌⊎◌, List, [], ◌∷◌, ◌++◌, length, Option, Some, None, cond, eqb, refl, sym, ap, ◌∙◌, inl, inr, ⊎_elim, arith, append_assoc}
use Rattle.std.specs.List.{list_all, concat}
use Rattle.std.proofs.lemmas.Bool.{eqb-true, eq-eqb, and_parts, and_from, or_cases, or_left, or_right, ne_eqb, false≢true}
use Rattle.vt_lex.specs.declared.texts.TextUnit.{TextUnit}
use Rattle.vt_lex.specs.declared.texts.TextUnit.TheVariants.{Closing, Byte, Bad}
use Rattle.vt_lex.specs.Texts.{Body, and_byte, with_unit, unit_of, escape_unit, escaped, body_of}
use Rattle.vt_lex.specs.TokenLaws.{is_escape, is_unit, is_broken}
use Rattle.vt_lex.proofs.Branches.{chosen, passed_by, not_true}

-- What a unit of the bytes is read as

abbrev IsQuote : ℕ → Type 0
IsQuote quote = (quote ≡ 34) ⊎ (quote ≡ 39)

-- an escape stands for a byte, and another byte behind a backslash for none
escaped_go : (w x y z : Bool) (v : ℕ) → (w || (x || (y || z))) ≡ true → (t : Option ℕ) → t ≡ cond w (Some 92) (cond x (Some v) (cond y (Some 10) (cond z (Some 9) None))) → (u : ℕ) × (t ≡ Some u)
escaped_go true x y z v e t f = (92, f)
escaped_go false true y z v e t f = (v, f)
escaped_go false false true z v e t f = (10, f)
escaped_go false false false true v e t f = (9, f)
escaped_go false false false false v e t f = absurd (false≢true e)

unescaped_go : (w x y z : Bool) (v : ℕ) → (w || (x || (y || z))) ≡ false → cond w (Some 92) (cond x (Some v) (cond y (Some 10) (cond z (Some 9) None))) ≡ None
unescaped_go true x y z v e = absurd (false≢true (sym e))
unescaped_go false true y z v e = absurd (false≢true (sym e))
unescaped_go false false true z v e = absurd (false≢true (sym e))
unescaped_go false false false true v e = absurd (false≢true (sym e))
unescaped_go false false false false v e = refl

and_over : (q x y : Bool) → (q && (x || y)) ≡ ((q && x) || (q && y))
and_over true x y = refl
and_over false x y = refl

escape_is : (quote b : ℕ) → is_escape quote b ≡ (eqb b 92 || (eqb b quote || ((eqb quote 34 && eqb b 110) || (eqb quote 34 && eqb b 116))))
escape_is quote b = ap (λ (t : Bool). eqb b 92 || (eqb b quote || t)) (and_over (eqb quote 34) (eqb b 110) (eqb b 116))

some_escaped : (quote b : ℕ) → is_escape quote b ≡ true → (u : ℕ) × (escaped quote b ≡ Some u)
some_escaped quote b e = escaped_go (eqb b 92) (eqb b quote) (eqb quote 34 && eqb b 110) (eqb quote 34 && eqb b 116) quote (sym (escape_is quote b) ∙ e) (escaped quote b) refl

none_escaped : (quote b : ℕ) → is_escape quote b ≡ false → escaped quote b ≡ None
none_escaped quote b e = unescaped_go (eqb b 92) (eqb b quote) (eqb quote 34 && eqb b 110) (eqb quote 34 && eqb b 116) quote (sym (escape_is quote b) ∙ e)

-- no quote is a backslash or a newline
quote_no : (quote b : ℕ) → IsQuote quote → (b ≡ 34 → ⊥) → (b ≡ 39 → ⊥) → eqb b quote ≡ false
quote_no quote b (inl e) f g = ne_eqb b quote (λ (h : b ≡ quote). f (h ∙ e))
quote_no quote b (inr e) f g = ne_eqb b quote (λ (h : b ≡ quote). g (h ∙ e))

escape_read : (quote c : ℕ) → IsQuote quote → unit_of quote 92 c ≡ escape_unit (escaped quote c)
escape_read quote c q = passed_by (eqb 92 quote) _ _ (quote_no quote 92 q (λ (h : 92 ≡ 34). omega arith) (λ (h : 92 ≡ 39). omega arith))

newline_read : (quote c : ℕ) → IsQuote quote → unit_of quote 10 c ≡ Bad
newline_read quote c q = passed_by (eqb 10 quote) _ _ (quote_no quote 10 q (λ (h : 10 ≡ 34). omega arith) (λ (h : 10 ≡ 39). omega arith))

hash_read : unit_of 34 35 123 ≡ Bad
hash_read = refl

-- a plain byte is read as itself, or as what no text may hold
plain_read : (quote b c : ℕ) → is_unit quote (b ∷ []) ≡ true → (unit_of quote b c ≡ Byte b 1) ⊎ (unit_of quote b c ≡ Bad)
plain_read quote b c e = go (eqb b quote) (eqb b 10) (eqb b 92) (eqb quote 34 && (eqb b 35 && eqb c 123)) (escape_unit (escaped quote c)) e where
  go : (w x y z : Bool) (u : TextUnit) → (not w && (not x && not y)) ≡ true → (cond w Closing (cond x Bad (cond y u (cond z Bad (Byte b 1)))) ≡ Byte b 1) ⊎ (cond w Closing (cond x Bad (cond y u (cond z Bad (Byte b 1)))) ≡ Bad)
  go true x y z u f = absurd (false≢true f)
  go false true y z u f = absurd (false≢true f)
  go false false true z u f = absurd (false≢true f)
  go false false false true u f = inr refl
  go false false false false u f = inl refl

pub closing_read : (quote c : ℕ) → unit_of quote quote c ≡ Closing
closing_read quote c = chosen (eqb quote quote) _ _ (same quote) where
  same : (n : ℕ) → eqb n n ≡ true
  same n = eq-eqb n n refl

-- no text goes on with this byte, before the next
abbrev breaks_at : ℕ → ℕ → ℕ → Bool
breaks_at quote b next = eqb b 10 || ((eqb b 92 && not (is_escape quote next)) || (eqb quote 34 && (eqb b 35 && eqb next 123)))

-- what a byte and the next are read as
data Read (quote b next : ℕ) : TextUnit → Type 0 where
  closes : eqb b quote ≡ true → Read quote b next Closing
  breaks : breaks_at quote b next ≡ true → Read quote b next Bad
  plain : is_unit quote (b ∷ []) ≡ true → Read quote b next (Byte b 1)
  escape : is_unit quote (b ∷ next ∷ []) ≡ true → (v : ℕ) → Read quote b next (Byte v 2)

escape_there : (quote next v : ℕ) → escaped quote next ≡ Some v → is_escape quote next ≡ true
escape_there quote next v e = go (is_escape quote next) refl where
  go : (t : Bool) → is_escape quote next ≡ t → t ≡ true
  go true f = refl
  go false f = absurd (let z : Some v ≡ None = sym e ∙ none_escaped quote next f in cc)

no_escape_there : (quote next : ℕ) → escaped quote next ≡ None → is_escape quote next ≡ false
no_escape_there quote next e = go (is_escape quote next) refl where
  go : (t : Bool) → is_escape quote next ≡ t → t ≡ false
  go false f = refl
  go true f = let some = some_escaped quote next f in absurd (let z : Some some.0 ≡ None = sym some.1 ∙ e in cc)

read : (quote b next : ℕ) → Read quote b next (unit_of quote b next)
read quote b next = go (eqb b quote) (eqb b 10) (eqb b 92) (eqb quote 34 && (eqb b 35 && eqb next 123)) (escaped quote next) refl refl refl refl refl where
  go : (w x y z : Bool) (o : Option ℕ) → eqb b quote ≡ w → eqb b 10 ≡ x → eqb b 92 ≡ y → (eqb quote 34 && (eqb b 35 && eqb next 123)) ≡ z → escaped quote next ≡ o → Read quote b next (cond w Closing (cond x Bad (cond y (escape_unit o) (cond z Bad (Byte b 1)))))
  go true x y z o ew ex ey ez eo = closes ew
  go false true y z o ew ex ey ez eo = breaks (or_left (eqb b 10) _ ex)
  go false false true z None ew ex ey ez eo =
      breaks (or_right (eqb b 10) _ (or_left (eqb b 92 && not (is_escape quote next)) _
      (and_from (eqb b 92) (not (is_escape quote next)) ey (ap not (no_escape_there quote next eo)))))
  go false false true z (Some v) ew ex ey ez eo = escape (and_from (eqb b 92) (is_escape quote next) ey (escape_there quote next v eo)) v
  go false false false true o ew ex ey ez eo = breaks (or_right (eqb b 10) _ (or_right (eqb b 92 && not (is_escape quote next)) _ ez))
  go false false false false o ew ex ey ez eo =
      plain (and_from (not (eqb b quote)) (not (eqb b 10) && not (eqb b 92)) (ap not ew) (and_from (not (eqb b 10)) (not (eqb b 92)) (ap not ex) (ap not ey)))

broken_read : (quote b next : ℕ) → IsQuote quote → breaks_at quote b next ≡ true → unit_of quote b next ≡ Bad
broken_read quote b next q e =
    ⊎_elim
    (λ (line : eqb b 10 ≡ true). ap (λ (x : ℕ). unit_of quote x next) (eqb-true b 10 line) ∙ newline_read quote next q)
    (λ (other : ((eqb b 92 && not (is_escape quote next)) || (eqb quote 34 && (eqb b 35 && eqb next 123))) ≡ true).
    ⊎_elim
    (λ (slash : (eqb b 92 && not (is_escape quote next)) ≡ true).
    let parts = and_parts (eqb b 92) (not (is_escape quote next)) slash in
    ap (λ (x : ℕ). unit_of quote x next) (eqb-true b 92 parts.0)
    ∙ (escape_read quote next q ∙ ap escape_unit (none_escaped quote next (not_true (is_escape quote next) parts.1))))
    (λ (hash : (eqb quote 34 && (eqb b 35 && eqb next 123)) ≡ true).
    let first = and_parts (eqb quote 34) (eqb b 35 && eqb next 123) hash in
    let second = and_parts (eqb b 35) (eqb next 123) first.1 in
    ap (λ (x : ℕ). unit_of x b next) (eqb-true quote 34 first.0)
    ∙ (ap (λ (x : ℕ). unit_of 34 x next) (eqb-true b 35 second.0) ∙ ap (λ (x : ℕ). unit_of 34 35 x) (eqb-true next 123 second.1)))
    (or_cases (eqb b 92 && not (is_escape quote next)) (eqb quote 34 && (eqb b 35 && eqb next 123)) other))
    (or_cases (eqb b 10) ((eqb b 92 && not (is_escape quote next)) || (eqb quote 34 && (eqb b 35 && eqb next 123))) e)

-- A broken text has no end

broken_here : (quote : ℕ) (rest : List ℕ) → IsQuote quote → is_broken quote rest ≡ true → body_of quote rest ≡ None
broken_here quote [] q e = refl
broken_here quote (b ∷ []) q e = ap (λ u. with_unit u None None) (broken_read quote b 0 q e)
broken_here quote (b ∷ c ∷ bs) q e = ap (λ u. with_unit u (body_of quote (c ∷ bs)) (body_of quote bs)) (broken_read quote b c q e)

plain_none : (quote b : ℕ) (xs : List ℕ) → is_unit quote (b ∷ []) ≡ true → body_of quote xs ≡ None → body_of quote (b ∷ xs) ≡ None
plain_none quote b [] e h = go (plain_read quote b 0 e) where
  go : (unit_of quote b 0 ≡ Byte b 1) ⊎ (unit_of quote b 0 ≡ Bad) → with_unit (unit_of quote b 0) None None ≡ None
  go (inl f) = ap (λ u. with_unit u None None) f
  go (inr f) = ap (λ u. with_unit u None None) f
plain_none quote b (c ∷ cs) e h = go (plain_read quote b c e) where
  go : (unit_of quote b c ≡ Byte b 1) ⊎ (unit_of quote b c ≡ Bad) → with_unit (unit_of quote b c) (body_of quote (c ∷ cs)) (body_of quote cs) ≡ None
  go (inl f) = ap (λ u. with_unit u (body_of quote (c ∷ cs)) (body_of quote cs)) f ∙ ap (and_byte b 1) h
  go (inr f) = ap (λ u. with_unit u (body_of quote (c ∷ cs)) (body_of quote cs)) f

-- an escape is read as a byte of two
escape_unit_read : (quote b c : ℕ) → IsQuote quote → is_unit quote (b ∷ c ∷ []) ≡ true → (v : ℕ) × (unit_of quote b c ≡ Byte v 2)
escape_unit_read quote b c q e =
    let parts = and_parts (eqb b 92) (is_escape quote c) e in
    let some = some_escaped quote c parts.1 in
    (some.0, ap (λ (x : ℕ). unit_of quote x c) (eqb-true b 92 parts.0) ∙ (escape_read quote c q ∙ ap escape_unit some.1))

escape_none : (quote b c : ℕ) (xs : List ℕ) → IsQuote quote → is_unit quote (b ∷ c ∷ []) ≡ true → body_of quote xs ≡ None → body_of quote (b ∷ c ∷ xs) ≡ None
escape_none quote b c xs q e h =
    let as_byte = escape_unit_read quote b c q e in
    ap (λ u. with_unit u (body_of quote (c ∷ xs)) (body_of quote xs)) as_byte.1 ∙ ap (and_byte as_byte.0 2) h

pub broken_none : (quote : ℕ) (units : List (List ℕ)) (rest : List ℕ) → IsQuote quote → list_all (is_unit quote) units ≡ true → is_broken quote rest ≡ true → body_of quote (concat units ++ rest) ≡ None
broken_none quote [] rest q all e = broken_here quote rest q e
broken_none quote ([] ∷ us) rest q all e = absurd (false≢true all)
broken_none quote ((b ∷ []) ∷ us) rest q all e =
    let parts = and_parts (is_unit quote (b ∷ [])) (list_all (is_unit quote) us) all in
    plain_none quote b (concat us ++ rest) parts.0 (broken_none quote us rest q parts.1 e)
broken_none quote ((b ∷ c ∷ []) ∷ us) rest q all e =
    let parts = and_parts (is_unit quote (b ∷ c ∷ [])) (list_all (is_unit quote) us) all in
    escape_none quote b c (concat us ++ rest) q parts.0 (broken_none quote us rest q parts.1 e)
broken_none quote ((b ∷ c ∷ d ∷ bs) ∷ us) rest q all e = absurd (false≢true all)

-- One that is not broken has an end

pub record HasBreak (quote : ℕ) (bytes : List ℕ) : Type 0 where
  pub units : List (List ℕ)
  pub rest : List ℕ
  pub are_units : list_all (is_unit quote) units ≡ true
  pub broken : is_broken quote rest ≡ true
  pub whole : bytes ≡ concat units ++ rest

break_here : (quote : ℕ) (bytes : List ℕ) → is_broken quote bytes ≡ true → HasBreak quote bytes
break_here quote bytes e = record { units = []; rest = bytes; are_units = refl; broken = e; whole = refl }

break_later : (quote : ℕ) (unit xs bytes : List ℕ) → is_unit quote unit ≡ true → bytes ≡ unit ++ xs → HasBreak quote xs → HasBreak quote bytes
break_later quote unit xs bytes e f h = record {
  units = unit ∷ h.units;
  rest = h.rest;
  are_units = and_from (is_unit quote unit) (list_all (is_unit quote) h.units) e h.are_units;
  broken = h.broken;
  whole = f ∙ (ap (λ (ys : List ℕ). unit ++ ys) h.whole ∙ sym (append_assoc unit (concat h.units) h.rest));
}

and_none : (value len : ℕ) (o : Option Body) → and_byte value len o ≡ None → o ≡ None
and_none value len None e = refl
and_none value len (Some body) e = absurd (let z : Some (record { len = len + body.len; value = value ∷ body.value }) ≡ None = e in cc)

no_nul : (quote : ℕ) → IsQuote quote → is_escape quote 0 ≡ true → ⊥
no_nul quote (inl q) e = false≢true (ap (λ (x : ℕ). is_escape x 0) (sym q) ∙ e)
no_nul quote (inr q) e = false≢true (ap (λ (x : ℕ). is_escape x 0) (sym q) ∙ e)

last_break : (quote b : ℕ) (u : TextUnit) → IsQuote quote → Read quote b 0 u → with_unit u None None ≡ None → HasBreak quote (b ∷ [])
last_break quote b Closing q (closes c) e = absurd (let z : Some (record { len = 1; value = [] }) ≡ None = e in cc)
last_break quote b Bad q (breaks c) e = break_here quote (b ∷ []) c
last_break quote b (Byte _ _) q (plain c) e = break_later quote (b ∷ []) [] (b ∷ []) c refl (break_here quote [] refl)
last_break quote b (Byte _ _) q (escape c v) e = absurd (no_nul quote q (and_parts (eqb b 92) (is_escape quote 0) c).1)

next_break : (quote b c : ℕ) (cs : List ℕ) (u : TextUnit) → Read quote b c u → (body_of quote (c ∷ cs) ≡ None → HasBreak quote (c ∷ cs)) → (body_of quote cs ≡ None → HasBreak quote cs) → with_unit u (body_of quote (c ∷ cs)) (body_of quote cs) ≡ None → HasBreak quote (b ∷ c ∷ cs)
next_break quote b c cs Closing (closes f) one two e = absurd (let z : Some (record { len = 1; value = [] }) ≡ None = e in cc)
next_break quote b c cs Bad (breaks f) one two e = break_here quote (b ∷ c ∷ cs) f
next_break quote b c cs (Byte _ _) (plain f) one two e = break_later quote (b ∷ []) (c ∷ cs) (b ∷ c ∷ cs) f refl (one (and_none b 1 (body_of quote (c ∷ cs)) e))
next_break quote b c cs (Byte _ _) (escape f v) one two e = break_later quote (b ∷ c ∷ []) cs (b ∷ c ∷ cs) f refl (two (and_none v 2 (body_of quote cs) e))

pub none_broken : (quote : ℕ) (bytes : List ℕ) → IsQuote quote → body_of quote bytes ≡ None → HasBreak quote bytes
none_broken quote [] q e = break_here quote [] refl
none_broken quote (b ∷ []) q e = last_break quote b (unit_of quote b 0) q (read quote b 0) e
none_broken quote (b ∷ c ∷ cs) q e = next_break quote b c cs (unit_of quote b c) (read quote b c) (none_broken quote (c ∷ cs) q) (none_broken quote cs q) e

-- The units of a text that has an end

pub record HasUnits (quote : ℕ) (bytes : List ℕ) (count : ℕ) : Type 0 where
  pub units : List (List ℕ)
  pub rest : List ℕ
  pub are_units : list_all (is_unit quote) units ≡ true
  pub counted : length units ≡ count
  pub whole : bytes ≡ concat units ++ quote ∷ rest

-- a body with one more byte of the value in front
record IsAfter (value : ℕ) (o : Option Body) (body : Body) : Type 0 where
  later : Body
  there : o ≡ Some later
  values : body.value ≡ value ∷ later.value

and_some : (value len : ℕ) (o : Option Body) (body : Body) → and_byte value len o ≡ Some body → IsAfter value o body
and_some value len None body e = absurd (let z : None ≡ Some body = e in cc)
and_some value len (Some later) body e =
    let same : record { len = len + later.len; value = value ∷ later.value } ≡ body = cc in
    record { later = later; there = refl; values = sym (ap (λ (x : Body). x.value) same) }

units_here : (quote b : ℕ) (rest : List ℕ) (body : Body) → eqb b quote ≡ true → Some (record { len = 1; value = [] }) ≡ Some body → HasUnits quote (b ∷ rest) (length body.value)
units_here quote b rest body f e =
    let same : record { len = 1; value = [] } ≡ body = cc in
    record { units = []; rest = rest; are_units = refl; counted = ap (λ (x : Body). length x.value) same; whole = ap (λ (x : ℕ). x ∷ rest) (eqb-true b quote f) }

units_later : (quote value : ℕ) (unit xs bytes : List ℕ) (o : Option Body) (body : Body) → is_unit quote unit ≡ true → bytes ≡ unit ++ xs → (a : IsAfter value o body) → HasUnits quote xs (length a.later.value) → HasUnits quote bytes (length body.value)
units_later quote value unit xs bytes o body e f a h = record {
  units = unit ∷ h.units;
  rest = h.rest;
  are_units = and_from (is_unit quote unit) (list_all (is_unit quote) h.units) e h.are_units;
  counted = ap suc h.counted ∙ sym (ap length a.values);
  whole = f ∙ (ap (λ (ys : List ℕ). unit ++ ys) h.whole ∙ sym (append_assoc unit (concat h.units) (quote ∷ h.rest)));
}

last_units : (quote b : ℕ) (u : TextUnit) (body : Body) → Read quote b 0 u → with_unit u None None ≡ Some body → HasUnits quote (b ∷ []) (length body.value)
last_units quote b Closing body (closes c) e = units_here quote b [] body c e
last_units quote b Bad body (breaks c) e = absurd (let z : None ≡ Some body = e in cc)
last_units quote b (Byte _ _) body (plain c) e = absurd (let z : None ≡ Some body = e in cc)
last_units quote b (Byte _ _) body (escape c v) e = absurd (let z : None ≡ Some body = e in cc)

next_units : (quote b c : ℕ) (cs : List ℕ) (u : TextUnit) (body : Body) → Read quote b c u → ((r : Body) → body_of quote (c ∷ cs) ≡ Some r → HasUnits quote (c ∷ cs) (length r.value)) → ((r : Body) → body_of quote cs ≡ Some r → HasUnits quote cs (length r.value)) → with_unit u (body_of quote (c ∷ cs)) (body_of quote cs) ≡ Some body → HasUnits quote (b ∷ c ∷ cs) (length body.value)
next_units quote b c cs Closing body (closes f) one two e = units_here quote b (c ∷ cs) body f e
next_units quote b c cs Bad body (breaks f) one two e = absurd (let z : None ≡ Some body = e in cc)
next_units quote b c cs (Byte _ _) body (plain f) one two e =
    let a = and_some b 1 (body_of quote (c ∷ cs)) body e in
    units_later quote b (b ∷ []) (c ∷ cs) (b ∷ c ∷ cs) (body_of quote (c ∷ cs)) body f refl a (one a.later a.there)
next_units quote b c cs (Byte _ _) body (escape f v) one two e =
    let a = and_some v 2 (body_of quote cs) body e in
    units_later quote v (b ∷ c ∷ []) cs (b ∷ c ∷ cs) (body_of quote cs) body f refl a (two a.later a.there)

pub some_units : (quote : ℕ) (bytes : List ℕ) (body : Body) → body_of quote bytes ≡ Some body → HasUnits quote bytes (length body.value)
some_units quote [] body e = absurd (let z : None ≡ Some body = e in cc)
some_units quote (b ∷ []) body e = last_units quote b (unit_of quote b 0) body (read quote b 0) e
some_units quote (b ∷ c ∷ cs) body e = next_units quote b c cs (unit_of quote b c) body (read quote b c) (some_units quote (c ∷ cs)) (some_units quote cs) e

-- Units that are written are as many as the bytes of the value

plain_some : (quote b : ℕ) (xs : List ℕ) (body : Body) → is_unit quote (b ∷ []) ≡ true → body_of quote (b ∷ xs) ≡ Some body → IsAfter b (body_of quote xs) body
plain_some quote b [] body e h = go (plain_read quote b 0 e) where
  go : (unit_of quote b 0 ≡ Byte b 1) ⊎ (unit_of quote b 0 ≡ Bad) → IsAfter b None body
  go (inl f) = absurd (let z : None ≡ Some body = sym (ap (λ u. with_unit u None None) f) ∙ h in cc)
  go (inr f) = absurd (let z : None ≡ Some body = sym (ap (λ u. with_unit u None None) f) ∙ h in cc)
plain_some quote b (c ∷ cs) body e h = go (plain_read quote b c e) where
  go : (unit_of quote b c ≡ Byte b 1) ⊎ (unit_of quote b c ≡ Bad) → IsAfter b (body_of quote (c ∷ cs)) body
  go (inl f) = and_some b 1 (body_of quote (c ∷ cs)) body (sym (ap (λ u. with_unit u (body_of quote (c ∷ cs)) (body_of quote cs)) f) ∙ h)
  go (inr f) = absurd (let z : None ≡ Some body = sym (ap (λ u. with_unit u (body_of quote (c ∷ cs)) (body_of quote cs)) f) ∙ h in cc)

escape_some : (quote b c : ℕ) (xs : List ℕ) (body : Body) → IsQuote quote → is_unit quote (b ∷ c ∷ []) ≡ true → body_of quote (b ∷ c ∷ xs) ≡ Some body → (v : ℕ) × IsAfter v (body_of quote xs) body
escape_some quote b c xs body q e h =
    let as_byte = escape_unit_read quote b c q e in
    (as_byte.0, and_some as_byte.0 2 (body_of quote xs) body (sym (ap (λ u. with_unit u (body_of quote (c ∷ xs)) (body_of quote xs)) as_byte.1) ∙ h))

closed_here : (quote : ℕ) (rest : List ℕ) → body_of quote (quote ∷ rest) ≡ Some (record { len = 1; value = [] })
closed_here quote [] = ap (λ u. with_unit u None None) (closing_read quote 0)
closed_here quote (c ∷ cs) = ap (λ u. with_unit u (body_of quote (c ∷ cs)) (body_of quote cs)) (closing_read quote c)

one_more : (value : ℕ) (o : Option Body) (body : Body) (n : ℕ) (a : IsAfter value o body) → length a.later.value ≡ n → length body.value ≡ suc n
one_more value o body n a e = ap length a.values ∙ ap suc e

pub units_counted : (quote : ℕ) (units : List (List ℕ)) (rest : List ℕ) (body : Body) → IsQuote quote → list_all (is_unit quote) units ≡ true → body_of quote (concat units ++ quote ∷ rest) ≡ Some body → length body.value ≡ length units
units_counted quote [] rest body q all e =
    let z : Some (record { len = 1; value = [] }) ≡ Some body = sym (closed_here quote rest) ∙ e in
    let same : record { len = 1; value = [] } ≡ body = cc in
    sym (ap (λ (x : Body). length x.value) same)
units_counted quote ([] ∷ us) rest body q all e = absurd (false≢true all)
units_counted quote ((b ∷ []) ∷ us) rest body q all e =
    let parts = and_parts (is_unit quote (b ∷ [])) (list_all (is_unit quote) us) all in
    let a = plain_some quote b (concat us ++ quote ∷ rest) body parts.0 e in
    one_more b (body_of quote (concat us ++ quote ∷ rest)) body (length us) a (units_counted quote us rest a.later q parts.1 a.there)
units_counted quote ((b ∷ c ∷ []) ∷ us) rest body q all e =
    let parts = and_parts (is_unit quote (b ∷ c ∷ [])) (list_all (is_unit quote) us) all in
    let found = escape_some quote b c (concat us ++ quote ∷ rest) body q parts.0 e in
    one_more found.0 (body_of quote (concat us ++ quote ∷ rest)) body (length us) found.1 (units_counted quote us rest found.1.later q parts.1 found.1.there)
units_counted quote ((b ∷ c ∷ d ∷ bs) ∷ us) rest body q all e = absurd (false≢true all)

-- What follows the end of a text does not matter

and_more : (value len : ℕ) (o other : Option Body) (body : Body) → ((r : Body) → o ≡ Some r → other ≡ Some r) → and_byte value len o ≡ Some body → and_byte value len other ≡ Some body
and_more value len None other body same e = absurd (let z : None ≡ Some body = e in cc)
and_more value len (Some r) other body same e = ap (and_byte value len) (same r refl) ∙ e

with_more : (u : TextUnit) (one two one' two' : Option Body) (body : Body) → ((r : Body) → one ≡ Some r → one' ≡ Some r) → ((r : Body) → two ≡ Some r → two' ≡ Some r) → with_unit u one two ≡ Some body → with_unit u one' two' ≡ Some body
with_more Closing one two one' two' body f g e = e
with_more Bad one two one' two' body f g e = absurd (let z : None ≡ Some body = e in cc)
with_more (Byte value len) one two one' two' body f g e = go (eqb len 1) e where
  go : (t : Bool) → and_byte value len (cond t one two) ≡ Some body → and_byte value len (cond t one' two') ≡ Some body
  go true h = and_more value len one one' body f h
  go false h = and_more value len two two' body g h

last_extended : (quote b : ℕ) (ys : List ℕ) (u : TextUnit) (body : Body) → Read quote b 0 u → with_unit u None None ≡ Some body → body_of quote (b ∷ ys) ≡ Some body
last_extended quote b ys Closing body (closes c) e = ap (λ (x : ℕ). body_of quote (x ∷ ys)) (eqb-true b quote c) ∙ (closed_here quote ys ∙ e)
last_extended quote b ys Bad body (breaks c) e = absurd (let z : None ≡ Some body = e in cc)
last_extended quote b ys (Byte _ _) body (plain c) e = absurd (let z : None ≡ Some body = e in cc)
last_extended quote b ys (Byte _ _) body (escape c v) e = absurd (let z : None ≡ Some body = e in cc)

pub body_extended : (quote : ℕ) (bytes ys : List ℕ) (body : Body) → body_of quote bytes ≡ Some body → body_of quote (bytes ++ ys) ≡ Some body
body_extended quote [] ys body e = absurd (let z : None ≡ Some body = e in cc)
body_extended quote (b ∷ []) ys body e = last_extended quote b ys (unit_of quote b 0) body (read quote b 0) e
body_extended quote (b ∷ c ∷ cs) ys body e =
    with_more (unit_of quote b c) (body_of quote (c ∷ cs)) (body_of quote cs) (body_of quote (c ∷ cs ++ ys)) (body_of quote (cs ++ ys)) body
    (λ r f. body_extended quote (c ∷ cs) ys r f) (λ r f. body_extended quote cs ys r f) e
