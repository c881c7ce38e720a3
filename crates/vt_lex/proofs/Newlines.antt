-- Which forms have no newline.
use Rattle.std.proofs.Common.{◌≡◌, ℕ, suc, ◌+◌, ◌<◌, ◌≤◌, Bool, true, false, ◌&&◌, List, [], ◌∷◌, ◌++◌, length, take, Option, Some, None, cond, eqb, refl, sym, ap, ◌∙◌, subst, inl, inr, ⊎_elim, arith, one-add}
use Rattle.std.specs.List.{list_all}
use Rattle.std.specs.Char.{digit_value}
use Rattle.std.specs.Str.{bytes_eq}
use Rattle.std.specs.Str.Parse.{AllDigits}
use lib.Pointwise.{bytes_decides}
use Rattle.std.proofs.lemmas.Bool.{eqb-true, ne_eqb, and_parts, or_cases, false≢true}
use Rattle.std.proofs.lemmas.List.{take_all}
use Rattle.std.proofs.lemmas.List.Sums.{sum_by-cons, sum_by-append}
use Rattle.vt_frac.specs.Names.{is_among, keywords, reserved}
use Rattle.vt_lex.specs.declared.texts.TextUnit.{TextUnit}
use Rattle.vt_lex.specs.declared.texts.TextUnit.TheVariants.{Closing, Byte, Bad}
use Rattle.vt_lex.specs.Texts.{Body, body_of, with_unit, and_byte, unit_of, escape_unit, escaped, IsTextForm}
use Rattle.vt_lex.specs.Lexicon.{operators}
use Rattle.vt_lex.specs.Places.{newlines}
use Rattle.vt_lex.proofs.Bounds.{unit_cases, IsOneOrTwo}

-- 1 for a newline
abbrev pub one_newline : ℕ → ℕ
one_newline b = cond (eqb b 10) 1 0

pub newlines_cons : (b : ℕ) (bs : List ℕ) → newlines (b ∷ bs) ≡ one_newline b + newlines bs
newlines_cons b bs = sum_by-cons one_newline b bs

pub newlines_append : (xs ys : List ℕ) → newlines (xs ++ ys) ≡ newlines xs + newlines ys
newlines_append xs ys = sum_by-append one_newline xs ys

pub none_passed : (b : ℕ) (bs : List ℕ) → eqb b 10 ≡ false → newlines bs ≡ 0 → newlines (b ∷ bs) ≡ 0
none_passed b bs e rest =
    let first : one_newline b ≡ 0 = ap (λ (t : Bool). cond t 1 0) e in
    let sum = newlines_cons b bs in
    omega arith

-- a byte that passes a test that a newline does not pass
pub no_newline : (p : ℕ → Bool) → p 10 ≡ false → (b : ℕ) → p b ≡ true → eqb b 10 ≡ false
no_newline p fails b e = ne_eqb b 10 (λ (same : b ≡ 10). absurd (false≢true (sym fails ∙ (ap p (sym same) ∙ e))))

pub no_newlines : (p : ℕ → Bool) → p 10 ≡ false → (bytes : List ℕ) → list_all p bytes ≡ true → newlines bytes ≡ 0
no_newlines p fails [] e = refl
no_newlines p fails (b ∷ bs) e =
    let parts = and_parts (p b) (list_all p bs) e in
    none_passed b bs (no_newline p fails b parts.0) (no_newlines p fails bs parts.1)

pub digits_alone : (bytes : List ℕ) → AllDigits 10 bytes → newlines bytes ≡ 0
digits_alone [] all = refl
digits_alone (d ∷ ds) all =
    none_passed d ds (ne_eqb d 10 (λ (same : d ≡ 10). let h : digit_value 10 < 10 = subst (λ (x : ℕ). digit_value x < 10) same all.0 in omega arith)) (digits_alone ds all.1)

-- words of a list without newlines
abbrev have_none : List (List ℕ) → Bool
have_none words = list_all (λ (w : List ℕ). eqb (newlines w) 0) words

among_alone : (words : List (List ℕ)) (word : List ℕ) → have_none words ≡ true → is_among words word ≡ true → newlines word ≡ 0
among_alone [] word all e = absurd (false≢true e)
among_alone (w ∷ ws) word all e =
    let parts = and_parts (eqb (newlines w) 0) (have_none ws) all in
    ⊎_elim
    (λ (h : bytes_eq w word ≡ true). subst (λ (x : List ℕ). newlines x ≡ 0) ((bytes_decides w word).0 h) (eqb-true (newlines w) 0 parts.0))
    (λ (h : is_among ws word ≡ true). among_alone ws word parts.1 h)
    (or_cases (bytes_eq w word) (is_among ws word) e)

pub keyword_alone : (word : List ℕ) → is_among keywords word ≡ true → newlines word ≡ 0
unfolding keywords
keyword_alone word e = among_alone keywords word refl e

pub reserved_alone : (word : List ℕ) → is_among reserved word ≡ true → newlines word ≡ 0
unfolding reserved
reserved_alone word e = among_alone reserved word refl e

pub operator_alone : (word : List ℕ) → is_among operators word ≡ true → newlines word ≡ 0
unfolding operators
operator_alone word e = among_alone operators word refl e

-- a unit of a text whose quote is no newline has none
escaped_none : (quote : ℕ) → eqb 10 quote ≡ false → escaped quote 10 ≡ None
escaped_none quote e = go (eqb 10 quote) (eqb quote 34) e where
  go : (x y : Bool) → x ≡ false → cond x (Some quote) (cond (y && false) (Some 10) (cond (y && false) (Some 9) None)) ≡ None
  go true y f = absurd (false≢true (sym f))
  go false true f = refl
  go false false f = refl

first_none : (quote b next : ℕ) → eqb 10 quote ≡ false → (unit_of quote b next ≡ Bad → ⊥) → eqb b 10 ≡ false
first_none quote b next e well =
    let bad : unit_of quote 10 next ≡ Bad = ap (λ (t : Bool). cond t Closing Bad) e in
    ne_eqb b 10 (λ (same : b ≡ 10). well (ap (λ (x : ℕ). unit_of quote x next) same ∙ bad))

same_len : (v w m n : ℕ) → Byte v m ≡ Byte w n → m ≡ n
same_len v w m n h = cc

no_two : (a b c d : Bool) (v w : ℕ) → cond a Closing (cond b Bad (cond c (escape_unit None) (cond d Bad (Byte v 1)))) ≡ Byte w 2 → ⊥
no_two true b c d v w h = let z : Closing ≡ Byte w 2 = h in cc
no_two false true c d v w h = let z : Bad ≡ Byte w 2 = h in cc
no_two false false true d v w h = let z : Bad ≡ Byte w 2 = h in cc
no_two false false false true v w h = let z : Bad ≡ Byte w 2 = h in cc
no_two false false false false v w h = let same = same_len v w 1 2 h in omega arith

second_none : (quote b next value : ℕ) → eqb 10 quote ≡ false → unit_of quote b next ≡ Byte value 2 → eqb next 10 ≡ false
second_none quote b next value e unit =
    ne_eqb next 10
    (λ (same : next ≡ 10).
    let here : unit_of quote b 10 ≡ Byte value 2 = ap (λ (x : ℕ). unit_of quote b x) (sym same) ∙ unit in
    let known : cond (eqb b quote) Closing (cond (eqb b 10) Bad (cond (eqb b 92) (escape_unit None) (cond (eqb quote 34 && (eqb b 35 && false)) Bad (Byte b 1)))) ≡ Byte value 2 =
    ap (λ (o : Option ℕ). cond (eqb b quote) Closing (cond (eqb b 10) Bad (cond (eqb b 92) (escape_unit o) (cond (eqb quote 34 && (eqb b 35 && false)) Bad (Byte b 1))))) (sym (escaped_none quote e)) ∙ here in
    no_two (eqb b quote) (eqb b 10) (eqb b 92) (eqb quote 34 && (eqb b 35 && false)) b value known)

closing_none : (quote b next : ℕ) → eqb 10 quote ≡ false → unit_of quote b next ≡ Closing → newlines (b ∷ []) ≡ 0
closing_none quote b next e unit =
    none_passed b [] (first_none quote b next e (λ (h : unit_of quote b next ≡ Bad). let z : Closing ≡ Bad = sym unit ∙ h in cc)) refl

byte_none : (quote b next value len : ℕ) → eqb 10 quote ≡ false → unit_of quote b next ≡ Byte value len → eqb b 10 ≡ false
byte_none quote b next value len e unit = first_none quote b next e (λ (h : unit_of quote b next ≡ Bad). let z : Byte value len ≡ Bad = sym unit ∙ h in cc)

module _ (quote b c : ℕ) (cs : List ℕ) (e : eqb 10 quote ≡ false) (one : (r : Body) → body_of quote (c ∷ cs) ≡ Some r → newlines (take r.len (c ∷ cs)) ≡ 0) (two : (r : Body) → body_of quote cs ≡ Some r → newlines (take r.len cs) ≡ 0) where
  after_one : (value : ℕ) (o : Option Body) (body : Body) → unit_of quote b c ≡ Byte value 1 → body_of quote (c ∷ cs) ≡ o → and_byte value 1 o ≡ Some body → newlines (take body.len (b ∷ c ∷ cs)) ≡ 0
  after_one value None body unit f g = absurd (let z : None ≡ Some body = g in cc)
  after_one value (Some r) body unit f g =
      let same : record { len = 1 + r.len; value = value ∷ r.value } ≡ body = cc in
      let whole : newlines (take (1 + r.len) (b ∷ c ∷ cs)) ≡ 0 =
      ap (λ (n : ℕ). newlines (take n (b ∷ c ∷ cs))) (one-add r.len) ∙ none_passed b (take r.len (c ∷ cs)) (byte_none quote b c value 1 e unit) (one r f) in
      subst (λ (x : Body). newlines (take x.len (b ∷ c ∷ cs)) ≡ 0) same whole

  after_two : (value : ℕ) (o : Option Body) (body : Body) → unit_of quote b c ≡ Byte value 2 → body_of quote cs ≡ o → and_byte value 2 o ≡ Some body → newlines (take body.len (b ∷ c ∷ cs)) ≡ 0
  after_two value None body unit f g = absurd (let z : None ≡ Some body = g in cc)
  after_two value (Some r) body unit f g =
      let same : record { len = 2 + r.len; value = value ∷ r.value } ≡ body = cc in
      let size : 2 + r.len ≡ suc (suc r.len) = omega arith in
      let inner : newlines (c ∷ take r.len cs) ≡ 0 = none_passed c (take r.len cs) (second_none quote b c value e unit) (two r f) in
      let whole : newlines (take (2 + r.len) (b ∷ c ∷ cs)) ≡ 0 =
      ap (λ (n : ℕ). newlines (take n (b ∷ c ∷ cs))) size ∙ none_passed b (c ∷ take r.len cs) (byte_none quote b c value 2 e unit) inner in
      subst (λ (x : Body). newlines (take x.len (b ∷ c ∷ cs)) ≡ 0) same whole

  alone_by : (u : TextUnit) (body : Body) → unit_of quote b c ≡ u → IsOneOrTwo u → with_unit u (body_of quote (c ∷ cs)) (body_of quote cs) ≡ Some body → newlines (take body.len (b ∷ c ∷ cs)) ≡ 0
  alone_by Closing body unit s g =
      let same : record { len = 1; value = [] } ≡ body = cc in
      subst (λ (x : Body). newlines (take x.len (b ∷ c ∷ cs)) ≡ 0) same (closing_none quote b c e unit)
  alone_by Bad body unit s g = absurd (let z : None ≡ Some body = g in cc)
  alone_by (Byte value len) body unit (inl size) g =
      after_one value (body_of quote (c ∷ cs)) body (unit ∙ ap (Byte value) size) refl
      (sym (ap (λ (n : ℕ). and_byte value n (cond (eqb n 1) (body_of quote (c ∷ cs)) (body_of quote cs))) size) ∙ g)
  alone_by (Byte value len) body unit (inr size) g =
      after_two value (body_of quote cs) body (unit ∙ ap (Byte value) size) refl
      (sym (ap (λ (n : ℕ). and_byte value n (cond (eqb n 1) (body_of quote (c ∷ cs)) (body_of quote cs))) size) ∙ g)

last_alone : (quote b : ℕ) → eqb 10 quote ≡ false → (u : TextUnit) (body : Body) → unit_of quote b 0 ≡ u → with_unit u None None ≡ Some body → newlines (take body.len (b ∷ [])) ≡ 0
last_alone quote b e Closing body unit g =
    let same : record { len = 1; value = [] } ≡ body = cc in
    subst (λ (x : Body). newlines (take x.len (b ∷ [])) ≡ 0) same (closing_none quote b 0 e unit)
last_alone quote b e Bad body unit g = absurd (let z : None ≡ Some body = g in cc)
last_alone quote b e (Byte value len) body unit g = nothing (eqb len 1) g where
  nothing : (t : Bool) → and_byte value len (cond t None None) ≡ Some body → newlines (take body.len (b ∷ [])) ≡ 0
  nothing true f = absurd (let z : None ≡ Some body = f in cc)
  nothing false f = absurd (let z : None ≡ Some body = f in cc)

body_alone : (quote : ℕ) → eqb 10 quote ≡ false → (bs : List ℕ) (body : Body) → body_of quote bs ≡ Some body → newlines (take body.len bs) ≡ 0
body_alone quote e [] body g = absurd (let z : None ≡ Some body = g in cc)
body_alone quote e (b ∷ []) body g = last_alone quote b e (unit_of quote b 0) body refl g
body_alone quote e (b ∷ c ∷ bs) body g =
    alone_by quote b c bs e (body_alone quote e (c ∷ bs)) (body_alone quote e bs) (unit_of quote b c) body refl (unit_cases quote b c) g

pub text_alone : (form : List ℕ) → IsTextForm form → newlines form ≡ 0
text_alone [] t = absurd (⊎_elim (λ (h : 0 ≡ 34). omega arith) (λ (h : 0 ≡ 39). omega arith) t.quote)
text_alone (q ∷ rest) t =
    let opens : eqb 10 q ≡ false = ⊎_elim (λ (h : q ≡ 34). ap (λ (x : ℕ). eqb 10 x) h) (λ (h : q ≡ 39). ap (λ (x : ℕ). eqb 10 x) h) t.quote in
    let first : eqb q 10 ≡ false = ⊎_elim (λ (h : q ≡ 34). ap (λ (x : ℕ). eqb x 10) h) (λ (h : q ≡ 39). ap (λ (x : ℕ). eqb x 10) h) t.quote in
    let ends = t.ends in
    let most : length rest ≤ t.body.len = omega arith in
    let inner : newlines rest ≡ 0 = ap newlines (sym (take_all t.body.len rest most)) ∙ body_alone q opens rest t.body t.closes in
    none_passed q rest first inner
