-- By its first byte, what stands at the head of the bytes, and how far bytes of one class go.
use Rattle.std.proofs.Common.{◌≡◌, ℕ, ◌<◌, ◌≤◌, Bool, true, false, not, ◌&&◌, ◌||◌, ◌⊎◌, List, [], ◌∷◌, ◌++◌, length, take, drop, slice_index, cond, eqb, ltb, refl, sym, ap, ◌∙◌, subst, inl, inr, ⊎_elim, arith}
use Rattle.std.specs.List.{prefix_len, list_all}
use Rattle.std.specs.Char.{is_ascii_digit}
use Rattle.std.specs.Str.{bytes_eq}
use lib.Pointwise.{bytes_decides}
use Rattle.std.proofs.lemmas.Bool.{and_parts, or_cases, false≢true}
use Rattle.std.proofs.lemmas.Bool.Decides.{nat_tests}
use Rattle.std.proofs.lemmas.List.{take-append-drop}
use Rattle.vt_frac.specs.Names.{begins_name, is_name_byte, is_among, keywords, reserved}
use Rattle.vt_lex.specs.Bytes.{is_blank}
use Rattle.vt_lex.specs.Lexicon.{operators}
use Rattle.vt_lex.specs.Lexemes.{lexeme_by, lexeme_of, word_lexeme, symbol_lexeme, number_lexeme, text_lexeme, operator_lexeme}

-- A choice

pub passed_by : {X : Type 0} (b : Bool) (x y : X) → b ≡ false → cond b x y ≡ y
passed_by b x y e = ap (λ (t : Bool). cond t x y) e

pub chosen : {X : Type 0} (b : Bool) (x y : X) → b ≡ true → cond b x y ≡ x
chosen b x y e = ap (λ (t : Bool). cond t x y) e

-- The branches

pub record Begins (b : ℕ) : Type 0 where
  pub no_blank : is_blank b ≡ false
  pub no_line : eqb b 10 ≡ false
  pub no_hash : eqb b 35 ≡ false
  pub no_semicolon : eqb b 59 ≡ false

name_begins : (b : ℕ) → begins_name b ≡ true → Begins b
name_begins b e = record { no_blank = grind (arith, nat_tests); no_line = grind (arith, nat_tests); no_hash = grind (arith, nat_tests); no_semicolon = grind (arith, nat_tests) }

digit_begins : (b : ℕ) → is_ascii_digit b ≡ true → Begins b
digit_begins b e = record { no_blank = grind (arith, nat_tests); no_line = grind (arith, nat_tests); no_hash = grind (arith, nat_tests); no_semicolon = grind (arith, nat_tests) }

digit_no_name : (b : ℕ) → is_ascii_digit b ≡ true → begins_name b ≡ false
digit_no_name b e = grind (arith, nat_tests)

pub word_branch : (bytes : List ℕ) → begins_name (slice_index bytes 0) ≡ true → lexeme_of bytes ≡ word_lexeme bytes
unfolding lexeme_by
word_branch bytes e =
    let b = slice_index bytes 0 in
    let h = name_begins b e in
    passed_by (is_blank b) _ _ h.no_blank
    ∙ (passed_by (eqb b 10) _ _ h.no_line
    ∙ (passed_by (eqb b 35) _ _ h.no_hash
    ∙ (passed_by (eqb b 59) _ _ h.no_semicolon
    ∙ chosen (begins_name b) _ _ e)))

pub number_branch : (bytes : List ℕ) → is_ascii_digit (slice_index bytes 0) ≡ true → lexeme_of bytes ≡ number_lexeme bytes
unfolding lexeme_by
number_branch bytes e =
    let b = slice_index bytes 0 in
    let h = digit_begins b e in
    passed_by (is_blank b) _ _ h.no_blank
    ∙ (passed_by (eqb b 10) _ _ h.no_line
    ∙ (passed_by (eqb b 35) _ _ h.no_hash
    ∙ (passed_by (eqb b 59) _ _ h.no_semicolon
    ∙ (passed_by (begins_name b) _ _ (digit_no_name b e)
    ∙ chosen (is_ascii_digit b) _ _ e))))

pub symbol_branch : (bytes : List ℕ) → slice_index bytes 0 ≡ 58 → lexeme_of bytes ≡ symbol_lexeme bytes
unfolding lexeme_by
symbol_branch bytes e = ap (λ (b : ℕ). lexeme_by b bytes) e

pub text_branch : (bytes : List ℕ) → (slice_index bytes 0 ≡ 34) ⊎ (slice_index bytes 0 ≡ 39) → lexeme_of bytes ≡ text_lexeme bytes
unfolding lexeme_by
text_branch bytes (inl e) = ap (λ (b : ℕ). lexeme_by b bytes) e
text_branch bytes (inr e) = ap (λ (b : ℕ). lexeme_by b bytes) e

-- a byte with which only operators begin
abbrev pub begins_operator : ℕ → Bool
begins_operator b =
    not (is_blank b) && (not (eqb b 10) && (not (eqb b 35) && (not (eqb b 59) && (not (begins_name b) && (not (is_ascii_digit b) && (not (eqb b 58) && not (eqb b 34 || eqb b 39)))))))

pub not_true : (b : Bool) → not b ≡ true → b ≡ false
not_true true e = absurd (false≢true e)
not_true false e = refl

pub operator_branch : (bytes : List ℕ) → begins_operator (slice_index bytes 0) ≡ true → lexeme_of bytes ≡ operator_lexeme bytes
unfolding lexeme_by
operator_branch bytes e =
    let b = slice_index bytes 0 in
    let p1 = and_parts (not (is_blank b)) _ e in
    let p2 = and_parts (not (eqb b 10)) _ p1.1 in
    let p3 = and_parts (not (eqb b 35)) _ p2.1 in
    let p4 = and_parts (not (eqb b 59)) _ p3.1 in
    let p5 = and_parts (not (begins_name b)) _ p4.1 in
    let p6 = and_parts (not (is_ascii_digit b)) _ p5.1 in
    let p7 = and_parts (not (eqb b 58)) _ p6.1 in
    passed_by (is_blank b) _ _ (not_true _ p1.0)
    ∙ (passed_by (eqb b 10) _ _ (not_true _ p2.0)
    ∙ (passed_by (eqb b 35) _ _ (not_true _ p3.0)
    ∙ (passed_by (eqb b 59) _ _ (not_true _ p4.0)
    ∙ (passed_by (begins_name b) _ _ (not_true _ p5.0)
    ∙ (passed_by (is_ascii_digit b) _ _ (not_true _ p6.0)
    ∙ (passed_by (eqb b 58) _ _ (not_true _ p7.0)
    ∙ passed_by (eqb b 34 || eqb b 39) _ _ (not_true _ p7.1)))))))

-- Words of the tables

pub among_all : (q : List ℕ → Bool) (words : List (List ℕ)) (word : List ℕ) → list_all q words ≡ true → is_among words word ≡ true → q word ≡ true
among_all q [] word all e = absurd (false≢true e)
among_all q (w ∷ ws) word all e =
    let parts = and_parts (q w) (list_all q ws) all in
    ⊎_elim
    (λ (h : bytes_eq w word ≡ true). subst (λ (x : List ℕ). q x ≡ true) ((bytes_decides w word).0 h) parts.0)
    (λ (h : is_among ws word ≡ true). among_all q ws word parts.1 h)
    (or_cases (bytes_eq w word) (is_among ws word) e)

abbrev is_word : List ℕ → Bool
is_word w = begins_name (slice_index w 0) && list_all is_name_byte w

pub keyword_word : (word : List ℕ) → is_among keywords word ≡ true → (begins_name (slice_index word 0) ≡ true) × (list_all is_name_byte word ≡ true)
unfolding keywords
keyword_word word e = and_parts (begins_name (slice_index word 0)) (list_all is_name_byte word) (among_all is_word keywords word refl e)

pub reserved_word : (word : List ℕ) → is_among reserved word ≡ true → (begins_name (slice_index word 0) ≡ true) × (list_all is_name_byte word ≡ true)
unfolding reserved
reserved_word word e = and_parts (begins_name (slice_index word 0)) (list_all is_name_byte word) (among_all is_word reserved word refl e)

pub operator_first : (word : List ℕ) → is_among operators word ≡ true → (0 < length word) × (begins_operator (slice_index word 0) ≡ true)
unfolding operators
operator_first word e = (
  ltb-some (among_all (λ (w : List ℕ). ltb 0 (length w)) operators word refl e),
  among_all (λ (w : List ℕ). begins_operator (slice_index w 0)) operators word refl e,
) where
  ltb-some : ltb 0 (length word) ≡ true → 0 < length word
  ltb-some h = grind (arith, nat_tests)

-- Bytes of one class

-- bytes that all pass are among those that pass from the head on
pub all_within : (p : ℕ → Bool) (xs ys : List ℕ) → list_all p xs ≡ true → length xs ≤ prefix_len p (xs ++ ys)
all_within p [] ys e = omega arith
all_within p (x ∷ xs) ys e =
    let parts = and_parts (p x) (list_all p xs) e in
    let more = all_within p xs ys parts.1 in
    rw parts.0 (omega arith)

-- they are exactly those where the next one does not pass
pub all_up_to : (p : ℕ → Bool) (xs : List ℕ) (y : ℕ) (ys : List ℕ) → list_all p xs ≡ true → p y ≡ false → prefix_len p (xs ++ y ∷ ys) ≡ length xs
all_up_to p [] y ys e f = rw f refl
all_up_to p (x ∷ xs) y ys e f =
    let parts = and_parts (p x) (list_all p xs) e in
    let more = all_up_to p xs y ys parts.1 f in
    rw parts.0 (omega arith)

-- bytes of which the first so many are these
pub split_at : (len : ℕ) (bytes form : List ℕ) → take len bytes ≡ form → bytes ≡ form ++ drop len bytes
split_at len bytes form e = sym (take_drop len bytes) ∙ ap (λ (xs : List ℕ). xs ++ drop len bytes) e where
  take_drop : (n : ℕ) (xs : List ℕ) → take n xs ++ drop n xs ≡ xs
  take_drop n xs = take-append-drop n xs
