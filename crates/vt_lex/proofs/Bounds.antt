-- A lexeme has at least one byte, and no more than there are.
use Rattle.std.proofs.Common.{◌≡◌, ℕ, zero, suc, ◌+◌, ◌<◌, ◌≤◌, Bool, true, false, not, ◌&&◌, ◌||◌, ◌⊎◌, nat_le, nat_lt, List, [], ◌∷◌, length, take, drop, get_or, slice_index, Option, Some, None, Result, Ok, Err, cond, eqb, refl, sym, ap, ◌∙◌, subst, inl, inr, arith, lit<, length-drop, length-take}
use Rattle.std.specs.List.{prefix_len, list_all, starts_with}
use Rattle.std.specs.Prelude.{nat_eq}
use lib.Pointwise.{pointwise_long}
use Rattle.std.specs.Char.{is_ascii_digit}
use Rattle.std.proofs.lemmas.Bool.{cond_both, eqb-true, ltb-true, and_parts}
use Rattle.std.proofs.lemmas.Bool.Decides.{nat_tests}
use Rattle.std.proofs.lemmas.List.Sums.{prefix_len-le-length}
use Rattle.vt_frac.specs.Names.{begins_name, begins_symbol, is_name_byte, is_among, keywords, reserved}
use Rattle.vt_lex.specs.declared.token.TokenKind.{TokenKind}
use Rattle.vt_lex.specs.declared.token.TokenKind.TheVariants.{Newline, Name, Label, Keyword, Reserved, Symbol, Whole, Decimal, Text, Operator}
use Rattle.vt_lex.specs.declared.fault.LexKind.{LexKind}
use Rattle.vt_lex.specs.declared.fault.LexKind.TheVariants.{Byte as NoToken, Text as BadText, Number, Long}
use Rattle.vt_lex.specs.declared.lexeme.Sort.{Sort}
use Rattle.vt_lex.specs.declared.lexeme.Sort.TheVariants.{Blank, Comment, Line, Token}
use Rattle.vt_lex.specs.declared.lexeme.Lexeme.{Lexeme}
use Rattle.vt_lex.specs.declared.texts.TextUnit.{TextUnit}
use Rattle.vt_lex.specs.declared.texts.TextUnit.TheVariants.{Closing, Byte, Bad}
use Rattle.vt_lex.specs.Bytes.{is_blank}
use Rattle.vt_lex.specs.Lexicon.{first_start, operators}
use Rattle.vt_lex.specs.Numbers.{whole_fits, decimal_fits}
use Rattle.vt_lex.specs.Texts.{Body, body_of, with_unit, and_byte, unit_of, escape_unit, escaped}
use Rattle.vt_lex.specs.Lexemes.{lexeme, name_limit, named, ends_label, word_of, word_lexeme, symbol_lexeme, whole_of, decimal_of, number_lexeme, text_of, text_lexeme, operator_of, operator_lexeme, comment_lexeme, lexeme_by, lexeme_of}

-- the lexeme has at least one and at most n bytes
pub record IsBounded (n : ℕ) (r : Result Lexeme LexKind) : Type 0 where
  pub bounds : (p : Lexeme) → r ≡ Ok p → (0 < p.len) × (p.len ≤ n)

bounded : (n : ℕ) (sort : Sort) (len : ℕ) → 0 < len → len ≤ n → IsBounded n (lexeme sort len)
bounded n sort len some within = record {
  bounds = λ p e. let same : record { sort = sort; len = len } ≡ p = cc in subst (λ (x : Lexeme). (0 < x.len) × (x.len ≤ n)) same (some, within);
}

fault_bounded : (n : ℕ) (kind : LexKind) → IsBounded n (Err kind)
fault_bounded n kind = record { bounds = λ p e. absurd (let z : Err kind ≡ Ok p = e in cc) }

either : (n : ℕ) (b : Bool) (x y : Result Lexeme LexKind) → (b ≡ true → IsBounded n x) → (b ≡ false → IsBounded n y) → IsBounded n (cond b x y)
either n b x y f g = cond_both b x y (IsBounded n) f g

named_bounded : (n : ℕ) (kind : TokenKind) (name len : ℕ) → 0 < len → len ≤ n → IsBounded n (named kind name len)
named_bounded n kind name len some within = either n (nat_le name name_limit) (lexeme (Token kind) len) (Err Long) (λ _. bounded n (Token kind) len some within) (λ _. fault_bounded n Long)

-- a byte that is not 0 is within the list
pub inside : (bytes : List ℕ) (i b : ℕ) → 0 < b → get_or bytes i 0 ≡ b → i < length bytes
inside [] i b some e = absurd (omega arith)
inside (x ∷ xs) zero b some e = omega arith
inside (x ∷ xs) (suc i) b some e = let h = inside xs i b some e in omega arith

pub prefix_some : (p : ℕ → Bool) (bytes : List ℕ) → 0 < length bytes → p (get_or bytes 0 0) ≡ true → 0 < prefix_len p bytes
prefix_some p [] some e = absurd (omega arith)
prefix_some p (b ∷ bs) some e = rw e (omega arith)

pub begins_in : (b : ℕ) → begins_name b ≡ true → is_name_byte b ≡ true
begins_in b e = grind (arith, nat_tests)

-- a colon is within the bytes
label_inside : (n : ℕ) (bytes : List ℕ) → ends_label (drop n bytes) ≡ true → n + 1 ≤ length bytes
label_inside n bytes e =
    let colon : get_or (drop n bytes) 0 0 ≡ 58 = eqb-true (get_or (drop n bytes) 0 0) 58 (and_parts (eqb (get_or (drop n bytes) 0 0) 58) (not (eqb (get_or (drop n bytes) 1 0) 58)) e).0 in
    let there : 0 < length (drop n bytes) = inside (drop n bytes) 0 58 (lit< tt) colon in
    omega (arith, length-drop n bytes)

-- what follows a dot is within the bytes
pub decimal_inside : (bytes : List ℕ) (n part : ℕ) → part ≤ length (drop (n + 1) bytes) → eqb (get_or bytes n 0) 46 ≡ true → n + 1 + part ≤ length bytes
decimal_inside bytes n part rest e =
    let there : n < length bytes = inside bytes n 46 (lit< tt) (eqb-true (get_or bytes n 0) 46 e) in
    omega (arith, length-drop (n + 1) bytes)

word_of_bounded : (size n : ℕ) (word rest : List ℕ) → 0 < n → n ≤ size → (ends_label rest ≡ true → n + 1 ≤ size) → IsBounded size (word_of n word rest)
word_of_bounded size n word rest least most label =
    let name : Result Lexeme LexKind = named Name n n in
    let other : Result Lexeme LexKind = cond (is_among reserved word) (lexeme (Token Reserved) n) name in
    either size (ends_label rest) (named Label n (n + 1)) (cond (is_among keywords word) (lexeme (Token Keyword) n) other)
    (λ e. named_bounded size Label n (n + 1) (omega arith) (label e))
    (λ _. either size (is_among keywords word) (lexeme (Token Keyword) n) other (λ _. bounded size (Token Keyword) n least most)
    (λ _. either size (is_among reserved word) (lexeme (Token Reserved) n) name (λ _. bounded size (Token Reserved) n least most)
    (λ _. named_bounded size Name n n least most)))

word_bounded : (bytes : List ℕ) → 0 < length bytes → begins_name (slice_index bytes 0) ≡ true → IsBounded (length bytes) (word_lexeme bytes)
unfolding word_lexeme
word_bounded bytes some begins =
    let n = prefix_len is_name_byte bytes in
    let first : is_name_byte (get_or bytes 0 0) ≡ true = begins_in (get_or bytes 0 0) begins in
    let least : 0 < n = prefix_some is_name_byte bytes some first in
    word_of_bounded (length bytes) n (take n bytes) (drop n bytes) least (prefix_len-le-length is_name_byte bytes) (label_inside n bytes)

symbol_bounded : (bytes : List ℕ) → 0 < length bytes → IsBounded (length bytes) (symbol_lexeme bytes)
unfolding symbol_lexeme
symbol_bounded bytes some =
    let size = length bytes in
    let n = prefix_len is_name_byte (drop 1 bytes) in
    let most : n ≤ length (drop 1 bytes) = prefix_len-le-length is_name_byte (drop 1 bytes) in
    let shorter = length-drop 1 bytes in
    either size (begins_symbol (slice_index bytes 1)) (named Symbol n (n + 1)) (Err NoToken) (λ _. named_bounded size Symbol n (n + 1) (omega arith) (omega arith)) (λ _. fault_bounded size NoToken)

decimal_bounded : (size n : ℕ) (form : List ℕ) → 0 < n → n ≤ size → IsBounded size (decimal_of n form)
decimal_bounded size n form least most =
    either size (decimal_fits form) (lexeme (Token Decimal) n) (Err Number) (λ _. bounded size (Token Decimal) n least most) (λ _. fault_bounded size Number)

whole_bounded : (size n : ℕ) (form : List ℕ) → 0 < n → n ≤ size → IsBounded size (whole_of n form)
whole_bounded size n form least most =
    either size (whole_fits n form) (lexeme (Token Whole) n) (Err Number) (λ _. bounded size (Token Whole) n least most) (λ _. fault_bounded size Number)

number_bounded : (bytes : List ℕ) → 0 < length bytes → is_ascii_digit (slice_index bytes 0) ≡ true → IsBounded (length bytes) (number_lexeme bytes)
unfolding number_lexeme
number_bounded bytes some begins =
    let size = length bytes in
    let n = prefix_len is_ascii_digit bytes in
    let part = prefix_len is_ascii_digit (drop (n + 1) bytes) in
    let least : 0 < n = prefix_some is_ascii_digit bytes some begins in
    let most : n ≤ size = prefix_len-le-length is_ascii_digit bytes in
    let dotted = eqb (slice_index bytes n) 46 in
    either size (dotted && nat_lt 0 part) (decimal_of (n + 1 + part) (take (n + 1 + part) bytes)) (whole_of n (take n bytes))
    (λ e. decimal_bounded size (n + 1 + part) (take (n + 1 + part) bytes) (omega arith) (decimal_inside bytes n part (prefix_len-le-length is_ascii_digit (drop (n + 1) bytes)) (and_parts dotted (nat_lt 0 part) e).0))
    (λ _. whole_bounded size n (take n bytes) least most)

-- the rest of a text is within the bytes
pub record IsInside (n : ℕ) (o : Option Body) : Type 0 where
  pub inside : (body : Body) → o ≡ Some body → body.len ≤ n

none_inside : (n : ℕ) → IsInside n None
none_inside n = record { inside = λ body e. absurd (let z : None ≡ Some body = e in cc) }

some_inside : (n : ℕ) (b : Body) → b.len ≤ n → IsInside n (Some b)
some_inside n b h = record { inside = λ body e. let same : b ≡ body = cc in subst (λ (x : Body). x.len ≤ n) same h }

and_inside : (n m value len : ℕ) (o : Option Body) → len + m ≤ n → IsInside m o → IsInside n (and_byte value len o)
and_inside n m value len None h i = none_inside n
and_inside n m value len (Some body) h i = let w = i.inside body refl in some_inside n (record { len = len + body.len; value = value ∷ body.value }) (omega arith)

-- the lengths that a unit may have
abbrev pub IsOneOrTwo : TextUnit → Type 0
IsOneOrTwo (Byte value len) = (len ≡ 1) ⊎ (len ≡ 2)
IsOneOrTwo Closing = Unit {0}
IsOneOrTwo Bad = Unit {0}

unit_go : (a b c d : Bool) (e : Option ℕ) (v : ℕ) → IsOneOrTwo (cond a Closing (cond b Bad (cond c (escape_unit e) (cond d Bad (Byte v 1)))))
unit_go true b c d e v = tt
unit_go false true c d e v = tt
unit_go false false true d None v = tt
unit_go false false true d (Some w) v = inr refl
unit_go false false false true e v = tt
unit_go false false false false e v = inl refl

pub unit_cases : (quote b next : ℕ) → IsOneOrTwo (unit_of quote b next)
unit_cases quote b next = unit_go (eqb b quote) (eqb b 10) (eqb b 92) (eqb quote 34 && (eqb b 35 && eqb next 123)) (escaped quote next) b

-- the last byte of the bytes
last_inside : (u : TextUnit) → IsInside 1 (with_unit u None None)
last_inside Closing = some_inside 1 (record { len = 1; value = [] }) (omega arith)
last_inside Bad = none_inside 1
last_inside (Byte value len) = nothing (eqb len 1) where
  nothing : (t : Bool) → IsInside 1 (and_byte value len (cond t None None))
  nothing true = none_inside 1
  nothing false = none_inside 1

unit_inside : (m : ℕ) (u : TextUnit) (one two : Option Body) → IsOneOrTwo u → IsInside (suc m) one → IsInside m two → IsInside (suc (suc m)) (with_unit u one two)
unit_inside m Closing one two s i j = some_inside (suc (suc m)) (record { len = 1; value = [] }) (omega arith)
unit_inside m Bad one two s i j = none_inside (suc (suc m))
unit_inside m (Byte value len) one two (inl e) i j =
    subst (λ (n : ℕ). IsInside (suc (suc m)) (and_byte value n (cond (eqb n 1) one two))) (sym e) (and_inside (suc (suc m)) (suc m) value 1 one (omega arith) i)
unit_inside m (Byte value len) one two (inr e) i j =
    subst (λ (n : ℕ). IsInside (suc (suc m)) (and_byte value n (cond (eqb n 1) one two))) (sym e) (and_inside (suc (suc m)) m value 2 two (omega arith) j)

pub body_inside : (quote : ℕ) (bytes : List ℕ) → IsInside (length bytes) (body_of quote bytes)
body_inside quote [] = none_inside 0
body_inside quote (b ∷ []) = last_inside (unit_of quote b 0)
body_inside quote (b ∷ c ∷ bytes) =
    unit_inside (length bytes) (unit_of quote b c) (body_of quote (c ∷ bytes)) (body_of quote bytes) (unit_cases quote b c) (body_inside quote (c ∷ bytes)) (body_inside quote bytes)

text_of_bounded : (n m : ℕ) (o : Option Body) → 1 + m ≤ n → IsInside m o → IsBounded n (text_of o)
text_of_bounded n m None h i = fault_bounded n BadText
text_of_bounded n m (Some body) h i =
    let within : body.len ≤ m = i.inside body refl in
    either n (nat_le (length body.value) 4096) (lexeme (Token Text) (1 + body.len)) (Err Long) (λ _. bounded n (Token Text) (1 + body.len) (omega arith) (omega arith)) (λ _. fault_bounded n Long)

text_bounded : (bytes : List ℕ) → 0 < length bytes → IsBounded (length bytes) (text_lexeme bytes)
unfolding text_lexeme
text_bounded bytes some =
    text_of_bounded (length bytes) (length (drop 1 bytes)) (body_of (slice_index bytes 0) (drop 1 bytes)) (omega (arith, length-drop 1 bytes)) (body_inside (slice_index bytes 0) (drop 1 bytes))

start_inside : (bytes form : List ℕ) → starts_with nat_eq bytes form ≡ true → length form ≤ length bytes
start_inside bytes form e = omega (arith, pointwise_long nat_eq form (take (length form) bytes) e, length-take (length form) bytes)

operator_among : (bytes : List ℕ) (forms : List (List ℕ)) → list_all (λ f. nat_lt 0 (length f)) forms ≡ true → IsBounded (length bytes) (operator_of (first_start forms bytes))
operator_among bytes [] e = fault_bounded (length bytes) NoToken
operator_among bytes (f ∷ fs) e =
    let parts = and_parts (nat_lt 0 (length f)) (list_all (λ f. nat_lt 0 (length f)) fs) e in
    cond_both (starts_with nat_eq bytes f) (Some (length f)) (first_start fs bytes) (λ o. IsBounded (length bytes) (operator_of o))
    (λ h. bounded (length bytes) (Token Operator) (length f) (ltb-true 0 (length f) parts.0) (start_inside bytes f h))
    (λ _. operator_among bytes fs parts.1)

operator_bounded : (bytes : List ℕ) → IsBounded (length bytes) (operator_lexeme bytes)
unfolding operator_lexeme operators
operator_bounded bytes = operator_among bytes operators refl

comment_bounded : (bytes : List ℕ) → 0 < length bytes → slice_index bytes 0 ≡ 35 → IsBounded (length bytes) (comment_lexeme bytes)
unfolding comment_lexeme
comment_bounded bytes some e =
    let p : ℕ → Bool = λ b. not (eqb b 10) in
    bounded (length bytes) Comment (prefix_len p bytes) (prefix_some p bytes some (rw e refl)) (prefix_len-le-length p bytes)

lexeme_by_bounded : (first : ℕ) (bytes : List ℕ) → 0 < length bytes → first ≡ slice_index bytes 0 → IsBounded (length bytes) (lexeme_by first bytes)
unfolding lexeme_by
lexeme_by_bounded first bytes some at =
    let n = length bytes in
    let quoted : Result Lexeme LexKind = cond (eqb first 34 || eqb first 39) (text_lexeme bytes) (operator_lexeme bytes) in
    let symbol : Result Lexeme LexKind = cond (eqb first 58) (symbol_lexeme bytes) quoted in
    let number : Result Lexeme LexKind = cond (is_ascii_digit first) (number_lexeme bytes) symbol in
    let word : Result Lexeme LexKind = cond (begins_name first) (word_lexeme bytes) number in
    let semicolon : Result Lexeme LexKind = cond (eqb first 59) (lexeme (Token Newline) 1) word in
    let comment : Result Lexeme LexKind = cond (eqb first 35) (comment_lexeme bytes) semicolon in
    let line : Result Lexeme LexKind = cond (eqb first 10) (lexeme Line 1) comment in
    either n (is_blank first) (lexeme Blank 1) line (λ _. bounded n Blank 1 (omega arith) (omega arith))
    (λ _. either n (eqb first 10) (lexeme Line 1) comment (λ _. bounded n Line 1 (omega arith) (omega arith))
    (λ _. either n (eqb first 35) (comment_lexeme bytes) semicolon (λ e. comment_bounded bytes some (sym at ∙ eqb-true first 35 e))
    (λ _. either n (eqb first 59) (lexeme (Token Newline) 1) word (λ _. bounded n (Token Newline) 1 (omega arith) (omega arith))
    (λ _. either n (begins_name first) (word_lexeme bytes) number (λ e. word_bounded bytes some (ap begins_name (sym at) ∙ e))
    (λ _. either n (is_ascii_digit first) (number_lexeme bytes) symbol (λ e. number_bounded bytes some (ap is_ascii_digit (sym at) ∙ e))
    (λ _. either n (eqb first 58) (symbol_lexeme bytes) quoted (λ _. symbol_bounded bytes some)
    (λ _. either n (eqb first 34 || eqb first 39) (text_lexeme bytes) (operator_lexeme bytes) (λ _. text_bounded bytes some) (λ _. operator_bounded bytes))))))))

pub lexeme_bounded : (bytes : List ℕ) (p : Lexeme) → 0 < length bytes → lexeme_of bytes ≡ Ok p → (0 < p.len) × (p.len ≤ length bytes)
lexeme_bounded bytes p some e = (lexeme_by_bounded (slice_index bytes 0) bytes some refl).bounds p e

-- at the end of the bytes there is no lexeme
pub no_lexeme : (p : Lexeme) → lexeme_of [] ≡ Ok p → ⊥
unfolding lexeme_by operator_lexeme operators
no_lexeme p e = let z : Err NoToken ≡ Ok p = e in cc
