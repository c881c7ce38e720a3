-- The bytes of a lexeme have the form of its sort.
use Rattle.std.proofs.Common.{◌≡◌, ℕ, suc, ◌+◌, ◌-◌, ◌<◌, ◌≤◌, Bool, true, false, not, ◌&&◌, ◌||◌, ◌⊎◌, nat_le, nat_lt, List, [], ◌∷◌, ◌++◌, length, take, drop, get_or, slice_index, Option, Some, None, Result, Ok, Err, cond, eqb, refl, sym, ap, ◌∙◌, subst, inl, inr, ⊎_elim, arith, lit<, length-drop, one-add, add-one, add-zero, append_assoc}
use Rattle.std.specs.Prelude.{nat_eq, slice_range, is_ok, IsTrue}
use lib.Pointwise.{bytes_decides}
use Rattle.std.specs.List.{prefix_len, list_all, starts_with, take_while, All}
use Rattle.std.specs.Char.{is_ascii_digit}
use Rattle.std.specs.Str.{bytes_eq}
use Rattle.std.specs.Str.Parse.{AllDigits, digits_value}
use Rattle.std.proofs.lemmas.Bool.{cond_both, eqb-true, leb-true, ltb-true, lt-ltb, and_parts, and_from, or_cases, false≢true}
use Rattle.std.proofs.lemmas.Bool.Decides.{nat_tests}
use Rattle.std.proofs.lemmas.List.{take_more, take-append-drop, take-take, get_or-take, get_or-drop, length-take-le, drop-take, drop-drop}
use Rattle.std.proofs.lemmas.List.Elements.{All-append, All-nil, All-cons}
use Rattle.std.proofs.lemmas.List.Sums.{prefix_len-le-length, take_while-cons}
use Rattle.vt_frac.specs.declared.fault.DecimalFault.{DecimalFault}
use Rattle.vt_frac.specs.Fraction.{Fraction}
use Rattle.vt_frac.specs.Decimal.{IsPointed, are_digits}
use Rattle.vt_frac.proofs.DecimalForms.{decimal-form}
use Rattle.vt_frac.specs.Names.{begins_name, begins_symbol, is_name_byte, is_label_name, is_among, keywords, reserved}
use Rattle.vt_lex.specs.declared.token.Token.{Token as LexedToken}
use Rattle.vt_lex.specs.declared.token.TokenKind.{TokenKind}
use Rattle.vt_lex.specs.declared.token.TokenKind.TheVariants.{Newline, Name, Label, Keyword, Reserved, Symbol, Whole, Decimal, Text, Operator}
use Rattle.vt_lex.specs.declared.fault.LexKind.{LexKind}
use Rattle.vt_lex.specs.declared.fault.LexKind.TheVariants.{Byte as NoToken, Text as BadText, Number, Long}
use Rattle.vt_lex.specs.declared.lexeme.Sort.{Sort}
use Rattle.vt_lex.specs.declared.lexeme.Sort.TheVariants.{Blank, Comment, Line, Token}
use Rattle.vt_lex.specs.declared.lexeme.Lexeme.{Lexeme}
use Rattle.vt_lex.specs.declared.texts.TextUnit.{TextUnit}
use Rattle.vt_lex.specs.declared.texts.TextUnit.TheVariants.{Closing, Byte, Bad}
use Rattle.vt_lex.specs.Bytes.{is_blank}
use Rattle.vt_lex.specs.Lexicon.{first_start, operators}
use Rattle.vt_lex.specs.Numbers.{whole_fits, decimal_fits}
use Rattle.vt_lex.specs.Texts.{Body, body_of, with_unit, and_byte, unit_of, escape_unit, escaped, IsTextForm}
use Rattle.vt_lex.specs.Lexemes.{lexeme, name_limit, named, ends_label, word_lexeme, symbol_lexeme, whole_of, decimal_of, number_lexeme, text_of, text_lexeme, operator_of, operator_lexeme, comment_lexeme, lexeme_by, lexeme_of}
use Rattle.vt_lex.specs.Forms.{IsLabelForm, IsSymbolForm, IsFormOf, HasForm}
use Rattle.vt_lex.specs.Lexing.{Standing, opening, is_dropped, kept_kind, token_of, tokens_of, kept, after, AreTokens, Lexes}
use Rattle.vt_lex.proofs.Bounds.{unit_cases, IsOneOrTwo, prefix_some, begins_in, inside, body_inside, lexeme_bounded, no_lexeme}
use Rattle.vt_lex.proofs.Digits.{all_digits}
use Rattle.vt_lex.proofs.NameForms.{label_made, symbol_made}

pub record IsBlankForm (bytes : List ℕ) : Type 0 where
  pub byte : ℕ
  pub blank : is_blank byte ≡ true
  pub alone : bytes ≡ byte ∷ []

pub record IsCommentForm (bytes : List ℕ) : Type 0 where
  pub line : List ℕ
  pub hash : bytes ≡ 35 ∷ line
  pub on_line : list_all (λ b. not (eqb b 10)) line ≡ true

-- what the bytes of a lexeme are
abbrev pub IsLexemeForm : Sort → List ℕ → Type 0
IsLexemeForm Blank bytes = IsBlankForm bytes
IsLexemeForm Comment bytes = IsCommentForm bytes
IsLexemeForm Line bytes = bytes ≡ 10 ∷ []
IsLexemeForm (Token kind) bytes = IsFormOf kind bytes

pub record Formed (bytes : List ℕ) (r : Result Lexeme LexKind) : Type 0 where
  pub formed : (p : Lexeme) → r ≡ Ok p → IsLexemeForm p.sort (take p.len bytes)

formed_lexeme : (bytes : List ℕ) (sort : Sort) (len : ℕ) → IsLexemeForm sort (take len bytes) → Formed bytes (lexeme sort len)
formed_lexeme bytes sort len form = record {
  formed = λ p e. let same : record { sort = sort; len = len } ≡ p = cc in subst (λ (x : Lexeme). IsLexemeForm x.sort (take x.len bytes)) same form;
}

formed_fault : (bytes : List ℕ) (kind : LexKind) → Formed bytes (Err kind)
formed_fault bytes kind = record { formed = λ p e. absurd (let z : Err kind ≡ Ok p = e in cc) }

choice : (bytes : List ℕ) (b : Bool) (x y : Result Lexeme LexKind) → (b ≡ true → Formed bytes x) → (b ≡ false → Formed bytes y) → Formed bytes (cond b x y)
choice bytes b x y f g = cond_both b x y (Formed bytes) f g

formed_named : (bytes : List ℕ) (kind : TokenKind) (n len : ℕ) → (n ≤ 64 → IsFormOf kind (take len bytes)) → Formed bytes (named kind n len)
formed_named bytes kind n len form =
    choice bytes (nat_le n name_limit) (lexeme (Token kind) len) (Err Long)
    (λ e. formed_lexeme bytes (Token kind) len (let short : n ≤ name_limit = leb-true n name_limit e in form (omega arith))) (λ _. formed_fault bytes Long)

some_symbol : (bs : List ℕ) → begins_symbol (slice_index bs 0) ≡ true → 0 < length bs
some_symbol [] e = absurd (false≢true e)
some_symbol (b ∷ bs) e = omega arith

symbol_in : (b : ℕ) → begins_symbol b ≡ true → is_name_byte b ≡ true
symbol_in b e = grind (arith, nat_tests)

pub lexeme_there : (bytes : List ℕ) (p : Lexeme) → lexeme_of bytes ≡ Ok p → 0 < length bytes
lexeme_there [] p e = absurd (no_lexeme p e)
lexeme_there (b ∷ bs) p e = omega arith

-- a prefix that passes a test
pub all_pass : (p : ℕ → Bool) (bytes : List ℕ) → list_all p (take_while p bytes) ≡ true
all_pass p [] = refl
all_pass p (b ∷ bs) =
    rw (take_while-cons p b bs)
    (cond_both (p b) (b ∷ take_while p bs) [] (λ (xs : List ℕ). list_all p xs ≡ true) (λ e. rw e (all_pass p bs)) (λ _. refl))

pub word_length : (bytes : List ℕ) (p : ℕ → Bool) → length (take (prefix_len p bytes) bytes) ≡ prefix_len p bytes
word_length bytes p = length-take-le (prefix_len p bytes) bytes (prefix_len-le-length p bytes)

-- the longest word begins as the bytes do
pub word_first : (bytes : List ℕ) → 0 < length bytes → begins_name (slice_index bytes 0) ≡ true → begins_name (slice_index (take (prefix_len is_name_byte bytes) bytes) 0) ≡ true
word_first bytes some begins =
    let least : 0 < prefix_len is_name_byte bytes = prefix_some is_name_byte bytes some (begins_in (slice_index bytes 0) begins) in
    ap begins_name (get_or-take (prefix_len is_name_byte bytes) bytes 0 0 least) ∙ begins

-- the longest word, where it is short
word_form : (bytes : List ℕ) → 0 < length bytes → begins_name (slice_index bytes 0) ≡ true → prefix_len is_name_byte bytes ≤ 64 → IsTrue (is_label_name (take (prefix_len is_name_byte bytes) bytes))
word_form bytes some begins short =
    let size = word_length bytes is_name_byte in
    label_made (take (prefix_len is_name_byte bytes) bytes) (record { begins = word_first bytes some begins; all = all_pass is_name_byte bytes; short = omega arith })

label_form : (n : ℕ) (bytes : List ℕ) → IsTrue (is_label_name (take n bytes)) → ends_label (drop n bytes) ≡ true → IsLabelForm (take (n + 1) bytes)
label_form n bytes word e =
    let colon : get_or bytes n 0 ≡ 58 =
    sym (ap (λ k. get_or bytes k 0) (add-zero n)) ∙ (sym (get_or-drop n bytes 0 0)
    ∙ eqb-true (get_or (drop n bytes) 0 0) 58 (and_parts (eqb (get_or (drop n bytes) 0 0) 58) (not (eqb (get_or (drop n bytes) 1 0) 58)) e).0) in
    let there : n < length bytes = inside bytes n 58 (lit< tt) colon in
    record {
      name = take n bytes;
      form = word;
      colon = take_more bytes n 0 there ∙ ap (λ (b : ℕ). take n bytes ++ b ∷ []) colon;
    }

word_formed : (bytes : List ℕ) → 0 < length bytes → begins_name (slice_index bytes 0) ≡ true → Formed bytes (word_lexeme bytes)
unfolding word_lexeme
word_formed bytes some begins =
    let n = prefix_len is_name_byte bytes in
    let name : Result Lexeme LexKind = named Name n n in
    let other : Result Lexeme LexKind = cond (is_among reserved (take n bytes)) (lexeme (Token Reserved) n) name in
    choice bytes (ends_label (drop n bytes)) (named Label n (n + 1)) (cond (is_among keywords (take n bytes)) (lexeme (Token Keyword) n) other)
    (λ e. formed_named bytes Label n (n + 1) (λ short. label_form n bytes (word_form bytes some begins short) e))
    (λ _. choice bytes (is_among keywords (take n bytes)) (lexeme (Token Keyword) n) other (λ e. formed_lexeme bytes (Token Keyword) n e)
    (λ no_keyword. choice bytes (is_among reserved (take n bytes)) (lexeme (Token Reserved) n) name (λ e. formed_lexeme bytes (Token Reserved) n e)
    (λ not_reserved. formed_named bytes Name n n
    (λ short. record { form = word_form bytes some begins short; no_keyword = no_keyword; not_reserved = not_reserved }))))

symbol_formed : (bytes : List ℕ) → slice_index bytes 0 ≡ 58 → Formed bytes (symbol_lexeme bytes)
unfolding symbol_lexeme
symbol_formed [] colon = absurd (omega (arith, colon))
symbol_formed (b ∷ bs) colon =
    let bytes = b ∷ bs in
    let n = prefix_len is_name_byte bs in
    choice bytes (begins_symbol (slice_index bs 0)) (named Symbol n (n + 1)) (Err NoToken)
    (λ e. formed_named bytes Symbol n (n + 1) (symbol_form e))
    (λ _. formed_fault bytes NoToken) where
      symbol_form : begins_symbol (slice_index bs 0) ≡ true → prefix_len is_name_byte bs ≤ 64 → IsSymbolForm (take (prefix_len is_name_byte bs + 1) (b ∷ bs))
      symbol_form e short =
          let there : 0 < length bs = some_symbol bs e in
          let least : 0 < prefix_len is_name_byte bs = prefix_some is_name_byte bs there (symbol_in (slice_index bs 0) e) in
          record {
            name = take (prefix_len is_name_byte bs) bs;
            form =
                symbol_made (take (prefix_len is_name_byte bs) bs)
                (record {
                  begins = ap begins_symbol (get_or-take (prefix_len is_name_byte bs) bs 0 0 least) ∙ e;
                  all = all_pass is_name_byte bs;
                  short = omega (arith, word_length bs is_name_byte);
                });
            colon = ap (λ (k : ℕ). take k (b ∷ bs)) (add-one (prefix_len is_name_byte bs)) ∙ ap (λ (x : ℕ). x ∷ take (prefix_len is_name_byte bs) bs) colon;
          }

whole_formed : (bytes : List ℕ) (n : ℕ) → 0 < n → n ≡ prefix_len is_ascii_digit bytes → Formed bytes (whole_of n (take n bytes))
whole_formed bytes n least e =
    let digits : AllDigits 10 (take n bytes) = rw e (all_digits bytes) in
    let size : length (take n bytes) ≡ n = rw e (word_length bytes is_ascii_digit) in
    choice bytes (whole_fits n (take n bytes)) (lexeme (Token Whole) n) (Err Number)
    (λ f.
    let parts = and_parts (nat_le n 19) (nat_le (digits_value 10 (take n bytes)) 9223372036854775807) f in
    let short : n ≤ 19 = leb-true n 19 parts.0 in
    formed_lexeme bytes (Token Whole) n
    (record { some = omega (arith, size); short = omega (arith, size); digits = digits; fits = leb-true (digits_value 10 (take n bytes)) 9223372036854775807 parts.1 }))
    (λ _. formed_fault bytes Number)

pub take_sum : (n m : ℕ) (bytes : List ℕ) → take (n + m) bytes ≡ take n bytes ++ take m (drop n bytes)
take_sum n m bytes =
    sym (take-append-drop n (take (n + m) bytes))
    ∙ (ap (λ (xs : List ℕ). xs ++ drop n (take (n + m) bytes)) (take-take n (n + m) bytes (omega arith)) ∙ ap (λ (xs : List ℕ). take n bytes ++ xs) (drop-take n m bytes))

-- digits up to the first byte that is none
pub digits_form : (bytes : List ℕ) → 0 < prefix_len is_ascii_digit bytes → IsTrue (are_digits (take (prefix_len is_ascii_digit bytes) bytes))
digits_form bytes some =
    let prefix : List ℕ = take (prefix_len is_ascii_digit bytes) bytes in
    let size : length prefix ≡ prefix_len is_ascii_digit bytes = word_length bytes is_ascii_digit in
    and_from (nat_lt 0 (length prefix)) (list_all is_ascii_digit prefix) (lt-ltb 0 (length prefix) (omega arith)) (all_pass is_ascii_digit bytes)

pub pointed_form : (bytes : List ℕ) → 0 < prefix_len is_ascii_digit bytes → slice_index bytes (prefix_len is_ascii_digit bytes) ≡ 46 → 0 < prefix_len is_ascii_digit (drop (prefix_len is_ascii_digit bytes + 1) bytes) → (let n = prefix_len is_ascii_digit bytes in let rest = drop (n + 1) bytes in let part = prefix_len is_ascii_digit rest in IsPointed (take n bytes) (take part rest) (take (n + 1 + part) bytes))
pointed_form bytes some dot more =
    let n = prefix_len is_ascii_digit bytes in
    let rest = drop (n + 1) bytes in
    let part = prefix_len is_ascii_digit rest in
    let there : n < length bytes = inside bytes n 46 (lit< tt) dot in
    record {
      before_digits = digits_form bytes some;
      after_digits = digits_form rest more;
      joined =
          take_sum (n + 1) part bytes
          ∙ (ap (λ (xs : List ℕ). xs ++ take part rest) (take_more bytes n 0 there ∙ ap (λ (b : ℕ). take n bytes ++ b ∷ []) dot) ∙ append_assoc (take n bytes) (46 ∷ []) (take part rest));
    }

decimal_formed : (bytes before after : List ℕ) (n : ℕ) → IsPointed before after (take n bytes) → Formed bytes (decimal_of n (take n bytes))
unfolding decimal_fits
decimal_formed bytes before after n pointed =
    choice bytes (decimal_fits (take n bytes)) (lexeme (Token Decimal) n) (Err Number)
    (λ e. formed_lexeme bytes (Token Decimal) n
    (record { before = before; after = after; pointed = pointed; fits = sym (ap (λ (r : Result Fraction DecimalFault). is_ok r) (decimal-form before after (take n bytes) pointed)) ∙ e }))
    (λ _. formed_fault bytes Number)

number_formed : (bytes : List ℕ) → 0 < length bytes → is_ascii_digit (slice_index bytes 0) ≡ true → Formed bytes (number_lexeme bytes)
unfolding number_lexeme
number_formed bytes some begins =
    let n = prefix_len is_ascii_digit bytes in
    let rest = drop (n + 1) bytes in
    let part = prefix_len is_ascii_digit rest in
    let least : 0 < n = prefix_some is_ascii_digit bytes some begins in
    choice bytes (eqb (slice_index bytes n) 46 && nat_lt 0 part) (decimal_of (n + 1 + part) (take (n + 1 + part) bytes)) (whole_of n (take n bytes))
    (λ e.
    let parts = and_parts (eqb (slice_index bytes n) 46) (nat_lt 0 part) e in
    decimal_formed bytes (take n bytes) (take part rest) (n + 1 + part) (pointed_form bytes least (eqb-true (slice_index bytes n) 46 parts.0) (ltb-true 0 part parts.1)))
    (λ _. whole_formed bytes n least refl)

-- the bytes of the operator that is found
or_true : (b : Bool) → (b || true) ≡ true
or_true true = refl
or_true false = refl

found_step : (bytes f : List ℕ) (fs : List (List ℕ)) (len : ℕ) (b : Bool) → starts_with nat_eq bytes f ≡ b → cond b (Some (length f)) (first_start fs bytes) ≡ Some len → (first_start fs bytes ≡ Some len → is_among fs (take len bytes) ≡ true) → is_among (f ∷ fs) (take len bytes) ≡ true
found_step bytes f fs len true s e later =
    let size : length f ≡ len = cc in
    let same : f ≡ take len bytes = (bytes_decides f (take (length f) bytes)).0 s ∙ ap (λ (k : ℕ). take k bytes) size in
    let own : bytes_eq f f ≡ true = (bytes_decides f f).1 refl in
    subst (λ (w : List ℕ). is_among (f ∷ fs) w ≡ true) same (ap (λ (t : Bool). t || is_among fs f) own)
found_step bytes f fs len false s e later =
    ap (λ (t : Bool). bytes_eq f (take len bytes) || t) (later e) ∙ or_true (bytes_eq f (take len bytes))

operator_found : (bytes : List ℕ) (forms : List (List ℕ)) (len : ℕ) → first_start forms bytes ≡ Some len → is_among forms (take len bytes) ≡ true
operator_found bytes [] len e = absurd (let z : None ≡ Some len = e in cc)
operator_found bytes (f ∷ fs) len e = found_step bytes f fs len (starts_with nat_eq bytes f) refl e (operator_found bytes fs len)

operator_of_formed : (bytes : List ℕ) (o : Option ℕ) → o ≡ first_start operators bytes → Formed bytes (operator_of o)
operator_of_formed bytes None e = formed_fault bytes NoToken
operator_of_formed bytes (Some len) e = formed_lexeme bytes (Token Operator) len (operator_found bytes operators len (sym e))

operator_formed : (bytes : List ℕ) → Formed bytes (operator_lexeme bytes)
unfolding operator_lexeme
operator_formed bytes = operator_of_formed bytes (first_start operators bytes) refl

-- the rest of a text is found in its own bytes alone
unit_positive : (u : TextUnit) (one two : Option Body) (body : Body) → IsOneOrTwo u → with_unit u one two ≡ Some body → 0 < body.len
unit_positive Closing one two body s e = let same : record { len = 1; value = [] } ≡ body = cc in subst (λ (x : Body). 0 < x.len) same (omega arith)
unit_positive Bad one two body s e = absurd (let z : None ≡ Some body = e in cc)
unit_positive (Byte value len) one two body s e = go (cond (eqb len 1) one two) e where
  least : 0 < len
  least = ⊎_elim (λ (h : len ≡ 1). omega arith) (λ (h : len ≡ 2). omega arith) s

  go : (o : Option Body) → and_byte value len o ≡ Some body → 0 < body.len
  go None f = absurd (let z : None ≡ Some body = f in cc)
  go (Some b) f =
      let same : record { len = len + b.len; value = value ∷ b.value } ≡ body = cc in
      let more = least in
      subst (λ (x : Body). 0 < x.len) same (omega arith)

body_positive : (quote : ℕ) (bs : List ℕ) (body : Body) → body_of quote bs ≡ Some body → 0 < body.len
body_positive quote [] body e = absurd (let z : None ≡ Some body = e in cc)
body_positive quote (b ∷ []) body e = unit_positive (unit_of quote b 0) None None body (unit_cases quote b 0) e
body_positive quote (b ∷ c ∷ bs) body e = unit_positive (unit_of quote b c) (body_of quote (c ∷ bs)) (body_of quote bs) body (unit_cases quote b c) e

-- what follows a closing quote does not matter
closing_go : (a b c d : Bool) (e : Option ℕ) (v : ℕ) (u : TextUnit) → cond a Closing (cond b Bad (cond c (escape_unit e) (cond d Bad (Byte v 1)))) ≡ Closing → cond a Closing u ≡ Closing
closing_go true b c d e v u h = refl
closing_go false true c d e v u h = absurd (let z : Bad ≡ Closing = h in cc)
closing_go false false true d None v u h = absurd (let z : Bad ≡ Closing = h in cc)
closing_go false false true d (Some w) v u h = absurd (let z : Byte w 2 ≡ Closing = h in cc)
closing_go false false false true e v u h = absurd (let z : Bad ≡ Closing = h in cc)
closing_go false false false false e v u h = absurd (let z : Byte v 1 ≡ Closing = h in cc)

closing_alone : (quote b next : ℕ) → unit_of quote b next ≡ Closing → unit_of quote b 0 ≡ Closing
closing_alone quote b next e =
    closing_go (eqb b quote) (eqb b 10) (eqb b 92) (eqb quote 34 && (eqb b 35 && eqb next 123)) (escaped quote next) b
    (cond (eqb b 10) Bad (cond (eqb b 92) (escape_unit (escaped quote 0)) (cond (eqb quote 34 && (eqb b 35 && eqb 0 123)) Bad (Byte b 1)))) e

one_byte : (quote b c value : ℕ) (cs : List ℕ) (r : Body) (k : ℕ) → r.len ≡ suc k → unit_of quote b c ≡ Byte value 1 → body_of quote (take r.len (c ∷ cs)) ≡ Some r → body_of quote (take (1 + r.len) (b ∷ c ∷ cs)) ≡ Some (record { len = 1 + r.len; value = value ∷ r.value })
one_byte quote b c value cs r k size unit rest =
    let inner : body_of quote (c ∷ take k cs) ≡ Some r = sym (ap (λ (n : ℕ). body_of quote (take n (c ∷ cs))) size) ∙ rest in
    let both : 1 + r.len ≡ suc (suc k) = one-add r.len ∙ ap suc size in
    ap (λ (n : ℕ). body_of quote (take n (b ∷ c ∷ cs))) both
    ∙ (ap (λ u. with_unit u (body_of quote (c ∷ take k cs)) (body_of quote (take k cs))) unit ∙ ap (and_byte value 1) inner)

two_bytes : (quote b c value : ℕ) (cs : List ℕ) (r : Body) → unit_of quote b c ≡ Byte value 2 → body_of quote (take r.len cs) ≡ Some r → body_of quote (take (2 + r.len) (b ∷ c ∷ cs)) ≡ Some (record { len = 2 + r.len; value = value ∷ r.value })
two_bytes quote b c value cs r unit rest =
    let both : 2 + r.len ≡ suc (suc r.len) = omega arith in
    ap (λ (n : ℕ). body_of quote (take n (b ∷ c ∷ cs))) both
    ∙ (ap (λ u. with_unit u (body_of quote (c ∷ take r.len cs)) (body_of quote (take r.len cs))) unit ∙ ap (and_byte value 2) rest)

module _ (quote b c : ℕ) (cs : List ℕ) (one : (r : Body) → body_of quote (c ∷ cs) ≡ Some r → body_of quote (take r.len (c ∷ cs)) ≡ Some r) (two : (r : Body) → body_of quote cs ≡ Some r → body_of quote (take r.len cs) ≡ Some r) where
  after_one : (value : ℕ) (o : Option Body) (body : Body) → unit_of quote b c ≡ Byte value 1 → body_of quote (c ∷ cs) ≡ o → and_byte value 1 o ≡ Some body → body_of quote (take body.len (b ∷ c ∷ cs)) ≡ Some body
  after_one value None body unit f e = absurd (let z : None ≡ Some body = e in cc)
  after_one value (Some r) body unit f e =
      let same : record { len = 1 + r.len; value = value ∷ r.value } ≡ body = cc in
      let least = body_positive quote (c ∷ cs) r f in
      subst (λ (x : Body). body_of quote (take x.len (b ∷ c ∷ cs)) ≡ Some x) same (one_byte quote b c value cs r (r.len - 1) (omega arith) unit (one r f))

  after_two : (value : ℕ) (o : Option Body) (body : Body) → unit_of quote b c ≡ Byte value 2 → body_of quote cs ≡ o → and_byte value 2 o ≡ Some body → body_of quote (take body.len (b ∷ c ∷ cs)) ≡ Some body
  after_two value None body unit f e = absurd (let z : None ≡ Some body = e in cc)
  after_two value (Some r) body unit f e =
      let same : record { len = 2 + r.len; value = value ∷ r.value } ≡ body = cc in
      subst (λ (x : Body). body_of quote (take x.len (b ∷ c ∷ cs)) ≡ Some x) same (two_bytes quote b c value cs r unit (two r f))

  taken_by : (u : TextUnit) (body : Body) → unit_of quote b c ≡ u → IsOneOrTwo u → with_unit u (body_of quote (c ∷ cs)) (body_of quote cs) ≡ Some body → body_of quote (take body.len (b ∷ c ∷ cs)) ≡ Some body
  taken_by Closing body unit s e =
      let same : record { len = 1; value = [] } ≡ body = cc in
      subst (λ (x : Body). body_of quote (take x.len (b ∷ c ∷ cs)) ≡ Some x) same (ap (λ u. with_unit u None None) (closing_alone quote b c unit))
  taken_by Bad body unit s e = absurd (let z : None ≡ Some body = e in cc)
  taken_by (Byte value len) body unit (inl size) e =
      after_one value (body_of quote (c ∷ cs)) body (unit ∙ ap (Byte value) size) refl
      (sym (ap (λ (n : ℕ). and_byte value n (cond (eqb n 1) (body_of quote (c ∷ cs)) (body_of quote cs))) size) ∙ e)
  taken_by (Byte value len) body unit (inr size) e =
      after_two value (body_of quote cs) body (unit ∙ ap (Byte value) size) refl
      (sym (ap (λ (n : ℕ). and_byte value n (cond (eqb n 1) (body_of quote (c ∷ cs)) (body_of quote cs))) size) ∙ e)

last_taken : (quote b : ℕ) (u : TextUnit) (body : Body) → unit_of quote b 0 ≡ u → with_unit u None None ≡ Some body → body_of quote (take body.len (b ∷ [])) ≡ Some body
last_taken quote b Closing body unit e =
    let same : record { len = 1; value = [] } ≡ body = cc in
    subst (λ (x : Body). body_of quote (take x.len (b ∷ [])) ≡ Some x) same (ap (λ u. with_unit u None None) unit)
last_taken quote b Bad body unit e = absurd (let z : None ≡ Some body = e in cc)
last_taken quote b (Byte value len) body unit e = nothing (eqb len 1) e where
  nothing : (t : Bool) → and_byte value len (cond t None None) ≡ Some body → body_of quote (take body.len (b ∷ [])) ≡ Some body
  nothing true f = absurd (let z : None ≡ Some body = f in cc)
  nothing false f = absurd (let z : None ≡ Some body = f in cc)

pub body_taken : (quote : ℕ) (bs : List ℕ) (body : Body) → body_of quote bs ≡ Some body → body_of quote (take body.len bs) ≡ Some body
body_taken quote [] body e = absurd (let z : None ≡ Some body = e in cc)
body_taken quote (b ∷ []) body e = last_taken quote b (unit_of quote b 0) body refl e
body_taken quote (b ∷ c ∷ bs) body e =
    taken_by quote b c bs (body_taken quote (c ∷ bs)) (body_taken quote bs) (unit_of quote b c) body refl (unit_cases quote b c) e

text_of_formed : (bytes : List ℕ) (o : Option Body) → 0 < length bytes → (slice_index bytes 0 ≡ 34) ⊎ (slice_index bytes 0 ≡ 39) → body_of (slice_index bytes 0) (drop 1 bytes) ≡ o → Formed bytes (text_of o)
text_of_formed bytes None some quote e = formed_fault bytes BadText
text_of_formed bytes (Some body) some quote e =
    choice bytes (nat_le (length body.value) 4096) (lexeme (Token Text) (1 + body.len)) (Err Long)
    (λ h. formed_lexeme bytes (Token Text) (1 + body.len) (text_form h))
    (λ _. formed_fault bytes Long) where
      first : slice_index (take (1 + body.len) bytes) 0 ≡ slice_index bytes 0
      first = get_or-take (1 + body.len) bytes 0 0 (omega arith)

      within : 1 + body.len ≤ length bytes
      within = omega (arith, (body_inside (slice_index bytes 0) (drop 1 bytes)).inside body e, length-drop 1 bytes)

      text_form : nat_le (length body.value) 4096 ≡ true → IsTextForm (take (1 + body.len) bytes)
      text_form h = record {
        quote = ⊎_elim (λ q. inl (first ∙ q)) (λ q. inr (first ∙ q)) quote;
        body = body;
        closes =
            ap (λ (q : ℕ). body_of q (drop 1 (take (1 + body.len) bytes))) first
            ∙ (ap (body_of (slice_index bytes 0)) (drop-take 1 body.len bytes) ∙ body_taken (slice_index bytes 0) (drop 1 bytes) body e);
        ends = sym (length-take-le (1 + body.len) bytes within);
        short = leb-true (length body.value) 4096 h;
      }

text_formed : (bytes : List ℕ) → 0 < length bytes → (slice_index bytes 0 ≡ 34) ⊎ (slice_index bytes 0 ≡ 39) → Formed bytes (text_lexeme bytes)
unfolding text_lexeme
text_formed bytes some quote = text_of_formed bytes (body_of (slice_index bytes 0) (drop 1 bytes)) some quote refl

one_taken : (bytes : List ℕ) (b : ℕ) → 0 < length bytes → slice_index bytes 0 ≡ b → take 1 bytes ≡ b ∷ []
one_taken [] b some e = absurd (omega arith)
one_taken (x ∷ xs) b some e = ap (λ (y : ℕ). y ∷ []) e

comment_form : (bytes : List ℕ) → 0 < length bytes → slice_index bytes 0 ≡ 35 → IsCommentForm (take (prefix_len (λ b. not (eqb b 10)) bytes) bytes)
comment_form [] some at = absurd (omega arith)
comment_form (b ∷ bs) some at =
    let p : ℕ → Bool = λ b. not (eqb b 10) in
    let first : p b ≡ true = ap p at in
    record {
      line = take (prefix_len p bs) bs;
      hash = take_while-cons p b bs ∙ (ap (λ (t : Bool). cond t (b ∷ take (prefix_len p bs) bs) []) first ∙ ap (λ (x : ℕ). x ∷ take (prefix_len p bs) bs) at);
      on_line = all_pass p bs;
    }

lexeme_by_formed : (first : ℕ) (bytes : List ℕ) → 0 < length bytes → slice_index bytes 0 ≡ first → Formed bytes (lexeme_by first bytes)
unfolding lexeme_by comment_lexeme
lexeme_by_formed first bytes some at =
    let quoted : Result Lexeme LexKind = cond (eqb first 34 || eqb first 39) (text_lexeme bytes) (operator_lexeme bytes) in
    let symbol : Result Lexeme LexKind = cond (eqb first 58) (symbol_lexeme bytes) quoted in
    let number : Result Lexeme LexKind = cond (is_ascii_digit first) (number_lexeme bytes) symbol in
    let word : Result Lexeme LexKind = cond (begins_name first) (word_lexeme bytes) number in
    let semicolon : Result Lexeme LexKind = cond (eqb first 59) (lexeme (Token Newline) 1) word in
    let comment : Result Lexeme LexKind = cond (eqb first 35) (comment_lexeme bytes) semicolon in
    let line : Result Lexeme LexKind = cond (eqb first 10) (lexeme Line 1) comment in
    choice bytes (is_blank first) (lexeme Blank 1) line (λ e. formed_lexeme bytes Blank 1 (record { byte = first; blank = e; alone = one_taken bytes first some at }))
    (λ _. choice bytes (eqb first 10) (lexeme Line 1) comment (λ e. formed_lexeme bytes Line 1 (one_taken bytes 10 some (at ∙ eqb-true first 10 e)))
    (λ _. choice bytes (eqb first 35) (comment_lexeme bytes) semicolon (λ e. formed_lexeme bytes Comment (prefix_len (λ b. not (eqb b 10)) bytes) (comment_form bytes some (at ∙ eqb-true first 35 e)))
    (λ _. choice bytes (eqb first 59) (lexeme (Token Newline) 1) word (λ e. formed_lexeme bytes (Token Newline) 1 (inr (one_taken bytes 59 some (at ∙ eqb-true first 59 e))))
    (λ _. choice bytes (begins_name first) (word_lexeme bytes) number (λ e. word_formed bytes some (ap begins_name at ∙ e))
    (λ _. choice bytes (is_ascii_digit first) (number_lexeme bytes) symbol (λ e. number_formed bytes some (ap is_ascii_digit at ∙ e))
    (λ _. choice bytes (eqb first 58) (symbol_lexeme bytes) quoted (λ e. symbol_formed bytes (at ∙ eqb-true first 58 e))
    (λ _. choice bytes (eqb first 34 || eqb first 39) (text_lexeme bytes) (operator_lexeme bytes)
    (λ e. text_formed bytes some (⊎_elim (λ q. inl (at ∙ eqb-true first 34 q)) (λ q. inr (at ∙ eqb-true first 39 q)) (or_cases (eqb first 34) (eqb first 39) e)))
    (λ _. operator_formed bytes))))))))

pub lexeme_formed : (bytes : List ℕ) (p : Lexeme) → 0 < length bytes → lexeme_of bytes ≡ Ok p → IsLexemeForm p.sort (take p.len bytes)
lexeme_formed bytes p some e = (lexeme_by_formed (slice_index bytes 0) bytes some refl).formed p e

-- the kept token of a lexeme, at its place in the text
kept_form : (s : Standing) (sort : Sort) (kind : TokenKind) (bytes : List ℕ) → IsLexemeForm sort bytes → kept_kind s sort ≡ Some kind → IsFormOf kind bytes
kept_form s Blank kind bytes form e = absurd (let z : None ≡ Some kind = e in cc)
kept_form s Comment kind bytes form e = absurd (let z : None ≡ Some kind = e in cc)
kept_form s Line kind bytes form e = go (is_dropped s.open_brackets s.goes_on) e where
  go : (t : Bool) → cond t None (Some Newline) ≡ Some kind → IsFormOf kind bytes
  go true f = absurd (let z : None ≡ Some kind = f in cc)
  go false f = let same : Newline ≡ kind = cc in subst (λ (k : TokenKind). IsFormOf k bytes) same (inl form)
kept_form s (Token k) kind bytes form e = let same : k ≡ kind = cc in subst (λ (x : TokenKind). IsFormOf x bytes) same form

tokens_formed : (text : List ℕ) (s : Standing) (bytes : List ℕ) (len : ℕ) (o : Option TokenKind) → bytes ≡ drop s.at text → 0 < len → s.at + len ≤ length text → ((kind : TokenKind) → o ≡ Some kind → IsFormOf kind (take len bytes)) → All (HasForm text) (tokens_of s bytes len o)
tokens_formed text s bytes len None left some within form = All-nil (HasForm text)
tokens_formed text s bytes len (Some kind) left some within form =
    let size : len ≡ s.at + len - s.at = omega arith in
    let there : take len bytes ≡ slice_range text s.at (s.at + len) = ap (take len) left ∙ ap (λ (n : ℕ). take n (drop s.at text)) size in
    All-cons (HasForm text) (token_of s bytes len kind) []
    (record { some = omega arith; within = within; form = subst (IsFormOf kind) there (form kind refl) })
    (All-nil (HasForm text))

all_formed : (text : List ℕ) (s : Standing) (bytes : List ℕ) (ps : List Lexeme) (ts : List LexedToken) → bytes ≡ drop s.at text → AreTokens s bytes ps ts → All (HasForm text) ts
all_formed text s bytes [] ts left h = subst (All (HasForm text)) (sym h.1) (All-nil (HasForm text))
all_formed text s bytes (p ∷ ps) ts left h =
    let some : 0 < length bytes = lexeme_there bytes p h.0 in
    let size : length bytes ≡ length text - s.at = ap length left ∙ length-drop s.at text in
    let bounds = lexeme_bounded bytes p some h.0 in
    let least = bounds.0 in
    let most = bounds.1 in
    let here : All (HasForm text) (kept s p bytes) =
    tokens_formed text s bytes p.len (kept_kind s p.sort) left least (omega arith)
    (λ kind e. kept_form s p.sort kind (take p.len bytes) (lexeme_formed bytes p some h.0) e) in
    let rest : All (HasForm text) h.1.0 =
    all_formed text (after s p bytes) (drop p.len bytes) ps h.1.0 (ap (drop p.len) left ∙ drop-drop p.len s.at text) h.1.2 in
    subst (All (HasForm text)) (sym h.1.1) (All-append (HasForm text) (kept s p bytes) h.1.0 here rest)

pub tokens_have_forms : (text : List ℕ) (first_line : ℕ) (ts : List LexedToken) → Lexes text first_line ts → All (HasForm text) ts
tokens_have_forms text first_line ts h = all_formed text (opening first_line) text h.lexemes ts refl h.are_tokens
