-- Which tokens stand at the head of the bytes, and why none does.
use Rattle.std.proofs.Common.{◌≡◌, ℕ, ◌+◌, ◌<◌, ◌≤◌, Bool, true, false, not, ◌⊎◌, nat_le, nat_lt, List, [], ◌∷◌, ◌++◌, length, take, drop, get_or, slice_index, Option, Some, None, Result, Ok, Err, cond, eqb, refl, sym, ap, ◌∙◌, subst, inl, inr, ⊎_elim, arith, length-append, length-take, append_assoc, add-zero}
use Rattle.std.specs.Prelude.{IsTrue}
use Rattle.std.specs.List.{prefix_len, list_all, concat}
use Rattle.std.specs.Char.{is_ascii_digit, digit_value}
use Rattle.std.specs.Str.Parse.{AllDigits}
use Rattle.std.proofs.lemmas.Bool.{cond_both, leb-true, lt-leb, lt-ltb, and_parts, and_from, false_from_ne_true, false≢true}
use Rattle.std.proofs.lemmas.Bool.Decides.{nat_tests}
use Rattle.std.proofs.lemmas.List.{drop_at, get_or-take, get_or-drop, length-take-le}
use Rattle.vt_frac.specs.Decimal.{IsDecimal, are_digits}
use Rattle.vt_frac.specs.Names.{begins_name, begins_symbol, is_name_byte, is_among, keywords, reserved}
use Rattle.vt_lex.specs.declared.token.TokenKind.{TokenKind}
use Rattle.vt_lex.specs.declared.token.TokenKind.TheVariants.{Newline, Name, Label, Keyword, Reserved, Symbol, Whole, Decimal, Text, Operator}
use Rattle.vt_lex.specs.declared.fault.LexKind.{LexKind}
use Rattle.vt_lex.specs.declared.fault.LexKind.TheVariants.{Byte as NoToken, Text as BadText, Long}
use Rattle.vt_lex.specs.declared.lexeme.Sort.{Sort}
use Rattle.vt_lex.specs.declared.lexeme.Sort.TheVariants.{Token}
use Rattle.vt_lex.specs.declared.lexeme.Lexeme.{Lexeme}
use Rattle.vt_lex.specs.Lexicon.{operators}
use Rattle.vt_lex.specs.Texts.{Body, body_of, IsTextForm}
use Rattle.vt_lex.specs.Forms.{IsFormOf, IsLabelForm, IsWholeForm, IsDecimalForm}
use Rattle.vt_lex.specs.Lexemes.{lexeme, name_limit, named, ends_label, word_of, symbol_lexeme, text_of, text_lexeme, lexeme_by, lexeme_of}
use Rattle.vt_lex.specs.TokenLaws.{StandsFirst, IsBrokenText, IsLongWord, IsLongSymbol, IsLongText}
use Rattle.vt_lex.proofs.Bounds.{lexeme_bounded}
use Rattle.vt_lex.proofs.Branches.{among_all, chosen, passed_by, all_within, all_up_to, split_at, word_branch, symbol_branch, number_branch, text_branch, operator_branch, keyword_word, reserved_word, operator_first, begins_operator}
use Rattle.vt_lex.proofs.NameForms.{begins_first, label_parts, symbol_parts}
use Rattle.vt_lex.proofs.Reaches.{Covers, word_is, word_covers, label_covers, symbol_covers, operator_covers, number_covers, number_reached, symbol_first}
use Rattle.vt_lex.proofs.Shapes.{IsLexemeForm, lexeme_formed, lexeme_there, word_length}
use Rattle.vt_lex.proofs.Units.{broken_none, none_broken, units_counted, body_extended}

-- A token that stands at the head is covered

ahead_of : (len : ℕ) (bytes form : List ℕ) → len ≤ length bytes → take len bytes ≡ form → Covers (length form) (lexeme_of (form ++ drop len bytes)) → Covers len (lexeme_of bytes)
ahead_of len bytes form within e h =
    let size : length form ≡ len = sym (ap length e) ∙ length-take-le len bytes within in
    subst (λ (bs : List ℕ). Covers len (lexeme_of bs)) (sym (split_at len bytes form e))
    (subst (λ (n : ℕ). Covers n (lexeme_of (form ++ drop len bytes))) size h)

-- the first byte of bytes that begin with a form, by a test that the end of the bytes does not pass
first_of : (p : ℕ → Bool) → p 0 ≡ false → (form rest : List ℕ) → p (slice_index form 0) ≡ true → p (slice_index (form ++ rest) 0) ≡ true
first_of p end [] rest e = absurd (false≢true (sym end ∙ e))
first_of p end (b ∷ bs) rest e = e

word_ahead : (form rest : List ℕ) → begins_name (slice_index form 0) ≡ true → list_all is_name_byte form ≡ true → Covers (length form) (lexeme_of (form ++ rest))
word_ahead form rest begins all = subst (Covers (length form)) (sym (word_branch (form ++ rest) (first_of begins_name refl form rest begins))) (word_covers form rest all)

label_ahead : (name rest : List ℕ) → begins_name (slice_index name 0) ≡ true → list_all is_name_byte name ≡ true → (slice_index rest 0 ≡ 58 → ⊥) → Covers (length (name ++ 58 ∷ [])) (lexeme_of ((name ++ 58 ∷ []) ++ rest))
label_ahead name rest begins all single =
    let size : length name + 1 ≡ length (name ++ 58 ∷ []) = sym (length-append name (58 ∷ [])) in
    subst (λ (n : ℕ). Covers n (lexeme_of ((name ++ 58 ∷ []) ++ rest))) size
    (subst (λ (bs : List ℕ). Covers (length name + 1) (lexeme_of bs)) (sym (append_assoc name (58 ∷ []) rest))
    (subst (Covers (length name + 1)) (sym (word_branch (name ++ 58 ∷ rest) (first_of begins_name refl name (58 ∷ rest) begins))) (label_covers name rest all single)))

symbol_ahead : (name rest : List ℕ) → begins_symbol (slice_index name 0) ≡ true → list_all is_name_byte name ≡ true → Covers (length (58 ∷ name)) (lexeme_of ((58 ∷ name) ++ rest))
symbol_ahead name rest begins all =
    let size : 1 + length name ≡ length (58 ∷ name) = omega arith in
    subst (λ (n : ℕ). Covers n (lexeme_of (58 ∷ (name ++ rest)))) size
    (subst (Covers (1 + length name)) (sym (symbol_branch (58 ∷ (name ++ rest)) refl)) (symbol_covers name rest begins all))

text_of_covers : (len : ℕ) (o : Option Body) (body : Body) → o ≡ Some body → 1 + body.len ≡ len → Covers len (text_of o)
text_of_covers len o body e size =
    subst (λ (x : Option Body). Covers len (text_of x)) (sym e)
    (cond_both (nat_le (length body.value) 4096) (lexeme (Token Text) (1 + body.len)) (Err Long) (Covers len) (λ _. omega arith) (λ _. tt))

text_ahead : (form rest : List ℕ) → IsTextForm form → Covers (length form) (lexeme_of (form ++ rest))
unfolding text_lexeme
text_ahead [] rest t = absurd (⊎_elim (λ (h : 0 ≡ 34). omega arith) (λ (h : 0 ≡ 39). omega arith) t.quote)
text_ahead (q ∷ bs) rest t =
    subst (Covers (length (q ∷ bs))) (sym (text_branch (q ∷ (bs ++ rest)) t.quote))
    (text_of_covers (length (q ∷ bs)) (body_of q (bs ++ rest)) t.body (body_extended q bs rest t.body t.closes) t.ends)

digit_of : (c : ℕ) → digit_value c < 10 → is_ascii_digit c ≡ true
digit_of c h = grind (arith, nat_tests)

pub are_ascii : (ds : List ℕ) → AllDigits 10 ds → list_all is_ascii_digit ds ≡ true
are_ascii [] all = refl
are_ascii (d ∷ ds) all = and_from (is_ascii_digit d) (list_all is_ascii_digit ds) (digit_of d all.0) (are_ascii ds all.1)

whole_decimal : (form : List ℕ) → IsWholeForm form → IsDecimal form
whole_decimal form w = inl (and_from (nat_lt 0 (length form)) (list_all is_ascii_digit form) (lt-ltb 0 (length form) w.some) (are_ascii form w.digits))

pointed_decimal : (form : List ℕ) → IsDecimalForm form → IsDecimal form
pointed_decimal form d = inr (d.before, (d.after, d.pointed))

digits_first : (ds rest : List ℕ) → IsTrue (are_digits ds) → is_ascii_digit (slice_index (ds ++ rest) 0) ≡ true
digits_first [] rest h = absurd (false≢true h)
digits_first (d ∷ ds) rest h = (and_parts (is_ascii_digit d) (list_all is_ascii_digit ds) (and_parts (nat_lt 0 (length (d ∷ ds))) (list_all is_ascii_digit (d ∷ ds)) h).1).0

-- a number begins with a digit
pub number_first : (len : ℕ) (bytes : List ℕ) → IsDecimal (take len bytes) → is_ascii_digit (slice_index bytes 0) ≡ true
number_first len bytes (inl digits) =
    ap (λ (bs : List ℕ). is_ascii_digit (slice_index bs 0)) (split_at len bytes (take len bytes) refl) ∙ digits_first (take len bytes) (drop len bytes) digits
number_first len bytes (inr (before, (after, form))) =
    ap (λ (bs : List ℕ). is_ascii_digit (slice_index bs 0)) (split_at len bytes (before ++ 46 ∷ after) form.joined ∙ append_assoc before (46 ∷ after) (drop len bytes))
    ∙ digits_first before (46 ∷ (after ++ drop len bytes)) form.before_digits

number_ahead : (len : ℕ) (bytes : List ℕ) → len ≤ length bytes → IsDecimal (take len bytes) → Covers len (lexeme_of bytes)
number_ahead len bytes within d = subst (Covers len) (sym (number_branch bytes (number_first len bytes d))) (number_covers bytes len (number_reached bytes len within d))

some_length : (len : ℕ) (bytes : List ℕ) → 0 < length (take len bytes) → 0 < len
some_length len bytes h = omega (arith, length-take len bytes)

operator_ahead : (len : ℕ) (bytes : List ℕ) → len ≤ length bytes → is_among operators (take len bytes) ≡ true → Covers len (lexeme_of bytes)
operator_ahead len bytes within e =
    let first = operator_first (take len bytes) e in
    let byte : slice_index (take len bytes) 0 ≡ slice_index bytes 0 = get_or-take len bytes 0 0 (some_length len bytes first.0) in
    subst (Covers len) (sym (operator_branch bytes (ap begins_operator (sym byte) ∙ first.1))) (operator_covers bytes len within e)

newline_ahead : (rest : List ℕ) → Covers 1 (lexeme_of (10 ∷ rest))
unfolding lexeme_by
newline_ahead rest = omega arith

semicolon_ahead : (rest : List ℕ) → Covers 1 (lexeme_of (59 ∷ rest))
unfolding lexeme_by
semicolon_ahead rest = omega arith

pub ahead : (kind : TokenKind) (len : ℕ) (bytes : List ℕ) → StandsFirst kind len bytes → Covers len (lexeme_of bytes)
ahead Newline len bytes s =
    ⊎_elim
    (λ (e : take len bytes ≡ 10 ∷ []). ahead_of len bytes (10 ∷ []) s.within e (newline_ahead (drop len bytes)))
    (λ (e : take len bytes ≡ 59 ∷ []). ahead_of len bytes (59 ∷ []) s.within e (semicolon_ahead (drop len bytes)))
    s.form
ahead Name len bytes s =
    let parts = label_parts (take len bytes) s.form.form in
    ahead_of len bytes (take len bytes) s.within refl (word_ahead (take len bytes) (drop len bytes) parts.begins parts.all)
ahead Label len bytes s =
    let parts = label_parts s.form.name s.form.form in
    ahead_of len bytes (s.form.name ++ 58 ∷ []) s.within s.form.colon
    (label_ahead s.form.name (drop len bytes) parts.begins parts.all (λ h. s.single refl (ap (λ (k : ℕ). get_or bytes k 0) (sym (add-zero len)) ∙ (sym (get_or-drop len bytes 0 0) ∙ h))))
ahead Keyword len bytes s =
    let word = keyword_word (take len bytes) s.form in
    ahead_of len bytes (take len bytes) s.within refl (word_ahead (take len bytes) (drop len bytes) word.0 word.1)
ahead Reserved len bytes s =
    let word = reserved_word (take len bytes) s.form in
    ahead_of len bytes (take len bytes) s.within refl (word_ahead (take len bytes) (drop len bytes) word.0 word.1)
ahead Symbol len bytes s =
    let parts = symbol_parts s.form.name s.form.form in
    ahead_of len bytes (58 ∷ s.form.name) s.within s.form.colon (symbol_ahead s.form.name (drop len bytes) parts.begins parts.all)
ahead Whole len bytes s = number_ahead len bytes s.within (whole_decimal (take len bytes) s.form)
ahead Decimal len bytes s = number_ahead len bytes s.within (pointed_decimal (take len bytes) s.form)
ahead Text len bytes s = ahead_of len bytes (take len bytes) s.within refl (text_ahead (take len bytes) (drop len bytes) s.form)
ahead Operator len bytes s = operator_ahead len bytes s.within s.form

-- A token that is taken stands at the head

-- no lexeme but a label has its name and its colon
keeps_len : (n : ℕ) (kind : TokenKind) (p : Lexeme) → lexeme (Token kind) n ≡ Ok p → p.len ≡ n
keeps_len n kind p e = let same : record { sort = Token kind; len = n } ≡ p = cc in sym (ap (λ (x : Lexeme). x.len) same)

no_label : (n : ℕ) (word rest : List ℕ) (p : Lexeme) → ends_label rest ≡ false → word_of n word rest ≡ Ok p → p.len ≡ n
no_label n word rest p e h =
    let name : Result Lexeme LexKind = named Name n n in
    let other : Result Lexeme LexKind = cond (is_among reserved word) (lexeme (Token Reserved) n) name in
    cond_both (is_among keywords word) (lexeme (Token Keyword) n) other (λ (r : Result Lexeme LexKind). r ≡ Ok p → p.len ≡ n)
    (λ _. keeps_len n Keyword p)
    (λ _. cond_both (is_among reserved word) (lexeme (Token Reserved) n) name (λ (r : Result Lexeme LexKind). r ≡ Ok p → p.len ≡ n)
    (λ _. keeps_len n Reserved p)
    (λ _. cond_both (nat_le n name_limit) (lexeme (Token Name) n) (Err Long) (λ (r : Result Lexeme LexKind). r ≡ Ok p → p.len ≡ n)
    (λ _. keeps_len n Name p)
    (λ _ f. absurd (let z : Err Long ≡ Ok p = f in cc))))
    (sym (passed_by (ends_label rest) (named Label n (n + 1)) (cond (is_among keywords word) (lexeme (Token Keyword) n) other) e) ∙ h)

colons_apart : (name rest : List ℕ) (p : Lexeme) → begins_name (slice_index name 0) ≡ true → list_all is_name_byte name ≡ true → lexeme_of (name ++ 58 ∷ rest) ≡ Ok p → slice_index rest 0 ≡ 58 → p.len ≡ length name
colons_apart name rest p begins all e colon =
    let bytes : List ℕ = name ++ 58 ∷ rest in
    let n = length name in
    let apart : ends_label (drop n bytes) ≡ false = ap ends_label (drop_at name (58 ∷ rest) n refl) ∙ ap (λ (b : ℕ). not (eqb b 58)) colon in
    no_label n (take n bytes) (drop n bytes) p apart
    (sym (word_branch bytes (first_of begins_name refl name (58 ∷ rest) begins) ∙ word_is bytes n (all_up_to is_name_byte name 58 rest all refl)) ∙ e)

single_label : (bytes : List ℕ) (p : Lexeme) → p.len ≤ length bytes → lexeme_of bytes ≡ Ok p → IsLabelForm (take p.len bytes) → slice_index bytes p.len ≡ 58 → ⊥
single_label bytes p within e form colon =
    let rest = drop p.len bytes in
    let size : length form.name + 1 ≡ p.len = sym (length-append form.name (58 ∷ [])) ∙ (sym (ap length form.colon) ∙ length-take-le p.len bytes within) in
    let whole : bytes ≡ form.name ++ 58 ∷ rest = split_at p.len bytes (form.name ++ 58 ∷ []) form.colon ∙ append_assoc form.name (58 ∷ []) rest in
    let next : slice_index rest 0 ≡ 58 = get_or-drop p.len bytes 0 0 ∙ (ap (λ (k : ℕ). get_or bytes k 0) (add-zero p.len) ∙ colon) in
    let parts = label_parts form.name form.form in
    let shorter = colons_apart form.name rest p parts.begins parts.all (ap lexeme_of (sym whole) ∙ e) next in
    omega arith

pub taken_stands : (bytes : List ℕ) (p : Lexeme) (kind : TokenKind) → lexeme_of bytes ≡ Ok p → p.sort ≡ Token kind → StandsFirst kind p.len bytes
taken_stands bytes p kind e sort =
    let some : 0 < length bytes = lexeme_there bytes p e in
    let within = (lexeme_bounded bytes p some e).1 in
    let form : IsFormOf kind (take p.len bytes) = subst (λ (s : Sort). IsLexemeForm s (take p.len bytes)) sort (lexeme_formed bytes p some e) in
    record {
      within = within;
      form = form;
      single = λ (same : kind ≡ Label) (colon : slice_index bytes p.len ≡ 58). single_label bytes p within e (subst (λ (k : TokenKind). IsFormOf k (take p.len bytes)) same form) colon;
    }

-- A reason makes its fault

pub broken_fault : (bytes : List ℕ) → IsBrokenText bytes → lexeme_of bytes ≡ Err BadText
unfolding text_lexeme
broken_fault bytes r =
    let left : List ℕ = concat r.units ++ r.rest in
    ap lexeme_of r.whole ∙ (text_branch (r.quote ∷ left) r.opens ∙ ap text_of (broken_none r.quote r.units r.rest r.opens r.are_units r.broken))

long_named : (kind : TokenKind) (n m : ℕ) → 64 < n → named kind n m ≡ Err Long
long_named kind n m h = passed_by (nat_le n name_limit) (lexeme (Token kind) m) (Err Long) (lt-leb n name_limit (omega arith))

-- no word of a table is long
short_word : (words : List (List ℕ)) (word : List ℕ) → list_all (λ (w : List ℕ). nat_le (length w) 64) words ≡ true → 64 < length word → is_among words word ≡ false
short_word words word all long =
    false_from_ne_true (is_among words word)
    (λ (h : is_among words word ≡ true).
    let short = leb-true (length word) 64 (among_all (λ (w : List ℕ). nat_le (length w) 64) words word all h) in
    omega arith)

long_keyword : (word : List ℕ) → 64 < length word → is_among keywords word ≡ false
unfolding keywords
long_keyword word h = short_word keywords word refl h

long_reserved : (word : List ℕ) → 64 < length word → is_among reserved word ≡ false
unfolding reserved
long_reserved word h = short_word reserved word refl h

long_word_of : (n : ℕ) (word rest : List ℕ) → 64 < n → length word ≡ n → word_of n word rest ≡ Err Long
long_word_of n word rest h size =
    let name : Result Lexeme LexKind = named Name n n in
    let other : Result Lexeme LexKind = cond (is_among reserved word) (lexeme (Token Reserved) n) name in
    cond_both (ends_label rest) (named Label n (n + 1)) (cond (is_among keywords word) (lexeme (Token Keyword) n) other) (λ (r : Result Lexeme LexKind). r ≡ Err Long)
    (λ _. long_named Label n (n + 1) h)
    (λ _. passed_by (is_among keywords word) (lexeme (Token Keyword) n) other (long_keyword word (omega arith))
    ∙ (passed_by (is_among reserved word) (lexeme (Token Reserved) n) name (long_reserved word (omega arith)) ∙ long_named Name n n h))

pub long_word_fault : (bytes : List ℕ) → IsLongWord bytes → lexeme_of bytes ≡ Err Long
long_word_fault bytes r =
    let whole : List ℕ = r.word ++ r.rest in
    let n = prefix_len is_name_byte whole in
    let least = all_within is_name_byte r.word r.rest r.all in
    let long = r.long in
    ap lexeme_of r.whole
    ∙ (word_branch whole (first_of begins_name refl r.word r.rest (begins_first begins_name r.word r.first))
    ∙ (word_is whole n refl ∙ long_word_of n (take n whole) (drop n whole) (omega arith) (word_length whole is_name_byte)))

pub long_symbol_fault : (bytes : List ℕ) → IsLongSymbol bytes → lexeme_of bytes ≡ Err Long
unfolding symbol_lexeme
long_symbol_fault bytes r =
    let left : List ℕ = r.name ++ r.rest in
    let n = prefix_len is_name_byte left in
    let least = all_within is_name_byte r.name r.rest r.all in
    let long = r.long in
    ap lexeme_of r.whole
    ∙ (symbol_branch (58 ∷ left) refl
    ∙ (chosen (begins_symbol (slice_index left 0)) (named Symbol n (n + 1)) (Err NoToken) (ap begins_symbol (symbol_first r.name r.rest (begins_first begins_symbol r.name r.first)) ∙ begins_first begins_symbol r.name r.first)
    ∙ long_named Symbol n (n + 1) (omega arith)))

long_text_of : (body : Body) → 4096 < length body.value → text_of (Some body) ≡ Err Long
long_text_of body h = passed_by (nat_le (length body.value) 4096) (lexeme (Token Text) (1 + body.len)) (Err Long) (lt-leb (length body.value) 4096 h)

-- a text that cannot be read is broken
pub unread_broken : (quote : ℕ) (left : List ℕ) → (quote ≡ 34) ⊎ (quote ≡ 39) → body_of quote left ≡ None → IsBrokenText (quote ∷ left)
unread_broken quote left opens e =
    let b = none_broken quote left opens e in
    record { quote = quote; units = b.units; rest = b.rest; opens = opens; are_units = b.are_units; broken = b.broken; whole = ap (λ (xs : List ℕ). quote ∷ xs) b.whole }

pub long_text_fault : (bytes : List ℕ) → IsLongText bytes → lexeme_of bytes ≡ Err Long
unfolding text_lexeme
long_text_fault bytes r =
    let left : List ℕ = concat r.units ++ r.quote ∷ r.rest in
    ap lexeme_of r.whole ∙ (text_branch (r.quote ∷ left) r.opens ∙ go left (body_of r.quote left) refl r.whole (λ body e. units_counted r.quote r.units r.rest body r.opens r.are_units e)) where
      go : (left : List ℕ) (o : Option Body) → body_of r.quote left ≡ o → bytes ≡ r.quote ∷ left → ((body : Body) → body_of r.quote left ≡ Some body → length body.value ≡ length r.units) → text_of (body_of r.quote left) ≡ Err Long
      go left None e whole count = absurd (r.sound (subst IsBrokenText (sym whole) (unread_broken r.quote left r.opens e)))
      go left (Some body) e whole count =
          let long = r.long in
          let size = count body e in
          ap text_of e ∙ long_text_of body (omega arith)
