-- Each token stands at its place.
use Rattle.std.proofs.Common.{◌≡◌, ℕ, ◌+◌, ◌-◌, ◌<◌, ◌≤◌, Bool, true, false, not, ◌&&◌, ◌||◌, ◌⊎◌, List, [], ◌∷◌, ◌++◌, length, take, drop, get_or, slice_index, Option, Some, None, Ok, eqb, ltb, refl, sym, ap, ◌∙◌, subst, inl, inr, ⊎_elim, arith, length-drop, add-zero}
use Rattle.std.specs.Prelude.{slice_index_or}
use Rattle.std.specs.List.{All, list_all}
use Rattle.std.specs.Char.{is_ascii_digit}
use Rattle.std.proofs.lemmas.Bool.{cases_lt, lt-ltb, le-ltb, ne_eqb, and_parts}
use Rattle.std.proofs.lemmas.List.{get_or-take, get_or-drop, get_or_default, get_or_past, drop-drop}
use Rattle.std.proofs.lemmas.List.Elements.{All-append, All-nil, All-cons, All-weaker}
use Rattle.vt_frac.specs.Names.{is_name_byte}
use Rattle.vt_lex.specs.declared.token.Token.{Token as LexedToken}
use Rattle.vt_lex.specs.declared.token.TokenKind.{TokenKind}
use Rattle.vt_lex.specs.declared.token.TokenKind.TheVariants.{Newline, Name, Label, Keyword, Reserved, Symbol, Whole, Decimal, Text, Operator}
use Rattle.vt_lex.specs.declared.lexeme.Sort.{Sort}
use Rattle.vt_lex.specs.declared.lexeme.Sort.TheVariants.{Blank, Comment, Line, Token}
use Rattle.vt_lex.specs.declared.lexeme.Lexeme.{Lexeme}
use Rattle.vt_lex.specs.Bytes.{is_blank, is_space}
use Rattle.vt_lex.specs.Lexemes.{lexeme_by, lexeme_of}
use Rattle.vt_lex.specs.Lexing.{Standing, opening, kept_kind, token_of, tokens_of, kept, line_after, after, AreTokens, Lexes}
use Rattle.vt_lex.specs.Places.{newlines, is_gap, is_tight, StandsAt, AreInOrder}
use Rattle.vt_lex.proofs.Bounds.{lexeme_bounded}
use Rattle.vt_lex.proofs.NameForms.{label_parts, symbol_parts}
use Rattle.vt_lex.proofs.Newlines.{none_passed, no_newline, newlines_append, no_newlines, digits_alone, keyword_alone, reserved_alone, operator_alone, text_alone}
use Rattle.vt_lex.proofs.Shapes.{IsLexemeForm, lexeme_formed, lexeme_there, take_sum}

-- the newlines in a lexeme of this sort
abbrev pub newlines_in : Sort → ℕ
newlines_in Line = 1
newlines_in Blank = 0
newlines_in Comment = 0
newlines_in (Token kind) = 0

line_sum : (line : ℕ) (sort : Sort) → line_after line sort ≡ line + newlines_in sort
line_sum line Line = refl
line_sum line Blank = sym (add-zero line)
line_sum line Comment = sym (add-zero line)
line_sum line (Token kind) = sym (add-zero line)

both_none : (xs ys : List ℕ) → newlines xs ≡ 0 → newlines ys ≡ 0 → newlines (xs ++ ys) ≡ 0
both_none xs ys e f = let sum = newlines_append xs ys in omega arith

-- a lexeme that begins with a newline is that newline
pub newline_first : (bytes : List ℕ) (p : Lexeme) → lexeme_of bytes ≡ Ok p → slice_index bytes 0 ≡ 10 → p.sort ≡ Line
unfolding lexeme_by
newline_first bytes p e first =
    let z : Ok (record { sort = Line; len = 1 }) ≡ Ok p = sym (ap (λ (b : ℕ). lexeme_by b bytes) first) ∙ e in
    let same : record { sort = Line; len = 1 } ≡ p = cc in
    sym (ap (λ (x : Lexeme). x.sort) same)

semicolon : (bytes : List ℕ) (p : Lexeme) → 0 < p.len → lexeme_of bytes ≡ Ok p → p.sort ≡ Token Newline → (take p.len bytes ≡ 10 ∷ []) ⊎ (take p.len bytes ≡ 59 ∷ []) → newlines (take p.len bytes) ≡ 0
semicolon bytes p some e sort (inl h) =
    let first : slice_index bytes 0 ≡ 10 = sym (get_or-take p.len bytes 0 0 some) ∙ ap (λ (xs : List ℕ). slice_index xs 0) h in
    absurd (let z : Token Newline ≡ Line = sym sort ∙ newline_first bytes p e first in cc)
semicolon bytes p some e sort (inr h) = ap newlines h

-- a lexeme that is no line has no newline, and a line has one
pub newlines_of : (bytes : List ℕ) (p : Lexeme) → 0 < p.len → lexeme_of bytes ≡ Ok p → (sort : Sort) → p.sort ≡ sort → IsLexemeForm sort (take p.len bytes) → newlines (take p.len bytes) ≡ newlines_in sort
newlines_of bytes p some e Blank sort form = ap newlines form.alone ∙ none_passed form.byte [] (no_newline is_blank refl form.byte form.blank) refl
newlines_of bytes p some e Comment sort form = ap newlines form.hash ∙ none_passed 35 form.line refl (no_newlines (λ b. not (eqb b 10)) refl form.line form.on_line)
newlines_of bytes p some e Line sort form = ap newlines form
newlines_of bytes p some e (Token Newline) sort form = semicolon bytes p some e sort form
newlines_of bytes p some e (Token Name) sort form = no_newlines is_name_byte refl (take p.len bytes) (label_parts (take p.len bytes) form.form).all
newlines_of bytes p some e (Token Label) sort form = ap newlines form.colon ∙ both_none form.name (58 ∷ []) (no_newlines is_name_byte refl form.name (label_parts form.name form.form).all) refl
newlines_of bytes p some e (Token Keyword) sort form = keyword_alone (take p.len bytes) form
newlines_of bytes p some e (Token Reserved) sort form = reserved_alone (take p.len bytes) form
newlines_of bytes p some e (Token Symbol) sort form = ap newlines form.colon ∙ none_passed 58 form.name refl (no_newlines is_name_byte refl form.name (symbol_parts form.name form.form).all)
newlines_of bytes p some e (Token Whole) sort form = digits_alone (take p.len bytes) form.digits
newlines_of bytes p some e (Token Decimal) sort form =
    ap newlines form.pointed.joined
    ∙ both_none form.before (46 ∷ form.after) (digits_none form.before form.pointed.before_digits) (none_passed 46 form.after refl (digits_none form.after form.pointed.after_digits)) where
      digits_none : (ds : List ℕ) → (ltb 0 (length ds) && list_all is_ascii_digit ds) ≡ true → newlines ds ≡ 0
      digits_none ds h = no_newlines is_ascii_digit refl ds (and_parts (ltb 0 (length ds)) (list_all is_ascii_digit ds) h).1
newlines_of bytes p some e (Token Text) sort form = text_alone (take p.len bytes) form
newlines_of bytes p some e (Token Operator) sort form = operator_alone (take p.len bytes) form

-- the line and the byte before are those of the text
pub record Placed (text : List ℕ) (first_line : ℕ) (s : Standing) : Type 0 where
  pub line : s.line ≡ first_line + newlines (take s.at text)
  pub before : is_space s.before ≡ is_gap text s.at

pub placed_after : (text : List ℕ) (first_line : ℕ) (s : Standing) (bytes : List ℕ) (p : Lexeme) → bytes ≡ drop s.at text → 0 < p.len → newlines (take p.len bytes) ≡ newlines_in p.sort → Placed text first_line s → Placed text first_line (after s p bytes)
placed_after text first_line s bytes p left some lines placed =
    let here : newlines (take p.len bytes) ≡ newlines (take p.len (drop s.at text)) = ap (λ (xs : List ℕ). newlines (take p.len xs)) left in
    let sum : newlines (take (s.at + p.len) text) ≡ newlines (take s.at text) + newlines (take p.len (drop s.at text)) =
    ap newlines (take_sum s.at p.len text) ∙ newlines_append (take s.at text) (take p.len (drop s.at text)) in
    let line = placed.line in
    let more = line_sum s.line p.sort in
    let index : s.at + (p.len - 1) ≡ s.at + p.len - 1 = omega arith in
    let byte : slice_index bytes (p.len - 1) ≡ slice_index text (s.at + p.len - 1) =
    ap (λ (xs : List ℕ). slice_index xs (p.len - 1)) left ∙ (get_or-drop s.at text (p.len - 1) 0 ∙ ap (λ (n : ℕ). get_or text n 0) index) in
    let begun : eqb (s.at + p.len) 0 ≡ false = ne_eqb (s.at + p.len) 0 (λ (h : s.at + p.len ≡ 0). omega arith) in
    record {
      line = omega arith;
      before = ap is_space byte ∙ ap (λ (t : Bool). t || is_space (slice_index text (s.at + p.len - 1))) (sym begun);
    }

-- a byte behind a token, or the end
tight_at : (text : List ℕ) (k : ℕ) → not (is_space (get_or text k 10)) ≡ is_tight text k
tight_at text k =
    ⊎_elim
    (λ (h : k < length text). ap (λ (b : ℕ). not (is_space b)) (get_or_default text k 10 0 h) ∙ ap (λ (t : Bool). t && not (is_space (get_or text k 0))) (sym (lt-ltb k (length text) h)))
    (λ (h : length text ≤ k). ap (λ (b : ℕ). not (is_space b)) (get_or_past text k 10 h) ∙ ap (λ (t : Bool). t && not (is_space (get_or text k 0))) (sym (le-ltb k (length text) h)))
    (cases_lt k (length text))

tokens_stand : (text : List ℕ) (first_line : ℕ) (s : Standing) (bytes : List ℕ) (len : ℕ) (o : Option TokenKind) → bytes ≡ drop s.at text → 0 < len → s.at + len ≤ length text → Placed text first_line s → All (StandsAt text first_line) (tokens_of s bytes len o)
tokens_stand text first_line s bytes len None left some within placed = All-nil (StandsAt text first_line)
tokens_stand text first_line s bytes len (Some kind) left some within placed =
    let byte : slice_index_or bytes len 10 ≡ get_or text (s.at + len) 10 = ap (λ (xs : List ℕ). get_or xs len 10) left ∙ get_or-drop s.at text len 10 in
    All-cons (StandsAt text first_line) (token_of s bytes len kind) []
    (record { some = omega arith; within = within; line = placed.line; gap = placed.before; tight = ap (λ (b : ℕ). not (is_space b)) byte ∙ tight_at text (s.at + len) })
    (All-nil (StandsAt text first_line))

all_stand : (text : List ℕ) (first_line : ℕ) (s : Standing) (bytes : List ℕ) (ps : List Lexeme) (ts : List LexedToken) → bytes ≡ drop s.at text → Placed text first_line s → AreTokens s bytes ps ts → All (StandsAt text first_line) ts
all_stand text first_line s bytes [] ts left placed h = subst (All (StandsAt text first_line)) (sym h.1) (All-nil (StandsAt text first_line))
all_stand text first_line s bytes (p ∷ ps) ts left placed h =
    let some : 0 < length bytes = lexeme_there bytes p h.0 in
    let size : length bytes ≡ length text - s.at = ap length left ∙ length-drop s.at text in
    let bounds = lexeme_bounded bytes p some h.0 in
    let least = bounds.0 in
    let most = bounds.1 in
    let lines = newlines_of bytes p least h.0 p.sort refl (lexeme_formed bytes p some h.0) in
    let here : All (StandsAt text first_line) (kept s p bytes) = tokens_stand text first_line s bytes p.len (kept_kind s p.sort) left least (omega arith) placed in
    let rest : All (StandsAt text first_line) h.1.0 =
    all_stand text first_line (after s p bytes) (drop p.len bytes) ps h.1.0 (ap (drop p.len) left ∙ drop-drop p.len s.at text) (placed_after text first_line s bytes p left least lines placed) h.1.2 in
    subst (All (StandsAt text first_line)) (sym h.1.1) (All-append (StandsAt text first_line) (kept s p bytes) h.1.0 here rest)

pub tokens_stand_at : (text : List ℕ) (first_line : ℕ) (ts : List LexedToken) → Lexes text first_line ts → All (StandsAt text first_line) ts
tokens_stand_at text first_line ts h =
    all_stand text first_line (opening first_line) text h.lexemes ts refl (record { line = sym (add-zero first_line); before = refl }) h.are_tokens

-- no token begins before this place, and each ends before a later one begins
pub record Follow (at : ℕ) (ts : List LexedToken) : Type 0 where
  pub begin : All (λ (t : LexedToken). at ≤ t.from) ts
  pub order : AreInOrder ts

follow_kept : (s : Standing) (bytes : List ℕ) (len : ℕ) (o : Option TokenKind) (rest : List LexedToken) → Follow (s.at + len) rest → Follow s.at (tokens_of s bytes len o ++ rest)
follow_kept s bytes len None rest f = record {
  begin = All-weaker (λ (t : LexedToken). s.at + len ≤ t.from) (λ (t : LexedToken). s.at ≤ t.from) (λ (t : LexedToken) (h : s.at + len ≤ t.from). omega arith) rest f.begin;
  order = f.order;
}
follow_kept s bytes len (Some kind) rest f = record {
  begin =
      All-cons (λ (t : LexedToken). s.at ≤ t.from) (token_of s bytes len kind) rest (omega arith)
      (All-weaker (λ (t : LexedToken). s.at + len ≤ t.from) (λ (t : LexedToken). s.at ≤ t.from) (λ (t : LexedToken) (h : s.at + len ≤ t.from). omega arith) rest f.begin);
  order = (f.begin, f.order);
}

pub all_follow : (s : Standing) (bytes : List ℕ) (ps : List Lexeme) (ts : List LexedToken) → AreTokens s bytes ps ts → Follow s.at ts
all_follow s bytes [] ts h = subst (Follow s.at) (sym h.1) (record { begin = All-nil (λ (t : LexedToken). s.at ≤ t.from); order = tt })
all_follow s bytes (p ∷ ps) ts h =
    subst (Follow s.at) (sym h.1.1) (follow_kept s bytes p.len (kept_kind s p.sort) h.1.0 (all_follow (after s p bytes) (drop p.len bytes) ps h.1.0 h.1.2))

pub tokens_in_order : (text : List ℕ) (first_line : ℕ) (ts : List LexedToken) → Lexes text first_line ts → AreInOrder ts
tokens_in_order text first_line ts h = (all_follow (opening first_line) text h.lexemes ts h.are_tokens).order
