-- Outside of the tokens stand blanks, comments and dropped newlines.
use Rattle.std.proofs.Common.{◌≡◌, ℕ, zero, suc, ◌+◌, ◌-◌, ◌<◌, ◌≤◌, Bool, true, false, not, ◌||◌, List, [], ◌∷◌, ◌++◌, length, take, drop, get_or, slice_index, Option, Some, None, Ok, cond, eqb, refl, sym, ap, ◌∙◌, subst, arith, length-drop, one-add, add-zero}
use Rattle.std.specs.List.{list_all, prefix_len}
use Rattle.std.proofs.lemmas.Bool.{and_parts, and_from, eqb-true}
use Rattle.std.proofs.lemmas.Bool.Decides.{nat_tests}
use Rattle.std.proofs.lemmas.List.{get_or-take, get_or-drop, get_or_past, drop-drop, take-append-drop}
use Rattle.std.proofs.lemmas.List.Elements.{All-head}
use Rattle.vt_frac.specs.Names.{is_among}
use Rattle.vt_lex.specs.declared.token.Token.{Token as LexedToken}
use Rattle.vt_lex.specs.declared.token.TokenKind.{TokenKind}
use Rattle.vt_lex.specs.declared.token.TokenKind.TheVariants.{Newline}
use Rattle.vt_lex.specs.declared.lexeme.Sort.{Sort}
use Rattle.vt_lex.specs.declared.lexeme.Sort.TheVariants.{Blank, Comment, Line, Token}
use Rattle.vt_lex.specs.declared.lexeme.Lexeme.{Lexeme}
use Rattle.vt_lex.specs.Bytes.{is_blank, is_space}
use Rattle.vt_lex.specs.Lexicon.{joining}
use Rattle.vt_lex.specs.Lexemes.{lexeme_by, lexeme_of, comment_lexeme}
use Rattle.vt_lex.specs.Lexing.{Standing, opening, is_dropped, brackets_after, kept_kind, token_of, tokens_of, goes_on_after, after, AreTokens, Lexes}
use Rattle.vt_lex.specs.Places.{newlines}
use Rattle.vt_lex.specs.Skipped.{is_skipped, IsAllElseSkipped, AreNewlinesDropped}
use Rattle.vt_lex.proofs.Bounds.{lexeme_bounded}
use Rattle.vt_lex.proofs.Newlines.{newlines_append}
use Rattle.vt_lex.proofs.Shapes.{IsLexemeForm, IsCommentForm, lexeme_formed, lexeme_there, take_sum}
use Rattle.vt_lex.proofs.Placing.{newline_first, newlines_in, newlines_of, Follow, all_follow}

step : (b : ℕ) (bs : List ℕ) → get_or bs (prefix_len (λ b. not (eqb b 10)) bs) 10 ≡ 10 → (t : Bool) → eqb b 10 ≡ t → get_or (b ∷ bs) (prefix_len (λ b. not (eqb b 10)) (b ∷ bs)) 10 ≡ 10
step b bs rest true e = rw e (eqb-true b 10 e)
step b bs rest false e = rw e (rw one-add rest)

-- where a line ends
line_end : (bytes : List ℕ) → get_or bytes (prefix_len (λ b. not (eqb b 10)) bytes) 10 ≡ 10
line_end [] = refl
line_end (b ∷ bs) = step b bs (line_end bs) (eqb b 10) refl

comment_len : (bytes : List ℕ) (p : Lexeme) → lexeme_of bytes ≡ Ok p → slice_index bytes 0 ≡ 35 → p.len ≡ prefix_len (λ b. not (eqb b 10)) bytes
unfolding lexeme_by comment_lexeme
comment_len bytes p e first =
    let n = prefix_len (λ b. not (eqb b 10)) bytes in
    let z : Ok (record { sort = Comment; len = n }) ≡ Ok p = sym (ap (λ (b : ℕ). lexeme_by b bytes) first) ∙ e in
    let same : record { sort = Comment; len = n } ≡ p = cc in
    sym (ap (λ (x : Lexeme). x.len) same)

-- a comment that is followed by a newline, or by this byte
in_comment : (next : ℕ) (xs : List ℕ) → get_or xs 0 next ≡ 10 → is_skipped false next xs ≡ true → is_skipped true next xs ≡ true
in_comment next [] e h = ap (λ (b : ℕ). eqb b 10) e
in_comment next (x ∷ xs) e h =
    let rest : is_skipped (eqb x 35) next xs ≡ true = (and_parts (eqb x 35 || is_space x) (is_skipped (eqb x 35) next xs) h).1 in
    ap (λ (b : ℕ). is_skipped (not (eqb b 10)) next xs) e ∙ (ap (λ (b : ℕ). is_skipped (eqb b 35) next xs) (sym e) ∙ rest)

on_line : (next : ℕ) (line xs : List ℕ) → list_all (λ b. not (eqb b 10)) line ≡ true → is_skipped true next xs ≡ true → is_skipped true next (line ++ xs) ≡ true
on_line next [] xs all h = h
on_line next (b ∷ line) xs all h =
    let parts = and_parts (not (eqb b 10)) (list_all (λ b. not (eqb b 10)) line) all in
    ap (λ (t : Bool). is_skipped t next (line ++ xs)) parts.0 ∙ on_line next line xs parts.1 h

blank_skipped : (next b : ℕ) (xs : List ℕ) → is_blank b ≡ true → is_skipped false next xs ≡ true → is_skipped false next (b ∷ xs) ≡ true
blank_skipped next b xs e h =
    let no_hash : eqb b 35 ≡ false = grind (arith, nat_tests) in
    let space : (eqb b 35 || is_space b) ≡ true = grind (arith, nat_tests) in
    and_from (eqb b 35 || is_space b) (is_skipped (eqb b 35) next xs) space (ap (λ (t : Bool). is_skipped t next xs) no_hash ∙ h)

lexeme_skipped : (s : Standing) (sort : Sort) (next : ℕ) (prefix xs : List ℕ) → kept_kind s sort ≡ None → IsLexemeForm sort prefix → (sort ≡ Comment → get_or xs 0 next ≡ 10) → is_skipped false next xs ≡ true → is_skipped false next (prefix ++ xs) ≡ true
lexeme_skipped s Blank next prefix xs e form ends h = ap (λ (f : List ℕ). is_skipped false next (f ++ xs)) form.alone ∙ blank_skipped next form.byte xs form.blank h
lexeme_skipped s Comment next prefix xs e form ends h =
    ap (λ (f : List ℕ). is_skipped false next (f ++ xs)) form.hash ∙ on_line next form.line xs form.on_line (in_comment next xs (ends refl) h)
lexeme_skipped s Line next prefix xs e form ends h = ap (λ (f : List ℕ). is_skipped false next (f ++ xs)) form ∙ h
lexeme_skipped s (Token kind) next prefix xs e form ends h = absurd (let z : Some kind ≡ None = e in cc)

-- newlines outside of the tokens are dropped
lexeme_dropped : (s : Standing) (sort : Sort) (prefix xs : List ℕ) → kept_kind s sort ≡ None → newlines prefix ≡ newlines_in sort → (0 < newlines xs → is_dropped s.open_brackets s.goes_on ≡ true) → 0 < newlines (prefix ++ xs) → is_dropped s.open_brackets s.goes_on ≡ true
lexeme_dropped s Blank prefix xs e lines rest some = let sum = newlines_append prefix xs in rest (omega arith)
lexeme_dropped s Comment prefix xs e lines rest some = let sum = newlines_append prefix xs in rest (omega arith)
lexeme_dropped s Line prefix xs e lines rest some = go (is_dropped s.open_brackets s.goes_on) e where
  go : (t : Bool) → cond t None (Some Newline) ≡ None → t ≡ true
  go true f = refl
  go false f = absurd (let z : Some Newline ≡ None = f in cc)
lexeme_dropped s (Token kind) prefix xs e lines rest some = absurd (let z : Some kind ≡ None = e in cc)

-- no bracket begins a lexeme that makes no token
same_brackets : (s : Standing) (sort : Sort) (prefix : List ℕ) → kept_kind s sort ≡ None → IsLexemeForm sort prefix → brackets_after s.open_brackets (slice_index prefix 0) ≡ s.open_brackets
same_brackets s Blank prefix e form = ap (λ (f : List ℕ). brackets_after s.open_brackets (slice_index f 0)) form.alone ∙ go form.byte form.blank where
  go : (b : ℕ) → is_blank b ≡ true → brackets_after s.open_brackets b ≡ s.open_brackets
  go b h =
      let a1 : eqb b 40 ≡ false = grind (arith, nat_tests) in
      let a2 : eqb b 91 ≡ false = grind (arith, nat_tests) in
      let a3 : eqb b 123 ≡ false = grind (arith, nat_tests) in
      let b1 : eqb b 41 ≡ false = grind (arith, nat_tests) in
      let b2 : eqb b 93 ≡ false = grind (arith, nat_tests) in
      let b3 : eqb b 125 ≡ false = grind (arith, nat_tests) in
      rw (a1, a2, a3, b1, b2, b3) refl
same_brackets s Comment prefix e form = ap (λ (f : List ℕ). brackets_after s.open_brackets (slice_index f 0)) form.hash
same_brackets s Line prefix e form = ap (λ (f : List ℕ). brackets_after s.open_brackets (slice_index f 0)) form
same_brackets s (Token kind) prefix e form = absurd (let z : Some kind ≡ None = e in cc)

-- the byte after a place in a part of the text, or behind it
next_byte : (text : List ℕ) (a k : ℕ) → get_or (take k (drop a text)) 0 (get_or text (a + k) 10) ≡ get_or text a 10
next_byte text a zero = ap (λ (n : ℕ). get_or text n 10) (add-zero a)
next_byte text a (suc k) = go (drop a text) refl where
  go : (xs : List ℕ) → drop a text ≡ xs → get_or (take (suc k) xs) 0 (get_or text (a + suc k) 10) ≡ get_or text a 10
  go [] e =
      let over : length text ≤ a = omega (arith, length-drop a text, ap length e) in
      get_or_past text (a + suc k) 10 (omega arith) ∙ sym (get_or_past text a 10 over)
  go (x ∷ xs) e =
      ap (λ (ys : List ℕ). get_or ys 0 10) (sym e) ∙ (get_or-drop a text 0 10 ∙ ap (λ (n : ℕ). get_or text n 10) (add-zero a))

-- a part of the text, cut behind its first bytes
seam : (text : List ℕ) (at len to : ℕ) → at + len ≤ to → take (to - at) (drop at text) ≡ take len (drop at text) ++ take (to - (at + len)) (drop (at + len) text)
seam text at len to within =
    let size : to - at ≡ len + (to - (at + len)) = omega arith in
    ap (λ (n : ℕ). take n (drop at text)) size
    ∙ (take_sum len (to - (at + len)) (drop at text) ∙ ap (λ (xs : List ℕ). take len (drop at text) ++ take (to - (at + len)) xs) (drop-drop len at text))

rest_seam : (text : List ℕ) (at len : ℕ) → drop at text ≡ take len (drop at text) ++ drop (at + len) text
rest_seam text at len = sym (take-append-drop len (drop at text)) ∙ ap (λ (xs : List ℕ). take len (drop at text) ++ xs) (drop-drop len at text)

-- what the law says from a standing on
pub record Skips (text : List ℕ) (s : Standing) (ts : List LexedToken) : Type 0 where
  pub skipped : IsAllElseSkipped text s.at ts
  pub dropped : AreNewlinesDropped text s.at s.open_brackets s.goes_on ts

-- a lexeme that makes no token
module _ (text : List ℕ) (s : Standing) (bytes : List ℕ) (p : Lexeme) (left : bytes ≡ drop s.at text) (some : 0 < p.len) (e : lexeme_of bytes ≡ Ok p) (none : kept_kind s p.sort ≡ None) (form : IsLexemeForm p.sort (take p.len bytes)) where
  here : take p.len bytes ≡ take p.len (drop s.at text)
  here = ap (take p.len) left

  comment_ends : p.sort ≡ Comment → get_or text (s.at + p.len) 10 ≡ 10
  comment_ends sort =
      let known : IsCommentForm (take p.len bytes) = subst (λ (x : Sort). IsLexemeForm x (take p.len bytes)) sort form in
      let first : slice_index bytes 0 ≡ 35 = sym (get_or-take p.len bytes 0 0 some) ∙ ap (λ (xs : List ℕ). slice_index xs 0) known.hash in
      sym (get_or-drop s.at text p.len 10)
      ∙ (ap (λ (xs : List ℕ). get_or xs p.len 10) (sym left) ∙ (ap (λ (n : ℕ). get_or bytes n 10) (comment_len bytes p e first) ∙ line_end bytes))

  brackets : (after s p bytes).open_brackets ≡ s.open_brackets
  brackets = ap (brackets_after s.open_brackets) (sym (get_or-take p.len bytes 0 0 some)) ∙ same_brackets s p.sort (take p.len bytes) none form

  goes : (after s p bytes).goes_on ≡ s.goes_on
  goes = ap (goes_on_after s.goes_on (take p.len bytes)) none

  lines : newlines (take p.len bytes) ≡ newlines_in p.sort
  lines = newlines_of bytes p some e p.sort refl form

  passed : (ts : List LexedToken) → Follow (s.at + p.len) ts → Skips text (after s p bytes) ts → Skips text s ts
  passed [] follow skips = record {
    skipped =
        ap (is_skipped false 10) (rest_seam text s.at p.len ∙ ap (λ (xs : List ℕ). xs ++ drop (s.at + p.len) text) (sym here))
        ∙ lexeme_skipped s p.sort 10 (take p.len bytes) (drop (s.at + p.len) text) none form
        (λ sort. get_or-drop (s.at + p.len) text 0 10 ∙ (ap (λ (n : ℕ). get_or text n 10) (add-zero (s.at + p.len)) ∙ comment_ends sort)) skips.skipped;
    dropped =
        λ (h : 0 < newlines (drop s.at text)).
        lexeme_dropped s p.sort (take p.len bytes) (drop (s.at + p.len) text) none lines
        (λ (more : 0 < newlines (drop (s.at + p.len) text)). sym (ap (λ (xs : List ℕ). is_dropped xs s.goes_on) brackets) ∙ (sym (ap (is_dropped (after s p bytes).open_brackets) goes) ∙ skips.dropped more))
        (subst (λ (xs : List ℕ). 0 < newlines xs) (rest_seam text s.at p.len ∙ ap (λ (xs : List ℕ). xs ++ drop (s.at + p.len) text) (sym here)) h);
  }
  passed (t ∷ ts) follow skips =
      let begins : s.at + p.len ≤ t.from = All-head (λ (u : LexedToken). s.at + p.len ≤ u.from) t ts follow.begin in
      let xs : List ℕ = take (t.from - (s.at + p.len)) (drop (s.at + p.len) text) in
      let cut : take (t.from - s.at) (drop s.at text) ≡ take p.len bytes ++ xs = seam text s.at p.len t.from begins ∙ ap (λ (ys : List ℕ). ys ++ xs) (sym here) in
      let place : s.at + p.len + (t.from - (s.at + p.len)) ≡ t.from = omega arith in
      let next : get_or xs 0 (get_or text t.from 10) ≡ get_or text (s.at + p.len) 10 =
      ap (λ (n : ℕ). get_or xs 0 (get_or text n 10)) (sym place) ∙ next_byte text (s.at + p.len) (t.from - (s.at + p.len)) in
      let same : is_dropped (after s p bytes).open_brackets (after s p bytes).goes_on ≡ is_dropped s.open_brackets s.goes_on =
      ap (λ (ys : List ℕ). is_dropped ys (after s p bytes).goes_on) brackets ∙ ap (is_dropped s.open_brackets) goes in
      record {
        skipped = (
          ap (is_skipped false (get_or text t.from 10)) cut
              ∙ lexeme_skipped s p.sort (get_or text t.from 10) (take p.len bytes) xs none form (λ sort. next ∙ comment_ends sort) skips.skipped.0,
          skips.skipped.1,
        );
        dropped = (
          λ (h : 0 < newlines (take (t.from - s.at) (drop s.at text))).
              lexeme_dropped s p.sort (take p.len bytes) xs none lines (λ (more : 0 < newlines xs). sym same ∙ skips.dropped.0 more) (subst (λ (ys : List ℕ). 0 < newlines ys) cut h),
          λ (h : slice_index text t.from ≡ 10). sym same ∙ skips.dropped.1 h,
          subst (λ (ys : List ℕ). AreNewlinesDropped text t.to (brackets_after ys (slice_index text t.from)) (is_among joining (take (t.to - t.from) (drop t.from text))) ts) brackets skips.dropped.2,
        );
      }

-- a lexeme that makes a token
token_next : (text : List ℕ) (s : Standing) (bytes : List ℕ) (p : Lexeme) (kind : TokenKind) (ts : List LexedToken) → bytes ≡ drop s.at text → lexeme_of bytes ≡ Ok p → kept_kind s p.sort ≡ Some kind → Skips text (after s p bytes) ts → Skips text s (token_of s bytes p.len kind ∷ ts)
token_next text s bytes p kind ts left e made skips =
    let nothing : s.at - s.at ≡ 0 = omega arith in
    let size : p.len ≡ s.at + p.len - s.at = omega arith in
    let first : slice_index bytes 0 ≡ slice_index text s.at = ap (λ (xs : List ℕ). slice_index xs 0) left ∙ (get_or-drop s.at text 0 0 ∙ ap (λ (n : ℕ). get_or text n 0) (add-zero s.at)) in
    let whole : take p.len bytes ≡ take (s.at + p.len - s.at) (drop s.at text) = ap (take p.len) left ∙ ap (λ (n : ℕ). take n (drop s.at text)) size in
    let goes : (after s p bytes).goes_on ≡ is_among joining (take (s.at + p.len - s.at) (drop s.at text)) = ap (goes_on_after s.goes_on (take p.len bytes)) made ∙ ap (is_among joining) whole in
    record {
      skipped = (ap (λ (n : ℕ). is_skipped false (get_or text s.at 10) (take n (drop s.at text))) nothing, skips.skipped);
      dropped = (
        λ (h : 0 < newlines (take (s.at - s.at) (drop s.at text))). absurd (let z : 0 < 0 = subst (λ (n : ℕ). 0 < newlines (take n (drop s.at text))) nothing h in omega arith),
        λ (h : slice_index text s.at ≡ 10). kept_line (is_dropped s.open_brackets s.goes_on) (sym (ap (kept_kind s) (newline_first bytes p e (first ∙ h))) ∙ made),
        subst (λ (b : ℕ). AreNewlinesDropped text (s.at + p.len) (brackets_after s.open_brackets b) (is_among joining (take (s.at + p.len - s.at) (drop s.at text))) ts) first
            (subst (λ (g : Bool). AreNewlinesDropped text (s.at + p.len) (after s p bytes).open_brackets g ts) goes skips.dropped),
      );
    } where
      kept_line : (t : Bool) → cond t None (Some Newline) ≡ Some kind → t ≡ false
      kept_line true f = absurd (let z : None ≡ Some kind = f in cc)
      kept_line false f = refl

next_skips : (text : List ℕ) (s : Standing) (bytes : List ℕ) (p : Lexeme) (o : Option TokenKind) (ts : List LexedToken) → bytes ≡ drop s.at text → 0 < p.len → lexeme_of bytes ≡ Ok p → kept_kind s p.sort ≡ o → IsLexemeForm p.sort (take p.len bytes) → Follow (s.at + p.len) ts → Skips text (after s p bytes) ts → Skips text s (tokens_of s bytes p.len o ++ ts)
next_skips text s bytes p None ts left some e made form follow skips = passed text s bytes p left some e made form ts follow skips
next_skips text s bytes p (Some kind) ts left some e made form follow skips = token_next text s bytes p kind ts left e made skips

all_skip : (text : List ℕ) (s : Standing) (bytes : List ℕ) (ps : List Lexeme) (ts : List LexedToken) → bytes ≡ drop s.at text → AreTokens s bytes ps ts → Skips text s ts
all_skip text s bytes [] ts left h =
    let end : drop s.at text ≡ [] = sym left ∙ h.0 in
    subst (Skips text s) (sym h.1)
    (record {
      skipped = ap (is_skipped false 10) end;
      dropped = λ (some : 0 < newlines (drop s.at text)). absurd (let z : 0 < 0 = subst (λ (xs : List ℕ). 0 < newlines xs) end some in omega arith);
    })
all_skip text s bytes (p ∷ ps) ts left h =
    let there : 0 < length bytes = lexeme_there bytes p h.0 in
    subst (Skips text s) (sym h.1.1)
    (next_skips text s bytes p (kept_kind s p.sort) h.1.0 left (lexeme_bounded bytes p there h.0).0 h.0 refl (lexeme_formed bytes p there h.0)
    (all_follow (after s p bytes) (drop p.len bytes) ps h.1.0 h.1.2)
    (all_skip text (after s p bytes) (drop p.len bytes) ps h.1.0 (ap (drop p.len) left ∙ drop-drop p.len s.at text) h.1.2))

pub all_else_skipped : (text : List ℕ) (first_line : ℕ) (ts : List LexedToken) → Lexes text first_line ts → Skips text (opening first_line) ts
all_else_skipped text first_line ts h = all_skip text (opening first_line) text h.lexemes ts refl h.are_tokens
