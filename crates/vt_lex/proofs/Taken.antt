-- The laws of the tokens and of the faults of a text.
use Rattle.std.proofs.Common.{◌≡◌, ℕ, ◌+◌, ◌-◌, ◌<◌, ◌≤◌, Bool, true, false, not, ◌||◌, ◌⊎◌, nat_le, List, [], ◌∷◌, ◌++◌, length, take, drop, slice_index, Option, Some, None, Result, Ok, Err, cond, eqb, refl, sym, ap, ◌∙◌, subst, inl, inr, ⊎_elim, arith, add-zero, zero-add, add_assoc}
use Rattle.std.specs.List.{prefix_len, All, concat}
use Rattle.std.specs.Char.{is_ascii_digit}
use Rattle.std.proofs.lemmas.Bool.{cond_both, eqb-true, leb-false, false_from_ne_true, or_cases, true≢false}
use Rattle.std.proofs.lemmas.List.{take-append-drop, get_or-take, drop-drop}
use Rattle.std.proofs.lemmas.List.Elements.{All-append, All-nil, All-cons}
use Rattle.std.proofs.lemmas.List.Sums.{sum_by-cons}
use Rattle.vt_frac.specs.Names.{begins_name, begins_symbol, is_name_byte, is_among, keywords, reserved}
use Rattle.vt_lex.specs.declared.token.Token.{Token as LexedToken}
use Rattle.vt_lex.specs.declared.token.TokenKind.{TokenKind}
use Rattle.vt_lex.specs.declared.token.TokenKind.TheVariants.{Newline, Name, Label, Keyword, Reserved, Symbol, Whole, Decimal, Text, Operator}
use Rattle.vt_lex.specs.declared.fault.LexKind.{LexKind}
use Rattle.vt_lex.specs.declared.fault.LexKind.TheVariants.{Byte as NoToken, Text as BadText, Number, Long}
use Rattle.vt_lex.specs.declared.lexeme.Sort.{Sort}
use Rattle.vt_lex.specs.declared.lexeme.Sort.TheVariants.{Blank, Comment, Line, Token}
use Rattle.vt_lex.specs.declared.lexeme.Lexeme.{Lexeme}
use Rattle.vt_lex.specs.Bytes.{is_blank}
use Rattle.vt_lex.specs.Lexicon.{first_start, operators}
use Rattle.vt_lex.specs.Numbers.{whole_fits, decimal_fits}
use Rattle.vt_lex.specs.Texts.{Body, body_of}
use Rattle.vt_lex.specs.Lexemes.{lexeme, name_limit, named, ends_label, word_lexeme, symbol_lexeme, whole_of, decimal_of, number_lexeme, text_of, text_lexeme, operator_of, operator_lexeme, comment_lexeme, lexeme_by, lexeme_of}
use Rattle.vt_lex.specs.Lexing.{Standing, opening, is_dropped, kept_kind, tokens_of, token_of, kept, after, AreTokens, IsFirstFault}
use Rattle.vt_lex.specs.TokenLaws.{StandsFirst, AwaitsToken, IsBrokenText, IsLongWord, IsLongSymbol, IsLongText, IsUnfitNumber, IsNoToken, IsReason, IsTaken, LongestIsTaken, FaultsByReason, IsRefusedAt, RefusedByReason, size_of}
use Rattle.vt_lex.proofs.Bounds.{lexeme_bounded, prefix_some}
use Rattle.vt_lex.proofs.Branches.{chosen, passed_by, number_branch}
use Rattle.vt_lex.proofs.NameForms.{first_begins}
use Rattle.vt_lex.proofs.Placing.{Placed, placed_after, newlines_of}
use Rattle.vt_lex.proofs.Reaches.{Covers, whole_len, part_len, has_part}
use Rattle.vt_lex.proofs.Reasons.{ahead, taken_stands, broken_fault, long_word_fault, long_symbol_fault, long_text_fault, number_first, unread_broken}
use Rattle.vt_lex.proofs.Shapes.{IsLexemeForm, lexeme_formed, lexeme_there, word_first, word_length, all_pass}
use Rattle.vt_lex.proofs.Units.{some_units, broken_none}
use Rattle.vt_lex.proofs.Unfit.{number_is, refused_unfit, unfit_refused}

-- A fault has its reason

-- the reason of each kind but `byte`
abbrev IsSaid : LexKind → List ℕ → Type 0
IsSaid NoToken bytes = Unit {0}
IsSaid BadText bytes = IsBrokenText bytes
IsSaid Number bytes = IsUnfitNumber bytes
IsSaid Long bytes = IsLongWord bytes ⊎ (IsLongSymbol bytes ⊎ IsLongText bytes)

record Reasoned (bytes : List ℕ) (r : Result Lexeme LexKind) : Type 0 where
  said : (kind : LexKind) → r ≡ Err kind → IsSaid kind bytes

no_fault : (bytes : List ℕ) (sort : Sort) (len : ℕ) → Reasoned bytes (lexeme sort len)
no_fault bytes sort len = record { said = λ kind e. absurd (let z : Ok (record { sort = sort; len = len }) ≡ Err kind = e in cc) }

fault_said : (bytes : List ℕ) (kind : LexKind) → IsSaid kind bytes → Reasoned bytes (Err kind)
fault_said bytes kind said = record { said = λ other e. let same : kind ≡ other = (let z : Err kind ≡ Err other = e in cc) in subst (λ (k : LexKind). IsSaid k bytes) same said }

choice : (bytes : List ℕ) (b : Bool) (x y : Result Lexeme LexKind) → (b ≡ true → Reasoned bytes x) → (b ≡ false → Reasoned bytes y) → Reasoned bytes (cond b x y)
choice bytes b x y f g = cond_both b x y (Reasoned bytes) f g

named_said : (bytes : List ℕ) (kind : TokenKind) (n m : ℕ) → (64 < n → IsSaid Long bytes) → Reasoned bytes (named kind n m)
named_said bytes kind n m said = choice bytes (nat_le n name_limit) (lexeme (Token kind) m) (Err Long) (λ _. no_fault bytes (Token kind) m)
    (λ e. fault_said bytes Long (said (let long : name_limit < n = leb-false n name_limit e in omega arith)))

word_said : (bytes : List ℕ) → 0 < length bytes → begins_name (slice_index bytes 0) ≡ true → Reasoned bytes (word_lexeme bytes)
unfolding word_lexeme
word_said bytes some begins =
    let n = prefix_len is_name_byte bytes in
    let size = word_length bytes is_name_byte in
    let long : 64 < n → IsSaid Long bytes =
    (λ (h : 64 < n). inl (record { word = take n bytes; rest = drop n bytes; first = first_begins begins_name refl (take n bytes) (word_first bytes some begins); all = all_pass is_name_byte bytes; long = omega arith; whole = sym (take-append-drop n bytes) })) in
    let name : Result Lexeme LexKind = named Name n n in
    let other : Result Lexeme LexKind = cond (is_among reserved (take n bytes)) (lexeme (Token Reserved) n) name in
    choice bytes (ends_label (drop n bytes)) (named Label n (n + 1)) (cond (is_among keywords (take n bytes)) (lexeme (Token Keyword) n) other)
    (λ _. named_said bytes Label n (n + 1) long)
    (λ _. choice bytes (is_among keywords (take n bytes)) (lexeme (Token Keyword) n) other (λ _. no_fault bytes (Token Keyword) n)
    (λ _. choice bytes (is_among reserved (take n bytes)) (lexeme (Token Reserved) n) name (λ _. no_fault bytes (Token Reserved) n)
    (λ _. named_said bytes Name n n long)))

symbol_long : (b : ℕ) (bs : List ℕ) → b ≡ 58 → begins_symbol (slice_index bs 0) ≡ true → 64 < prefix_len is_name_byte bs → IsLongSymbol (b ∷ bs)
symbol_long b bs colon begins h =
    let n = prefix_len is_name_byte bs in
    let size = word_length bs is_name_byte in
    record {
      name = take n bs;
      rest = drop n bs;
      first = first_begins begins_symbol refl (take n bs) (ap begins_symbol (get_or-take n bs 0 0 (omega arith)) ∙ begins);
      all = all_pass is_name_byte bs;
      long = omega arith;
      whole = ap (λ (x : ℕ). x ∷ bs) colon ∙ ap (λ (xs : List ℕ). 58 ∷ xs) (sym (take-append-drop n bs));
    }

symbol_said : (bytes : List ℕ) → 0 < length bytes → slice_index bytes 0 ≡ 58 → Reasoned bytes (symbol_lexeme bytes)
unfolding symbol_lexeme
symbol_said [] some colon = absurd (omega arith)
symbol_said (b ∷ bs) some colon =
    let n = prefix_len is_name_byte bs in
    choice (b ∷ bs) (begins_symbol (slice_index bs 0)) (named Symbol n (n + 1)) (Err NoToken)
    (λ e. named_said (b ∷ bs) Symbol n (n + 1) (λ h. inr (inl (symbol_long b bs colon e h))))
    (λ _. fault_said (b ∷ bs) NoToken tt)

number_said : (bytes : List ℕ) → 0 < whole_len bytes → Reasoned bytes (number_lexeme bytes)
number_said bytes some =
    let n = whole_len bytes in
    let m = whole_len bytes + 1 + part_len bytes in
    subst (Reasoned bytes) (sym (number_is bytes (has_part bytes) refl))
    (choice bytes (has_part bytes) (decimal_of m (take m bytes)) (whole_of n (take n bytes))
    (λ f. choice bytes (decimal_fits (take m bytes)) (lexeme (Token Decimal) m) (Err Number) (λ _. no_fault bytes (Token Decimal) m)
    (λ g. fault_said bytes Number (refused_unfit bytes some (number_is bytes true f ∙ passed_by (decimal_fits (take m bytes)) (lexeme (Token Decimal) m) (Err Number) g))))
    (λ f. choice bytes (whole_fits n (take n bytes)) (lexeme (Token Whole) n) (Err Number) (λ _. no_fault bytes (Token Whole) n)
    (λ g. fault_said bytes Number (refused_unfit bytes some (number_is bytes false f ∙ passed_by (whole_fits n (take n bytes)) (lexeme (Token Whole) n) (Err Number) g)))))

text_of_said : (quote : ℕ) (left : List ℕ) (o : Option Body) → (quote ≡ 34) ⊎ (quote ≡ 39) → body_of quote left ≡ o → Reasoned (quote ∷ left) (text_of o)
text_of_said quote left None opens e = fault_said (quote ∷ left) BadText (unread_broken quote left opens e)
text_of_said quote left (Some body) opens e =
    choice (quote ∷ left) (nat_le (length body.value) 4096) (lexeme (Token Text) (1 + body.len)) (Err Long) (λ _. no_fault (quote ∷ left) (Token Text) (1 + body.len))
    (λ h. fault_said (quote ∷ left) Long (inr (inr (long_text (leb-false (length body.value) 4096 h))))) where
      unread : IsBrokenText (quote ∷ left) → ⊥
      unread b =
          let first : b.quote ≡ quote = sym (ap (λ (xs : List ℕ). slice_index xs 0) b.whole) in
          let rest : left ≡ concat b.units ++ b.rest = ap (λ (xs : List ℕ). drop 1 xs) b.whole in
          let none : body_of quote left ≡ None =
          ap (λ (q : ℕ). body_of q left) (sym first) ∙ (ap (body_of b.quote) rest ∙ broken_none b.quote b.units b.rest b.opens b.are_units b.broken) in
          let z : Some body ≡ None = sym e ∙ none in
          cc

      long_text : 4096 < length body.value → IsLongText (quote ∷ left)
      long_text h =
          let u = some_units quote left body e in
          let counted = u.counted in
          record {
            quote = quote;
            units = u.units;
            rest = u.rest;
            opens = opens;
            are_units = u.are_units;
            long = omega arith;
            whole = ap (λ (xs : List ℕ). quote ∷ xs) u.whole;
            sound = λ (b : IsBrokenText (quote ∷ left)). unread b;
          }

text_said : (bytes : List ℕ) → (slice_index bytes 0 ≡ 34) ⊎ (slice_index bytes 0 ≡ 39) → Reasoned bytes (text_lexeme bytes)
unfolding text_lexeme
text_said [] opens = absurd (⊎_elim (λ (h : 0 ≡ 34). omega arith) (λ (h : 0 ≡ 39). omega arith) opens)
text_said (quote ∷ left) opens = text_of_said quote left (body_of quote left) opens refl

operator_said : (bytes : List ℕ) → Reasoned bytes (operator_lexeme bytes)
unfolding operator_lexeme
operator_said bytes = go (first_start operators bytes) where
  go : (o : Option ℕ) → Reasoned bytes (operator_of o)
  go None = fault_said bytes NoToken tt
  go (Some n) = no_fault bytes (Token Operator) n

lexeme_said : (first : ℕ) (bytes : List ℕ) → 0 < length bytes → slice_index bytes 0 ≡ first → Reasoned bytes (lexeme_by first bytes)
unfolding lexeme_by comment_lexeme
lexeme_said first bytes some at =
    let quoted : Result Lexeme LexKind = cond (eqb first 34 || eqb first 39) (text_lexeme bytes) (operator_lexeme bytes) in
    let symbol : Result Lexeme LexKind = cond (eqb first 58) (symbol_lexeme bytes) quoted in
    let number : Result Lexeme LexKind = cond (is_ascii_digit first) (number_lexeme bytes) symbol in
    let word : Result Lexeme LexKind = cond (begins_name first) (word_lexeme bytes) number in
    let semicolon : Result Lexeme LexKind = cond (eqb first 59) (lexeme (Token Newline) 1) word in
    let comment : Result Lexeme LexKind = cond (eqb first 35) (comment_lexeme bytes) semicolon in
    let line : Result Lexeme LexKind = cond (eqb first 10) (lexeme Line 1) comment in
    choice bytes (is_blank first) (lexeme Blank 1) line (λ _. no_fault bytes Blank 1)
    (λ _. choice bytes (eqb first 10) (lexeme Line 1) comment (λ _. no_fault bytes Line 1)
    (λ _. choice bytes (eqb first 35) (comment_lexeme bytes) semicolon (λ _. no_fault bytes Comment (prefix_len (λ b. not (eqb b 10)) bytes))
    (λ _. choice bytes (eqb first 59) (lexeme (Token Newline) 1) word (λ _. no_fault bytes (Token Newline) 1)
    (λ _. choice bytes (begins_name first) (word_lexeme bytes) number (λ e. word_said bytes some (ap begins_name at ∙ e))
    (λ _. choice bytes (is_ascii_digit first) (number_lexeme bytes) symbol (λ e. number_said bytes (prefix_some is_ascii_digit bytes some (ap is_ascii_digit at ∙ e)))
    (λ _. choice bytes (eqb first 58) (symbol_lexeme bytes) quoted (λ e. symbol_said bytes some (at ∙ eqb-true first 58 e))
    (λ _. choice bytes (eqb first 34 || eqb first 39) (text_lexeme bytes) (operator_lexeme bytes)
    (λ e. text_said bytes (⊎_elim (λ q. inl (at ∙ eqb-true first 34 q)) (λ q. inr (at ∙ eqb-true first 39 q)) (or_cases (eqb first 34) (eqb first 39) e)))
    (λ _. operator_said bytes))))))))

said : (bytes : List ℕ) (kind : LexKind) → 0 < length bytes → lexeme_of bytes ≡ Err kind → IsSaid kind bytes
said bytes kind some e = (lexeme_said (slice_index bytes 0) bytes some refl).said kind e

-- A reason has its fault

first_there : (p : ℕ → Bool) → p 0 ≡ false → (bytes : List ℕ) → p (slice_index bytes 0) ≡ true → 0 < length bytes
first_there p end [] e = absurd (true≢false (sym e ∙ end))
first_there p end (b ∷ bs) e = omega arith

unfit_fault : (bytes : List ℕ) → IsUnfitNumber bytes → lexeme_of bytes ≡ Err Number
unfit_fault bytes u =
    let digit = number_first u.len bytes u.number in
    let some : 0 < length bytes = first_there is_ascii_digit refl bytes digit in
    number_branch bytes digit ∙ unfit_refused bytes (prefix_some is_ascii_digit bytes some digit) u

no_token : (bytes : List ℕ) → 0 < length bytes → lexeme_of bytes ≡ Err NoToken → IsNoToken bytes
no_token bytes some e = record {
  not_broken = λ (r : IsBrokenText bytes). let z : Err BadText ≡ Err NoToken = sym (broken_fault bytes r) ∙ e in cc;
  no_long_word = λ (r : IsLongWord bytes). let z : Err Long ≡ Err NoToken = sym (long_word_fault bytes r) ∙ e in cc;
  no_long_symbol = λ (r : IsLongSymbol bytes). let z : Err Long ≡ Err NoToken = sym (long_symbol_fault bytes r) ∙ e in cc;
  no_long_text = λ (r : IsLongText bytes). let z : Err Long ≡ Err NoToken = sym (long_text_fault bytes r) ∙ e in cc;
  no_unfit_number = λ (r : IsUnfitNumber bytes). let z : Err Number ≡ Err NoToken = sym (unfit_fault bytes r) ∙ e in cc;
  no_token = λ kind len s. subst (Covers len) e (ahead kind len bytes s);
}

-- the reason of a fault
pub fault_reason : (bytes : List ℕ) (kind : LexKind) → 0 < length bytes → lexeme_of bytes ≡ Err kind → IsReason kind bytes
fault_reason bytes NoToken some e = no_token bytes some e
fault_reason bytes BadText some e = said bytes BadText some e
fault_reason bytes Number some e = said bytes Number some e
fault_reason bytes Long some e = said bytes Long some e

-- a lexeme that is no token stands where none is awaited, or is a newline
blank_first : (bytes : List ℕ) (p : Lexeme) (b : ℕ) (rest : List ℕ) → 0 < p.len → take p.len bytes ≡ b ∷ rest → slice_index bytes 0 ≡ b
blank_first bytes p b rest some e = sym (get_or-take p.len bytes 0 0 some) ∙ ap (λ (xs : List ℕ). slice_index xs 0) e

not_taken : (bytes : List ℕ) (p : Lexeme) (sort : Sort) → AwaitsToken bytes → IsNoToken bytes → lexeme_of bytes ≡ Ok p → p.sort ≡ sort → IsLexemeForm sort (take p.len bytes) → ⊥
not_taken bytes p Blank a n e sort form =
    true≢false (sym (ap is_blank (blank_first bytes p form.byte [] (lexeme_bounded bytes p a.some e).0 form.alone) ∙ form.blank) ∙ a.no_blank)
not_taken bytes p Comment a n e sort form = a.no_comment (blank_first bytes p 35 form.line (lexeme_bounded bytes p a.some e).0 form.hash)
not_taken bytes p Line a n e sort form =
    n.no_token Newline p.len (record { within = (lexeme_bounded bytes p a.some e).1; form = inl form; single = λ (same : Newline ≡ Label). cc })
not_taken bytes p (Token kind) a n e sort form = n.no_token kind p.len (taken_stands bytes p kind e sort)

no_token_fault : (bytes : List ℕ) → AwaitsToken bytes → IsNoToken bytes → lexeme_of bytes ≡ Err NoToken
no_token_fault bytes a n = go (lexeme_of bytes) refl where
  go : (r : Result Lexeme LexKind) → lexeme_of bytes ≡ r → r ≡ Err NoToken
  go (Ok p) e = absurd (not_taken bytes p p.sort a n e refl (lexeme_formed bytes p a.some e))
  go (Err NoToken) e = refl
  go (Err BadText) e = absurd (n.not_broken (said bytes BadText a.some e))
  go (Err Number) e = absurd (n.no_unfit_number (said bytes Number a.some e))
  go (Err Long) e = absurd (long (said bytes Long a.some e)) where
    long : IsLongWord bytes ⊎ (IsLongSymbol bytes ⊎ IsLongText bytes) → ⊥
    long (inl w) = n.no_long_word w
    long (inr (inl s)) = n.no_long_symbol s
    long (inr (inr t)) = n.no_long_text t

-- the fault of a reason
pub reason_fault : (bytes : List ℕ) (kind : LexKind) → AwaitsToken bytes → IsReason kind bytes → lexeme_of bytes ≡ Err kind
reason_fault bytes NoToken a r = no_token_fault bytes a r
reason_fault bytes BadText a r = broken_fault bytes r
reason_fault bytes Number a r = unfit_fault bytes r
reason_fault bytes Long a (inl w) = long_word_fault bytes w
reason_fault bytes Long a (inr (inl s)) = long_symbol_fault bytes s
reason_fault bytes Long a (inr (inr t)) = long_text_fault bytes t

pub by_reason : (kind : LexKind) → FaultsByReason kind
by_reason kind bytes a = (λ e. fault_reason bytes kind a.some e, λ r. reason_fault bytes kind a r)

-- Tokens of a text

-- no reason stands where a token does
taken_sound : (bytes : List ℕ) (p : Lexeme) (token : TokenKind) → lexeme_of bytes ≡ Ok p → StandsFirst token p.len bytes → (kind : LexKind) → IsReason kind bytes → ⊥
taken_sound bytes p token e s NoToken r = r.no_token token p.len s
taken_sound bytes p token e s BadText r = let z : Err BadText ≡ Ok p = sym (broken_fault bytes r) ∙ e in cc
taken_sound bytes p token e s Number r = let z : Err Number ≡ Ok p = sym (unfit_fault bytes r) ∙ e in cc
taken_sound bytes p token e s Long (inl r) = let z : Err Long ≡ Ok p = sym (long_word_fault bytes r) ∙ e in cc
taken_sound bytes p token e s Long (inr (inl r)) = let z : Err Long ≡ Ok p = sym (long_symbol_fault bytes r) ∙ e in cc
taken_sound bytes p token e s Long (inr (inr r)) = let z : Err Long ≡ Ok p = sym (long_text_fault bytes r) ∙ e in cc

-- what is kept of a lexeme stands at the head
kept_stands : (s : Standing) (bytes : List ℕ) (p : Lexeme) (sort : Sort) (kind : TokenKind) → p.sort ≡ sort → p.len ≤ length bytes → lexeme_of bytes ≡ Ok p → IsLexemeForm sort (take p.len bytes) → kept_kind s sort ≡ Some kind → StandsFirst kind p.len bytes
kept_stands s bytes p Blank kind same within e form k = absurd (let z : None ≡ Some kind = k in cc)
kept_stands s bytes p Comment kind same within e form k = absurd (let z : None ≡ Some kind = k in cc)
kept_stands s bytes p Line kind same within e form k = go (is_dropped s.open_brackets s.goes_on) k where
  go : (t : Bool) → cond t None (Some Newline) ≡ Some kind → StandsFirst kind p.len bytes
  go true f = absurd (let z : None ≡ Some kind = f in cc)
  go false f = let same : Newline ≡ kind = cc in subst (λ (x : TokenKind). StandsFirst x p.len bytes) same (record { within = within; form = inl form; single = λ (z : Newline ≡ Label). cc })
kept_stands s bytes p (Token k) kind same within e form h =
    let own : k ≡ kind = cc in
    subst (λ (x : TokenKind). StandsFirst x p.len bytes) own (taken_stands bytes p k e same)

tokens_taken : (text : List ℕ) (s : Standing) (bytes : List ℕ) (p : Lexeme) (o : Option TokenKind) → bytes ≡ drop s.at text → lexeme_of bytes ≡ Ok p → ((kind : TokenKind) → o ≡ Some kind → StandsFirst kind p.len bytes) → All (IsTaken text) (tokens_of s bytes p.len o)
tokens_taken text s bytes p None left e stands = All-nil (IsTaken text)
tokens_taken text s bytes p (Some kind) left e stands =
    let size : p.len ≡ s.at + p.len - s.at = omega arith in
    let here = stands kind refl in
    All-cons (IsTaken text) (token_of s bytes p.len kind) []
    (record {
      stands = subst (λ (n : ℕ). StandsFirst kind n (drop s.at text)) size (subst (StandsFirst kind p.len) left here);
      longest = λ other len more. subst (λ (n : ℕ). len ≤ n) size (subst (Covers len) (ap lexeme_of (sym left) ∙ e) (ahead other len (drop s.at text) more));
      sound = λ reason r. taken_sound (drop s.at text) p kind (ap lexeme_of (sym left) ∙ e) (subst (StandsFirst kind p.len) left here) reason r;
    })
    (All-nil (IsTaken text))

all_taken : (text : List ℕ) (s : Standing) (bytes : List ℕ) (ps : List Lexeme) (ts : List LexedToken) → bytes ≡ drop s.at text → AreTokens s bytes ps ts → All (IsTaken text) ts
all_taken text s bytes [] ts left h = subst (All (IsTaken text)) (sym h.1) (All-nil (IsTaken text))
all_taken text s bytes (p ∷ ps) ts left h =
    let some : 0 < length bytes = lexeme_there bytes p h.0 in
    let here : All (IsTaken text) (kept s p bytes) =
    tokens_taken text s bytes p (kept_kind s p.sort) left h.0
    (λ kind e. kept_stands s bytes p p.sort kind refl (lexeme_bounded bytes p some h.0).1 h.0 (lexeme_formed bytes p some h.0) e) in
    let rest : All (IsTaken text) h.1.0 =
    all_taken text (after s p bytes) (drop p.len bytes) ps h.1.0 (ap (drop p.len) left ∙ drop-drop p.len s.at text) h.1.2 in
    subst (All (IsTaken text)) (sym h.1.1) (All-append (IsTaken text) (kept s p bytes) h.1.0 here rest)

pub longest_taken : LongestIsTaken
longest_taken text first_line tokens h = all_taken text (opening first_line) text h.lexemes tokens refl h.are_tokens

-- The fault of a text

-- a fault comes where a token is awaited
fault_awaits : (bytes : List ℕ) (kind : LexKind) → 0 < length bytes → lexeme_of bytes ≡ Err kind → AwaitsToken bytes
unfolding lexeme_by comment_lexeme
fault_awaits bytes kind some e = record {
  some = some;
  no_blank = false_from_ne_true (is_blank (slice_index bytes 0)) (λ (h : is_blank (slice_index bytes 0) ≡ true).
      let z : Ok (record { sort = Blank; len = 1 }) ≡ Err kind = sym (chosen (is_blank (slice_index bytes 0)) _ _ h) ∙ e in cc);
  no_comment = λ (h : slice_index bytes 0 ≡ 35).
      let z : Ok (record { sort = Comment; len = prefix_len (λ b. not (eqb b 10)) bytes }) ≡ Err kind = sym (ap (λ (b : ℕ). lexeme_by b bytes) h) ∙ e in cc;
}

refused_there : (text : List ℕ) (first_line : ℕ) (s : Standing) (bytes : List ℕ) (ps : List Lexeme) (line : ℕ) (kind : LexKind) → bytes ≡ drop s.at text → Placed text first_line s → IsFirstFault s bytes ps line kind → IsRefusedAt text first_line line kind (s.at + size_of ps)
refused_there text first_line s bytes [] line kind left placed h =
    subst (IsRefusedAt text first_line line kind) (sym (add-zero s.at))
    (record {
      awaits = subst AwaitsToken left (fault_awaits bytes kind h.0 h.1);
      reason = subst (IsReason kind) left (fault_reason bytes kind h.0 h.1);
      line_there = h.2 ∙ placed.line;
    })
refused_there text first_line s bytes (p ∷ ps) line kind left placed h =
    let some : 0 < length bytes = lexeme_there bytes p h.0 in
    let least = (lexeme_bounded bytes p some h.0).0 in
    let sum : s.at + p.len + size_of ps ≡ s.at + size_of (p ∷ ps) =
    add_assoc s.at p.len (size_of ps) ∙ ap (λ (n : ℕ). s.at + n) (sym (sum_by-cons (λ (x : Lexeme). x.len) p ps)) in
    subst (IsRefusedAt text first_line line kind) sum
    (refused_there text first_line (after s p bytes) (drop p.len bytes) ps line kind (ap (drop p.len) left ∙ drop-drop p.len s.at text)
    (placed_after text first_line s bytes p left least (newlines_of bytes p least h.0 p.sort refl (lexeme_formed bytes p some h.0)) placed) h.1)

pub refused_by_reason : RefusedByReason
refused_by_reason text first_line line kind r =
    subst (IsRefusedAt text first_line line kind) (zero-add (size_of r.lexemes))
    (refused_there text first_line (opening first_line) text r.lexemes line kind refl (record { line = sym (add-zero first_line); before = refl }) r.is_first)
