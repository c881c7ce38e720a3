-- What stands at the head of the bytes is no shorter than any token that stands there.
use Rattle.std.proofs.Common.{◌≡◌, ℕ, ◌+◌, ◌<◌, ◌≤◌, Bool, true, false, not, ◌&&◌, nat_le, nat_lt, List, [], ◌∷◌, ◌++◌, length, take, drop, slice_index, Option, Some, None, Result, Ok, Err, cond, eqb, refl, sym, ap, ◌∙◌, subst, inl, inr, ⊎_elim, arith, length-append, append_assoc}
use Rattle.std.specs.Prelude.{IsTrue, nat_eq}
use Rattle.std.specs.List.{prefix_len, list_all, starts_with}
use Rattle.std.specs.Str.{bytes_eq}
use lib.Pointwise.{bytes_decides}
use Rattle.std.proofs.Math.Seq.{drop-append-add}
use Rattle.std.specs.Char.{is_ascii_digit}
use Rattle.std.proofs.lemmas.Bool.{cond_both, ltb-true, lt-ltb, and_parts, and_from, ne_eqb, or_cases, false≢true}
use Rattle.std.proofs.lemmas.List.{drop_at, get_or_at, length-take-le}
use Rattle.vt_frac.specs.Decimal.{IsDecimal, are_digits}
use Rattle.vt_frac.specs.Names.{begins_symbol, is_name_byte, is_among, keywords, reserved}
use Rattle.vt_lex.specs.declared.token.TokenKind.{TokenKind}
use Rattle.vt_lex.specs.declared.token.TokenKind.TheVariants.{Name, Label, Keyword, Reserved, Symbol, Whole, Decimal}
use Rattle.vt_lex.specs.declared.fault.LexKind.{LexKind}
use Rattle.vt_lex.specs.declared.fault.LexKind.TheVariants.{Byte as NoToken, Text as BadText, Number, Long}
use Rattle.vt_lex.specs.declared.lexeme.Sort.TheVariants.{Token}
use Rattle.vt_lex.specs.declared.lexeme.Lexeme.{Lexeme}
use Rattle.vt_lex.specs.Lexicon.{first_start, operators}
use Rattle.vt_lex.specs.Numbers.{whole_fits, decimal_fits}
use Rattle.vt_lex.specs.Lexemes.{lexeme, name_limit, named, ends_label, word_of, word_lexeme, symbol_lexeme, whole_of, decimal_of, number_lexeme, operator_of, operator_lexeme}
use Rattle.vt_lex.proofs.Branches.{chosen, all_within, all_up_to, split_at}
use Rattle.vt_lex.proofs.Longest.{longest_operator}

-- a lexeme of so many bytes or more, or a fault other than that no token stands there
abbrev pub Covers : ℕ → Result Lexeme LexKind → Type 0
Covers len (Ok p) = len ≤ p.len
Covers len (Err NoToken) = ⊥
Covers len (Err BadText) = Unit {0}
Covers len (Err Number) = Unit {0}
Covers len (Err Long) = Unit {0}

named_covers : (len : ℕ) (kind : TokenKind) (n m : ℕ) → len ≤ m → Covers len (named kind n m)
named_covers len kind n m h = cond_both (nat_le n name_limit) (lexeme (Token kind) m) (Err Long) (Covers len) (λ _. h) (λ _. tt)

word_of_covers : (len n : ℕ) (word rest : List ℕ) → len ≤ n → Covers len (word_of n word rest)
word_of_covers len n word rest h =
    let name : Result Lexeme LexKind = named Name n n in
    let other : Result Lexeme LexKind = cond (is_among reserved word) (lexeme (Token Reserved) n) name in
    cond_both (ends_label rest) (named Label n (n + 1)) (cond (is_among keywords word) (lexeme (Token Keyword) n) other) (Covers len)
    (λ _. named_covers len Label n (n + 1) (omega arith))
    (λ _. cond_both (is_among keywords word) (lexeme (Token Keyword) n) other (Covers len) (λ _. h)
    (λ _. cond_both (is_among reserved word) (lexeme (Token Reserved) n) name (Covers len) (λ _. h) (λ _. named_covers len Name n n h)))

pub word_is : (bytes : List ℕ) (n : ℕ) → prefix_len is_name_byte bytes ≡ n → word_lexeme bytes ≡ word_of n (take n bytes) (drop n bytes)
unfolding word_lexeme
word_is bytes n e = ap (λ (k : ℕ). word_of k (take k bytes) (drop k bytes)) e

-- a word stands there
pub word_covers : (word rest : List ℕ) → list_all is_name_byte word ≡ true → Covers (length word) (word_lexeme (word ++ rest))
word_covers word rest all =
    let bytes : List ℕ = word ++ rest in
    let n = prefix_len is_name_byte bytes in
    subst (Covers (length word)) (sym (word_is bytes n refl)) (word_of_covers (length word) n (take n bytes) (drop n bytes) (all_within is_name_byte word rest all))

-- a label stands there
pub label_covers : (name rest : List ℕ) → list_all is_name_byte name ≡ true → (slice_index rest 0 ≡ 58 → ⊥) → Covers (length name + 1) (word_lexeme (name ++ 58 ∷ rest))
label_covers name rest all single =
    let bytes : List ℕ = name ++ 58 ∷ rest in
    let n = length name in
    let ends : ends_label (drop n bytes) ≡ true =
    ap ends_label (drop_at name (58 ∷ rest) n refl) ∙ ap not (ne_eqb (slice_index rest 0) 58 single) in
    subst (Covers (n + 1)) (sym (word_is bytes n (all_up_to is_name_byte name 58 rest all refl) ∙ chosen (ends_label (drop n bytes)) _ _ ends))
    (named_covers (n + 1) Label n (n + 1) (omega arith))

pub symbol_first : (name rest : List ℕ) → begins_symbol (slice_index name 0) ≡ true → slice_index (name ++ rest) 0 ≡ slice_index name 0
symbol_first [] rest e = absurd (false≢true e)
symbol_first (b ∷ bs) rest e = refl

-- a symbol stands there
pub symbol_covers : (name rest : List ℕ) → begins_symbol (slice_index name 0) ≡ true → list_all is_name_byte name ≡ true → Covers (1 + length name) (symbol_lexeme (58 ∷ name ++ rest))
unfolding symbol_lexeme
symbol_covers name rest begins all =
    let n = prefix_len is_name_byte (name ++ rest) in
    let within = all_within is_name_byte name rest all in
    subst (Covers (1 + length name))
    (sym (chosen (begins_symbol (slice_index (name ++ rest) 0)) (named Symbol n (n + 1)) (Err NoToken) (ap begins_symbol (symbol_first name rest begins) ∙ begins)))
    (named_covers (1 + length name) Symbol n (n + 1) (omega arith))

start_missed : (bytes f : List ℕ) (fs : List (List ℕ)) (len : ℕ) (b : Bool) → len ≤ length bytes → starts_with nat_eq bytes f ≡ b → cond b (Some (length f)) (first_start fs bytes) ≡ None → is_among (f ∷ fs) (take len bytes) ≡ true → (first_start fs bytes ≡ None → is_among fs (take len bytes) ≡ true → ⊥) → ⊥
start_missed bytes f fs len true within s e h later = let z : Some (length f) ≡ None = e in cc
start_missed bytes f fs len false within s e h later =
    ⊎_elim
    (λ (here : bytes_eq f (take len bytes) ≡ true).
    let form : f ≡ take len bytes = (bytes_decides f (take len bytes)).0 here in
    let size : length f ≡ len = ap length form ∙ length-take-le len bytes within in
    let own : f ≡ take (length f) bytes = form ∙ ap (λ (k : ℕ). take k bytes) (sym size) in
    false≢true (sym s ∙ (bytes_decides f (take (length f) bytes)).1 own))
    (λ (there : is_among fs (take len bytes) ≡ true). later e there)
    (or_cases (bytes_eq f (take len bytes)) (is_among fs (take len bytes)) h)

none_missed : (forms : List (List ℕ)) (bytes : List ℕ) (len : ℕ) → len ≤ length bytes → first_start forms bytes ≡ None → is_among forms (take len bytes) ≡ true → ⊥
none_missed [] bytes len within e h = false≢true h
none_missed (f ∷ fs) bytes len within e h = start_missed bytes f fs len (starts_with nat_eq bytes f) within refl e h (none_missed fs bytes len within)

-- an operator stands there
pub operator_covers : (bytes : List ℕ) (len : ℕ) → len ≤ length bytes → is_among operators (take len bytes) ≡ true → Covers len (operator_lexeme bytes)
unfolding operator_lexeme
operator_covers bytes len within e = go (first_start operators bytes) refl where
  go : (o : Option ℕ) → first_start operators bytes ≡ o → Covers len (operator_of o)
  go (Some n) f = longest_operator bytes n len f within e
  go None f = none_missed operators bytes len within f e

-- Numbers

-- how many digits stand there, and behind the byte that follows them
abbrev pub whole_len : List ℕ → ℕ
whole_len bytes = prefix_len is_ascii_digit bytes

abbrev pub part_len : List ℕ → ℕ
part_len bytes = prefix_len is_ascii_digit (drop (whole_len bytes + 1) bytes)

abbrev pub has_part : List ℕ → Bool
has_part bytes = eqb (slice_index bytes (whole_len bytes)) 46 && nat_lt 0 (part_len bytes)

-- how many bytes the longest number has that stands there
abbrev pub reach : List ℕ → ℕ
reach bytes = cond (has_part bytes) (whole_len bytes + 1 + part_len bytes) (whole_len bytes)

reach_least : (bytes : List ℕ) → whole_len bytes ≤ reach bytes
reach_least bytes = cond_both (has_part bytes) (whole_len bytes + 1 + part_len bytes) (whole_len bytes) (λ (n : ℕ). whole_len bytes ≤ n) (λ _. omega arith) (λ _. omega arith)

decimal_covers : (len n : ℕ) (form : List ℕ) → len ≤ n → Covers len (decimal_of n form)
decimal_covers len n form h = cond_both (decimal_fits form) (lexeme (Token Decimal) n) (Err Number) (Covers len) (λ _. h) (λ _. tt)

whole_covers : (len n : ℕ) (form : List ℕ) → len ≤ n → Covers len (whole_of n form)
whole_covers len n form h = cond_both (whole_fits n form) (lexeme (Token Whole) n) (Err Number) (Covers len) (λ _. h) (λ _. tt)

-- a number of at most so many bytes stands there
pub number_covers : (bytes : List ℕ) (len : ℕ) → len ≤ reach bytes → Covers len (number_lexeme bytes)
unfolding number_lexeme
number_covers bytes len h = go (whole_len bytes) (whole_len bytes + 1 + part_len bytes) (has_part bytes) h where
  go : (n m : ℕ) (b : Bool) → len ≤ cond b m n → Covers len (cond b (decimal_of m (take m bytes)) (whole_of n (take n bytes)))
  go n m true g = decimal_covers len m (take m bytes) g
  go n m false g = whole_covers len n (take n bytes) g

pub are_all : (ds : List ℕ) → IsTrue (are_digits ds) → (0 < length ds) × (list_all is_ascii_digit ds ≡ true)
are_all ds h = let parts = and_parts (nat_lt 0 (length ds)) (list_all is_ascii_digit ds) h in (ltb-true 0 (length ds) parts.0, parts.1)

-- `before.after` is reached to its end
pointed_reached : (before after rest : List ℕ) → IsTrue (are_digits before) → IsTrue (are_digits after) → length before + 1 + length after ≤ reach (before ++ 46 ∷ (after ++ rest))
pointed_reached before after rest b a =
    let bytes : List ℕ = before ++ 46 ∷ (after ++ rest) in
    let first = are_all before b in
    let second = are_all after a in
    let n : whole_len bytes ≡ length before = all_up_to is_ascii_digit before 46 (after ++ rest) first.1 refl in
    let dot : slice_index bytes (whole_len bytes) ≡ 46 = get_or_at before 46 (after ++ rest) 0 (whole_len bytes) (sym n) in
    let left : drop (whole_len bytes + 1) bytes ≡ after ++ rest =
    ap (λ (k : ℕ). drop (k + 1) bytes) n ∙ drop-append-add before (46 ∷ (after ++ rest)) 1 in
    let part : length after ≤ part_len bytes = subst (λ (xs : List ℕ). length after ≤ prefix_len is_ascii_digit xs) (sym left) (all_within is_ascii_digit after rest second.1) in
    let more = second.0 in
    let has : has_part bytes ≡ true =
    and_from (eqb (slice_index bytes (whole_len bytes)) 46) (nat_lt 0 (part_len bytes)) (ap (λ (k : ℕ). eqb k 46) dot) (lt-ltb 0 (part_len bytes) (omega arith)) in
    subst (λ (k : ℕ). length before + 1 + length after ≤ k) (sym (chosen (has_part bytes) (whole_len bytes + 1 + part_len bytes) (whole_len bytes) has)) (omega arith)

-- digits are reached to their end
digits_reached : (ds rest : List ℕ) → IsTrue (are_digits ds) → length ds ≤ reach (ds ++ rest)
digits_reached ds rest d =
    let within = all_within is_ascii_digit ds rest (are_all ds d).1 in
    let least = reach_least (ds ++ rest) in
    omega arith

-- so is each number
pub number_reached : (bytes : List ℕ) (len : ℕ) → len ≤ length bytes → IsDecimal (take len bytes) → len ≤ reach bytes
number_reached bytes len within (inl digits) =
    let form = take len bytes in
    let size = length-take-le len bytes within in
    subst (λ (bs : List ℕ). len ≤ reach bs) (sym (split_at len bytes form refl))
    (subst (λ (k : ℕ). k ≤ reach (form ++ drop len bytes)) size (digits_reached form (drop len bytes) digits))
number_reached bytes len within (inr (before, (after, form))) =
    let rest = drop len bytes in
    let size : len ≡ length before + 1 + length after = sym (length-take-le len bytes within) ∙ (ap length form.joined ∙ omega (arith, length-append before (46 ∷ after))) in
    let whole : bytes ≡ before ++ 46 ∷ (after ++ rest) = split_at len bytes (before ++ 46 ∷ after) form.joined ∙ append_assoc before (46 ∷ after) rest in
    subst (λ (bs : List ℕ). len ≤ reach bs) (sym whole)
    (subst (λ (k : ℕ). k ≤ reach (before ++ 46 ∷ (after ++ rest))) (sym size) (pointed_reached before after rest form.before_digits form.after_digits))
