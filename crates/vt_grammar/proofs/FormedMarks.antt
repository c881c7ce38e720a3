-- What the bytes of a mark are, by its terminal, and what follows where the token has the form of its kind.
use Rattle.std.proofs.Common.{◌≡◌, ℕ, suc, ◌-◌, ◌≤◌, pos, ◌&&◌, Bool, true, false, true≢false, cond, List, [], ◌∷◌, ◌++◌, Result, Ok, Err, IsTrue, refl, sym, ap, ◌∙◌, subst, length, take, bytes_eq, is_ok, length-append, arith}
use Rattle.std.proofs.lemmas.Int.{ints}
use Rattle.std.specs.List.{AllByRecursion, list_all}
use Rattle.std.specs.Str.Parse.{digits_value}
use Rattle.std.proofs.Math.Seq.{take-append_seam}
use Rattle.vt_frac.specs.declared.fault.DecimalFault.{DecimalFault}
use Rattle.vt_frac.specs.Decimal.{decimal_of}
use Rattle.vt_frac.specs.Fraction.{Fraction}
use Rattle.vt_frac.specs.Names.{IsName, is_label_name}
use Rattle.vt_frac.proofs.DecimalForms as decimals
use Rattle.vt_lex.specs.declared.token.TokenKind.{TokenKind}
use Rattle.vt_lex.specs.declared.token.TokenKind.TheVariants as kinds
use Rattle.vt_lex.specs.Forms.{IsFormOf, IsLabelForm, IsSymbolForm}
use Rattle.vt_lex.specs.Texts.{IsTextForm, value_of, value_of_body}
use Rattle.vt_tree.specs.Forms.{IsLiteral, IsDecimal}
use Rattle.vt_tree.specs.declared.expression.Literal.TheVariants as literals
use Rattle.vt_grammar.specs.declared.terminals.Terminal.{Terminal}
use Rattle.vt_grammar.specs.declared.terminals.Terminal.TheVariants as terminals
use Rattle.vt_grammar.specs.Formed.{IsFormed, AreFormed}
use Rattle.vt_grammar.specs.Marks.{Mark, Spelled, Spelling, keywords, operators, spaced, terminal_at, terminal_in, terminal_of, mark_of, marked, number_with}
use Rattle.vt_grammar.specs.Grammar.{is_literal}
use Rattle.vt_grammar.specs.Values.{label_name, literal_at, fraction_of}

-- the bytes of a name, a label or a literal have its form
abbrev pub GoodTerminal : Terminal → List ℕ → Type 0
GoodTerminal terminals.Name bytes = IsName bytes
GoodTerminal terminals.Label bytes = IsTrue (is_label_name (label_name bytes))
GoodTerminal w bytes = IsLiteral (literal_at w bytes)

pub record IsGood (t : Mark) : Type 0 where
  pub good : GoodTerminal t.terminal t.bytes

abbrev pub AreGood : List Mark → Type 0
AreGood tokens = AllByRecursion IsGood tokens

pub literal_good : (w : Terminal) (bytes : List ℕ) → is_literal w ≡ true → GoodTerminal w bytes → IsLiteral (literal_at w bytes)
literal_good terminals.Name bytes e h = absurd (true≢false (sym e))
literal_good terminals.Label bytes e h = absurd (true≢false (sym e))
literal_good _ bytes e h = h

-- a terminal whose bytes say nothing
abbrev pub is_plain : Terminal → Bool
is_plain terminals.Name = false
is_plain terminals.Label = false
is_plain terminals.Whole = false
is_plain terminals.Decimal = false
is_plain terminals.Text = false
is_plain terminals.Symbol = false
is_plain _ = true

plain_good : (w : Terminal) → is_plain w ≡ true → (bytes : List ℕ) → GoodTerminal w bytes
plain_good terminals.Name e bytes = absurd (true≢false (sym e))
plain_good terminals.Label e bytes = absurd (true≢false (sym e))
plain_good terminals.Whole e bytes = absurd (true≢false (sym e))
plain_good terminals.Decimal e bytes = absurd (true≢false (sym e))
plain_good terminals.Text e bytes = absurd (true≢false (sym e))
plain_good terminals.Symbol e bytes = absurd (true≢false (sym e))
plain_good _ e bytes = tt

pub spaced_plain : (w : Terminal) (gap tight : Bool) → is_plain w ≡ true → is_plain (spaced gap tight w) ≡ true
spaced_plain terminals.CallOpen true true e = refl
spaced_plain terminals.CallOpen true false e = refl
spaced_plain terminals.CallOpen false true e = refl
spaced_plain terminals.CallOpen false false e = refl
spaced_plain _ true true e = e
spaced_plain _ true false e = e
spaced_plain _ false true e = e
spaced_plain _ false false e = e

plain_choice : (w beside : Terminal) (p b : Bool) (rest : Bool) → is_plain w ≡ p → (p && rest) ≡ true → (rest ≡ true → is_plain beside ≡ true) → is_plain (cond b w beside) ≡ true
plain_choice w beside true true rest f h later = f
plain_choice w beside true false rest f h later = later h
plain_choice w beside false b rest f h later = absurd (true≢false (sym h))

pub plain_in : (rows : List Spelling) → list_all (λ row. is_plain row.1) rows ≡ true → (bytes : List ℕ) → is_plain (terminal_in rows bytes) ≡ true
plain_in [] e bytes = refl
plain_in ((spelling, w) ∷ rows) e bytes =
    plain_choice w (terminal_in rows bytes) (is_plain w) (bytes_eq spelling bytes) (list_all (λ row. is_plain row.1) rows) refl e (λ h. plain_in rows h bytes)

-- names

-- a label and a symbol without their colons
label_named : (name : List ℕ) → label_name (name ++ 58 ∷ []) ≡ name
label_named name =
    let e : length (name ++ 58 ∷ []) - 1 ≡ length name = omega (arith, length-append name (58 ∷ [])) in
    ap (λ n. take n (name ++ 58 ∷ [])) e ∙ take-append_seam name (58 ∷ [])

label_good : (bytes : List ℕ) → IsLabelForm bytes → IsTrue (is_label_name (label_name bytes))
label_good bytes h =
    subst (λ n. IsTrue (is_label_name n)) (sym (label_named h.name) ∙ ap (λ b. label_name b) (sym h.colon)) h.form

symbol_good : (bytes : List ℕ) → IsSymbolForm bytes → IsLiteral (literal_at terminals.Symbol bytes)
symbol_good bytes h = subst (λ b. IsLiteral (literal_at terminals.Symbol b)) (sym h.colon) h.form

-- numbers and texts

decimal_good : (bytes : List ℕ) (r : Result Fraction DecimalFault) → decimal_of bytes ≡ r → is_ok r ≡ true → IsDecimal (fraction_of r)
decimal_good bytes (Ok fraction) e h = record { bytes = bytes; written = e }
decimal_good bytes (Err fault) e h = absurd (true≢false (sym h))

text_good : (bytes : List ℕ) → IsTextForm bytes → length (value_of bytes) ≤ 4096
text_good bytes h = subst (λ o. length (value_of_body o) ≤ 4096) (sym h.closes) h.short

terminal_good : (kind : TokenKind) (gap tight : Bool) (bytes : List ℕ) → IsFormOf kind bytes → GoodTerminal (terminal_at kind gap tight bytes) bytes
terminal_good kinds.Newline gap tight bytes form = tt
terminal_good kinds.Name gap tight bytes form = form
terminal_good kinds.Label gap tight bytes form = label_good bytes form
terminal_good kinds.Keyword gap tight bytes form = plain_good (terminal_in keywords bytes) (plain_in keywords refl bytes) bytes
terminal_good kinds.Reserved gap tight bytes form = tt
terminal_good kinds.Symbol gap tight bytes form = symbol_good bytes form
terminal_good kinds.Whole gap tight bytes form = whole_good (digits_value 10 bytes) form.fits
  where
    whole_good : (n : ℕ) → n ≤ 9223372036854775807 → IsLiteral (literals.Whole (pos n))
    whole_good n h = (omega (arith, ints), omega (arith, ints, h))
terminal_good kinds.Decimal gap tight bytes form =
    decimal_good bytes (decimal_of bytes) refl (ap (λ r. is_ok r) (decimals.decimal-form form.before form.after bytes form.pointed) ∙ form.fits)
terminal_good kinds.Text gap tight bytes form = text_good bytes form
terminal_good kinds.Operator gap tight bytes form =
    plain_good (spaced gap tight (terminal_in operators bytes)) (spaced_plain (terminal_in operators bytes) gap tight (plain_in operators refl bytes)) bytes

mark_good : (n : ℕ) (s : Spelled) → IsFormed s → IsGood (mark_of n s)
unfolding mark_of terminal_of
mark_good n s h = record { good = terminal_good s.token.kind s.token.gap s.token.tight s.bytes h }

-- tokens that have the forms of their kinds make good marks
pub marks_good : (n : ℕ) (ss : List Spelled) → AreFormed ss → AreGood (marked n ss)
marks_good n [] h = tt
marks_good n (s ∷ ss) h =
    (mark_good n s (h 0 s (omega arith)), marks_good (number_with n s) ss (λ k d below. h (suc k) d (omega (arith, below))))
