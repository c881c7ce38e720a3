-- The tokens of a lexed text have what the parser asks of them.
use Rattle.std.proofs.Common.{◌≡◌, ℕ, suc, ◌+◌, ◌≤◌, ◌<◌, Bool, true, true≢false, List, [], ◌∷◌, refl, sym, ap, ◌∙◌, length, slice_range, is_ok, arith}
use Rattle.std.specs.List.{All}
use Rattle.vt_frac.proofs.DecimalForms as decimals
use Rattle.vt_lex.specs.declared.token.Token.{Token}
use Rattle.vt_lex.specs.declared.token.TokenKind.{TokenKind}
use Rattle.vt_lex.specs.declared.token.TokenKind.TheVariants as kinds
use Rattle.vt_lex.specs.Forms.{HasForm, IsFormOf}
use Rattle.vt_lex.specs.Lexing.{Lexes}
use Rattle.vt_lex.specs.Numbers.{decimal_fits}
use Rattle.vt_lex.specs.Places.{AreInOrder}
use Rattle.vt_lex.proofs.Placing.{tokens_in_order}
use Rattle.vt_lex.proofs.Shapes.{tokens_have_forms}
use Rattle.vt_grammar.specs.declared.terminals.Terminal.{Terminal}
use Rattle.vt_grammar.specs.declared.terminals.Terminal.TheVariants as terminals
use Rattle.vt_grammar.specs.Marks.{keywords, operators, spaced, terminal_at, terminal_in, terminal_of}
use Rattle.vt_grammar.specs.Tokens.{AreTokens, IsToken, spelled_in}
use Rattle.vt_grammar.specs.Values.{HasValue}
use Rattle.vt_grammar.proofs.FormedMarks.{is_plain, plain_in, spaced_plain}

-- of a terminal whose bytes say nothing no value is asked
plain_value : (w : Terminal) → is_plain w ≡ true → (bytes : List ℕ) → HasValue w bytes
plain_value terminals.Name e bytes = absurd (true≢false (sym e))
plain_value terminals.Label e bytes = absurd (true≢false (sym e))
plain_value terminals.Symbol e bytes = absurd (true≢false (sym e))
plain_value terminals.Whole e bytes = absurd (true≢false (sym e))
plain_value terminals.Decimal e bytes = absurd (true≢false (sym e))
plain_value terminals.Text e bytes = absurd (true≢false (sym e))
plain_value _ e bytes = tt

terminal_has_value : (kind : TokenKind) (gap tight : Bool) (bytes : List ℕ) → IsFormOf kind bytes → HasValue (terminal_at kind gap tight bytes) bytes
unfolding decimal_fits
terminal_has_value kinds.Newline gap tight bytes form = tt
terminal_has_value kinds.Name gap tight bytes form = tt
terminal_has_value kinds.Label gap tight bytes form = tt
terminal_has_value kinds.Keyword gap tight bytes form = plain_value (terminal_in keywords bytes) (plain_in keywords refl bytes) bytes
terminal_has_value kinds.Reserved gap tight bytes form = tt
terminal_has_value kinds.Symbol gap tight bytes form = tt
terminal_has_value kinds.Whole gap tight bytes form = (form.digits, let most = form.fits in omega (arith, most))
terminal_has_value kinds.Decimal gap tight bytes form =
    ap (λ r. is_ok r) (decimals.decimal-form form.before form.after bytes form.pointed) ∙ form.fits
terminal_has_value kinds.Text gap tight bytes form = form
terminal_has_value kinds.Operator gap tight bytes form =
    plain_value (spaced gap tight (terminal_in operators bytes)) (spaced_plain (terminal_in operators bytes) gap tight (plain_in operators refl bytes)) bytes

token_stands : (text : List ℕ) (t : Token) → HasForm text t → IsToken text t
unfolding spelled_in terminal_of
token_stands text t h = record {
  ordered = let some = h.some in omega (arith, some);
  inside = h.within;
  value = terminal_has_value t.kind t.gap t.tight (slice_range text t.from t.to) h.form;
}

are_tokens : (text : List ℕ) (ts : List Token) → All (HasForm text) ts → AreTokens text ts
are_tokens text [] h = tt
are_tokens text (t ∷ ts) h =
    (token_stands text t (h 0 t (omega arith)), are_tokens text ts (λ k d below. h (suc k) d (omega (arith, below))))

-- the tokens of a lexed text are what the parser wants
pub lexed_are_tokens : (text : List ℕ) (first_line : ℕ) (ts : List Token) → Lexes text first_line ts → AreTokens text ts
lexed_are_tokens text first_line ts h = are_tokens text ts (tokens_have_forms text first_line ts h)

-- there are no more of them than bytes
span : (text : List ℕ) (n : ℕ) (ts : List Token) → All (HasForm text) ts → AreInOrder ts
    → All (λ (t : Token). n ≤ t.from) ts → n ≤ length text → length ts + n ≤ length text
span text n [] forms order after short = omega (arith, short)
span text n (t ∷ ts) forms order after short =
    let form : HasForm text t = forms 0 t (omega arith) in
    let some : t.from < t.to = form.some in
    let within : t.to ≤ length text = form.within in
    let from : n ≤ t.from = after 0 t (omega arith) in
    let rest : length ts + t.to ≤ length text =
    span text t.to ts (λ k d below. forms (suc k) d (omega (arith, below))) order.1 order.0 within in
    omega (arith, some, from, rest)

pub lexed_are_few : (text : List ℕ) (first_line : ℕ) (ts : List Token) → Lexes text first_line ts → length ts ≤ length text
lexed_are_few text first_line ts h =
    let all : length ts + 0 ≤ length text =
    span text 0 ts (tokens_have_forms text first_line ts h) (tokens_in_order text first_line ts h) (λ k d below. omega arith) (omega arith) in
    omega (arith, all)
