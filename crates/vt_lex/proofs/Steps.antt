-- The tokens so far and those of what is left.
use Rattle.std.proofs.Common.{◌≡◌, ℕ, ◌+◌, ◌-◌, ◌<◌, ◌≤◌, List, [], ◌∷◌, ◌++◌, length, drop, Ok, Err, refl, sym, ap, ◌∙◌, subst, append_assoc, arith, length-drop}
use Rattle.std.proofs.lemmas.List.{append-nil, drop-drop}
use Rattle.vt_lex.specs.declared.token.Token.{Token}
use Rattle.vt_lex.specs.declared.fault.LexKind.{LexKind}
use Rattle.vt_lex.specs.declared.lexeme.Lexeme.{Lexeme}
use Rattle.vt_lex.specs.Lexemes.{lexeme_of}
use Rattle.vt_lex.specs.Lexing.{Standing, opening, kept, after, AreTokens, IsFirstFault, Lexes, LexRefuses, line_after}
use Rattle.vt_lex.specs.declared.lexeme.Sort.{Sort}
use Rattle.vt_lex.specs.declared.lexeme.Sort.TheVariants.{Blank, Comment, Line, Token as TokenOf}
use Rattle.vt_lex.proofs.Bounds.{lexeme_bounded}

-- what is found from here on follows the tokens so far, and a fault from here on is the text's
pub record Continues (text : List ℕ) (first_line : ℕ) (s : Standing) (bytes : List ℕ) (so_far : List Token) : Type 0 where
  pub tokens : (ps : List Lexeme) (rest : List Token) → AreTokens s bytes ps rest → Lexes text first_line (so_far ++ rest)
  pub fault : (ps : List Lexeme) (line : ℕ) (kind : LexKind) → IsFirstFault s bytes ps line kind → LexRefuses text first_line line kind

pub continues_start : (text : List ℕ) (first_line : ℕ) → Continues text first_line (opening first_line) text []
continues_start text first_line = record {
  tokens = λ ps rest h. record { lexemes = ps; are_tokens = h };
  fault = λ ps line kind h. record { lexemes = ps; is_first = h };
}

pub continues_lexeme : (text : List ℕ) (first_line : ℕ) (s : Standing) (bytes : List ℕ) (so_far : List Token) (p : Lexeme) → Continues text first_line s bytes so_far → lexeme_of bytes ≡ Ok p → Continues text first_line (after s p bytes) (drop p.len bytes) (so_far ++ kept s p bytes)
continues_lexeme text first_line s bytes so_far p c e = record {
  tokens = λ ps rest h.
      subst (λ (ts : List Token). Lexes text first_line ts) (sym (append_assoc so_far (kept s p bytes) rest))
      (c.tokens (p ∷ ps) (kept s p bytes ++ rest) (e, (rest, refl, h)));
  fault = λ ps line kind h. c.fault (p ∷ ps) line kind (e, h);
}

pub continues_end : (text : List ℕ) (first_line : ℕ) (s : Standing) (bytes : List ℕ) (so_far : List Token) → Continues text first_line s bytes so_far → bytes ≡ [] → Lexes text first_line so_far
continues_end text first_line s bytes so_far c e =
    subst (λ (ts : List Token). Lexes text first_line ts) (append-nil so_far) (c.tokens [] [] (e, refl))

pub continues_fault : (text : List ℕ) (first_line : ℕ) (s : Standing) (bytes : List ℕ) (so_far : List Token) (kind : LexKind) → Continues text first_line s bytes so_far → 0 < length bytes → lexeme_of bytes ≡ Err kind → LexRefuses text first_line s.line kind
continues_fault text first_line s bytes so_far kind c some e = c.fault [] s.line kind (some, e, refl)

-- the length of a lexeme at the head of what is left
pub step_bounds : (text : List ℕ) (at : ℕ) (bs : List ℕ) (p : Lexeme) → bs ≡ drop at text → at < length text → Ok p ≡ lexeme_of bs → (0 < p.len) × (p.len ≤ length bs) × (at + p.len ≤ length text)
step_bounds text at bs p left more e =
    let size : length bs ≡ length text - at = ap length left ∙ length-drop at text in
    let bounds = lexeme_bounded bs p (omega arith) (sym e) in
    (bounds.0, bounds.1, omega arith)

pub line_after_most : (line : ℕ) (sort : Sort) → line_after line sort ≤ line + 1
line_after_most line Blank = omega arith
line_after_most line Comment = omega arith
line_after_most line Line = omega arith
line_after_most line (TokenOf kind) = omega arith

pub continues_passed : (text : List ℕ) (first_line : ℕ) (s : Standing) (at : ℕ) (bs : List ℕ) (so_far : List Token) (p : Lexeme) (t : Standing) (to : ℕ) (now : List Token) → Continues text first_line s (drop at text) so_far → bs ≡ drop at text → Ok p ≡ lexeme_of bs → t ≡ after s p bs → to ≡ at + p.len → now ≡ so_far ++ kept s p bs → Continues text first_line t (drop to text) now
continues_passed text first_line s at bs so_far p t to now c left e stands passed tokens =
    let here : Continues text first_line s bs so_far = subst (λ (xs : List ℕ). Continues text first_line s xs so_far) (sym left) c in
    let there = continues_lexeme text first_line s bs so_far p here (sym e) in
    let rest : drop p.len bs ≡ drop to text = ap (drop p.len) left ∙ (drop-drop p.len at text ∙ ap (λ n. drop n text) (sym passed)) in
    let moved : Continues text first_line (after s p bs) (drop to text) (so_far ++ kept s p bs) =
    subst (λ (xs : List ℕ). Continues text first_line (after s p bs) xs (so_far ++ kept s p bs)) rest there in
    let standing : Continues text first_line t (drop to text) (so_far ++ kept s p bs) =
    subst (λ (x : Standing). Continues text first_line x (drop to text) (so_far ++ kept s p bs)) (sym stands) moved in
    subst (λ (ts : List Token). Continues text first_line t (drop to text) ts) (sym tokens) standing

-- at the start
pub continues_new : (text : List ℕ) (first_line : ℕ) (s : Standing) (at : ℕ) (so_far : List Token) → s ≡ opening first_line → at ≡ 0 → so_far ≡ [] → Continues text first_line s (drop at text) so_far
continues_new text first_line s at so_far e f g =
    subst (λ (ts : List Token). Continues text first_line s (drop at text) ts) (sym g)
    (subst (λ (n : ℕ). Continues text first_line s (drop n text) []) (sym f)
    (subst (λ (x : Standing). Continues text first_line x text []) (sym e) (continues_start text first_line)))
