-- A text has one list of tokens or one first fault.
use Rattle.std.proofs.Common.{◌≡◌, ℕ, zero, suc, ◌<◌, ◌≤◌, List, [], ◌∷◌, ◌++◌, ◌⊎◌, inl, inr, ⊎_elim, length, drop, Result, Ok, Err, refl, sym, ap, ◌∙◌, subst, arith, length-drop}
use Rattle.vt_lex.specs.declared.token.Token.{Token}
use Rattle.vt_lex.specs.declared.fault.LexKind.{LexKind}
use Rattle.vt_lex.specs.declared.lexeme.Lexeme.{Lexeme}
use Rattle.vt_lex.specs.Lexemes.{lexeme_of}
use Rattle.vt_lex.specs.Lexing.{Standing, opening, kept, after, AreTokens, IsFirstFault, Lexes, LexRefuses, HasTokens, IsRefused}
use Rattle.vt_lex.proofs.Bounds.{lexeme_bounded, no_lexeme}

same_lexeme : (bytes : List ℕ) (p q : Lexeme) → lexeme_of bytes ≡ Ok p → lexeme_of bytes ≡ Ok q → p ≡ q
same_lexeme bytes p q e f = let z : Ok p ≡ Ok q = sym e ∙ f in cc

not_both : (bytes : List ℕ) (p : Lexeme) (kind : LexKind) → lexeme_of bytes ≡ Ok p → lexeme_of bytes ≡ Err kind → ⊥
not_both bytes p kind e f = let z : Ok p ≡ Err kind = sym e ∙ f in cc

none_left : (bytes : List ℕ) (p : Lexeme) → bytes ≡ [] → lexeme_of bytes ≡ Ok p → ⊥
none_left bytes p e f = no_lexeme p (ap lexeme_of (sym e) ∙ f)

one_tokens : (s : Standing) (bytes : List ℕ) (ps qs : List Lexeme) (ts us : List Token) → AreTokens s bytes ps ts → AreTokens s bytes qs us → ts ≡ us
one_tokens s bytes [] [] ts us h k = h.1 ∙ sym k.1
one_tokens s bytes [] (q ∷ qs) ts us h k = absurd (none_left bytes q h.0 k.0)
one_tokens s bytes (p ∷ ps) [] ts us h k = absurd (none_left bytes p k.0 h.0)
one_tokens s bytes (p ∷ ps) (q ∷ qs) ts us h k =
    let same : q ≡ p = same_lexeme bytes q p k.0 h.0 in
    let rest : k.1.0 ≡ h.1.0 =
    sym (one_tokens (after s p bytes) (drop p.len bytes) ps qs h.1.0 k.1.0 h.1.2
    (subst (λ (x : Lexeme). AreTokens (after s x bytes) (drop x.len bytes) qs k.1.0) same k.1.2)) in
    h.1.1 ∙ sym (k.1.1 ∙ (ap (λ (x : Lexeme). kept s x bytes ++ k.1.0) same ∙ ap (λ (xs : List Token). kept s p bytes ++ xs) rest))

never_both : (s : Standing) (bytes : List ℕ) (ps qs : List Lexeme) (ts : List Token) (line : ℕ) (kind : LexKind) → AreTokens s bytes ps ts → IsFirstFault s bytes qs line kind → ⊥
never_both s bytes [] [] ts line kind h k = let e = ap length h.0 in omega (arith, e, k.0)
never_both s bytes [] (q ∷ qs) ts line kind h k = none_left bytes q h.0 k.0
never_both s bytes (p ∷ ps) [] ts line kind h k = not_both bytes p kind h.0 k.1
never_both s bytes (p ∷ ps) (q ∷ qs) ts line kind h k =
    let same : q ≡ p = same_lexeme bytes q p k.0 h.0 in
    never_both (after s p bytes) (drop p.len bytes) ps qs h.1.0 line kind h.1.2
    (subst (λ (x : Lexeme). IsFirstFault (after s x bytes) (drop x.len bytes) qs line kind) same k.1)

one_first : (s : Standing) (bytes : List ℕ) (ps qs : List Lexeme) (line other_line : ℕ) (kind other_kind : LexKind) → IsFirstFault s bytes ps line kind → IsFirstFault s bytes qs other_line other_kind → (line ≡ other_line) × (kind ≡ other_kind)
one_first s bytes [] [] line other_line kind other_kind h k =
    (h.2 ∙ sym k.2, let z : Err kind ≡ Err other_kind = sym h.1 ∙ k.1 in cc)
one_first s bytes [] (q ∷ qs) line other_line kind other_kind h k = absurd (not_both bytes q kind k.0 h.1)
one_first s bytes (p ∷ ps) [] line other_line kind other_kind h k = absurd (not_both bytes p other_kind h.0 k.1)
one_first s bytes (p ∷ ps) (q ∷ qs) line other_line kind other_kind h k =
    let same : q ≡ p = same_lexeme bytes q p k.0 h.0 in
    one_first (after s p bytes) (drop p.len bytes) ps qs line other_line kind other_kind h.1
    (subst (λ (x : Lexeme). IsFirstFault (after s x bytes) (drop x.len bytes) qs other_line other_kind) same k.1)

-- the tokens of the bytes, or their first fault
Found : Standing → List ℕ → Type 0
Found s bytes =
    ((ps : List Lexeme) × ((ts : List Token) × AreTokens s bytes ps ts))
    ⊎ ((ps : List Lexeme) × ((line : ℕ) × ((kind : LexKind) × IsFirstFault s bytes ps line kind)))

found_after : (s : Standing) (bytes : List ℕ) (p : Lexeme) → lexeme_of bytes ≡ Ok p → Found (after s p bytes) (drop p.len bytes) → Found s bytes
unfolding Found
found_after s bytes p e (inl f) = inl (p ∷ f.0, (kept s p bytes ++ f.1.0, (e, (f.1.0, refl, f.1.1))))
found_after s bytes p e (inr f) = inr (p ∷ f.0, (f.1.0, (f.1.1.0, (e, f.1.1.1))))

found_at : (s : Standing) (bytes : List ℕ) (r : Result Lexeme LexKind) → 0 < length bytes → lexeme_of bytes ≡ r → ((p : Lexeme) → lexeme_of bytes ≡ Ok p → Found (after s p bytes) (drop p.len bytes)) → Found s bytes
unfolding Found
found_at s bytes (Ok p) some e rest = found_after s bytes p e (rest p e)
found_at s bytes (Err kind) some e rest = inr ([], (s.line, (kind, (some, e, refl))))

found_by : (n : ℕ) (s : Standing) (bytes : List ℕ) → length bytes ≤ n → Found s bytes
unfolding Found
found_by n s [] h = inl ([], ([], (refl, refl)))
found_by zero s (b ∷ bs) h = absurd (omega arith)
found_by (suc n) s (b ∷ bs) h =
    found_at s (b ∷ bs) (lexeme_of (b ∷ bs)) (omega arith) refl
    (λ p e. found_by n (after s p (b ∷ bs)) (drop p.len (b ∷ bs)) (shorter p e)) where
      shorter : (p : Lexeme) → lexeme_of (b ∷ bs) ≡ Ok p → length (drop p.len (b ∷ bs)) ≤ n
      shorter p e = omega (arith, (lexeme_bounded (b ∷ bs) p (omega arith) e).0, length-drop p.len (b ∷ bs))

pub always : (text : List ℕ) (first_line : ℕ) → HasTokens text first_line ⊎ IsRefused text first_line
unfolding Found
always text first_line =
    ⊎_elim
    (λ f. inl record { tokens = f.1.0; lexes = record { lexemes = f.0; are_tokens = f.1.1 } })
    (λ f. inr record { line = f.1.0; kind = f.1.1.0; refuses = record { lexemes = f.0; is_first = f.1.1.1 } })
    (found_by (length text) (opening first_line) text (omega arith))

pub one_list : (text : List ℕ) (first_line : ℕ) (ts us : List Token) → Lexes text first_line ts → Lexes text first_line us → ts ≡ us
one_list text first_line ts us h k = one_tokens (opening first_line) text h.lexemes k.lexemes ts us h.are_tokens k.are_tokens

pub lexed_or_refused : (text : List ℕ) (first_line : ℕ) (ts : List Token) (line : ℕ) (kind : LexKind) → Lexes text first_line ts → LexRefuses text first_line line kind → ⊥
lexed_or_refused text first_line ts line kind h k = never_both (opening first_line) text h.lexemes k.lexemes ts line kind h.are_tokens k.is_first

pub one_fault : (text : List ℕ) (first_line line other_line : ℕ) (kind other_kind : LexKind) → LexRefuses text first_line line kind → LexRefuses text first_line other_line other_kind → (line ≡ other_line) × (kind ≡ other_kind)
one_fault text first_line line other_line kind other_kind h k =
    one_first (opening first_line) text h.lexemes k.lexemes line other_line kind other_kind h.is_first k.is_first
