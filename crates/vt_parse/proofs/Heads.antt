-- What stands first in the tokens of a parser.
use Rattle.std.proofs.Common.{◌≡◌, ◌≤◌, ◌<◌, ℕ, suc, cond, List, [], ◌∷◌, length, slice_index_or, slice_range, Some, None, ◌-◌, refl, sym, ap, arith}
use Rattle.std.proofs.lemmas.List.{take_all}
use Rattle.vt_lex.specs.declared.token.Token.{Token}
use Rattle.vt_grammar.specs.Marks.{Mark, marked, mark_of, number_with, terminal_of, terminal_at, begins_block}
use Rattle.vt_grammar.specs.Tokens.{AreTokens, spelled, spelled_in}
use Rattle.vt_parse.specs.private.Parses.{peeked, peeked_line, peeked_second}
use Rattle.vt_grammar.specs.Values.{HasValue}

pub head_line : (n : ℕ) (text : List ℕ) (ts : List Token) (d : Token) → 1 ≤ length ts → Some (slice_index_or ts 0 d).line ≡ peeked_line (marked n (spelled text ts))
unfolding mark_of spelled_in
head_line n text [] d h = absurd (omega (arith, h))
head_line n text (t ∷ ts) d h = refl

pub head_terminal : (n : ℕ) (text : List ℕ) (ts : List Token) (d : Token) → 1 ≤ length ts
    → Some (let t = slice_index_or ts 0 d in terminal_at t.kind t.gap t.tight (slice_range text t.from t.to)) ≡ peeked (marked n (spelled text ts))
unfolding mark_of spelled_in terminal_of
head_terminal n text [] d h = absurd (omega (arith, h))
head_terminal n text (t ∷ ts) d h = refl

pub head_rest : (n : ℕ) (text : List ℕ) (ts : List Token) (d : Token) → 1 ≤ length ts
    → let t = slice_index_or ts 0 d in
    let bytes = slice_range text t.from t.to in
    let w = terminal_at t.kind t.gap t.tight bytes in
    let number = cond (begins_block w) (suc n) n in
    let head : Mark = record { terminal = w; line = t.line; gap = t.gap; bytes = bytes; number = number } in
    marked n (spelled text ts) ≡ head ∷ marked number (spelled text (slice_range ts 1 (length ts)))
unfolding mark_of spelled_in terminal_of number_with
head_rest n text [] d h = absurd (omega (arith, h))
head_rest n text (t ∷ ts) d h =
    let w = terminal_at t.kind t.gap t.tight (slice_range text t.from t.to) in
    let number = cond (begins_block w) (suc n) n in
    let head : Mark = record { terminal = w; line = t.line; gap = t.gap; bytes = slice_range text t.from t.to; number = number } in
    ap (λ z. head ∷ marked number (spelled text z)) (sym (take_all (length (t ∷ ts) - 1) ts (omega arith)))

pub head_value : (text : List ℕ) (ts : List Token) (d : Token) → 1 ≤ length ts → AreTokens text ts
    → let t = slice_index_or ts 0 d in HasValue (terminal_at t.kind t.gap t.tight (slice_range text t.from t.to)) (slice_range text t.from t.to)
unfolding spelled_in terminal_of
head_value text [] d h all = absurd (omega (arith, h))
head_value text (t ∷ ts) d h all = all.0.value

pub head_second : (n : ℕ) (text : List ℕ) (ts : List Token) (d : Token) → 2 ≤ length ts
    → Some (let t = slice_index_or ts 1 d in (t.gap, terminal_at t.kind t.gap t.tight (slice_range text t.from t.to))) ≡ peeked_second (marked n (spelled text ts))
unfolding mark_of spelled_in terminal_of
head_second n text [] d h = absurd (omega (arith, h))
head_second n text (t ∷ []) d h = absurd (omega (arith, h))
head_second n text (t ∷ u ∷ ts) d h = refl

pub head_no_second : (n : ℕ) (text : List ℕ) (ts : List Token) → length ts < 2 → None ≡ peeked_second (marked n (spelled text ts))
head_no_second n text [] h = refl
head_no_second n text (t ∷ []) h = refl
head_no_second n text (t ∷ u ∷ ts) h = absurd (omega (arith, h))
