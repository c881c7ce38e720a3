-- One loop more, and one word more.
use Rattle.std.proofs.Common.{◌≡◌, ℕ, zero, suc, ◌+◌, ◌-◌, ◌%◌, List, [], ◌∷◌, ◌++◌, map, refl, sym, ap, ◌∙◌, append_assoc, append-nil, Result, IfOk, arith}
use Rattle.std.specs.List.{flat_map, range_with_len}
use Rattle.std.proofs.lemmas.List.Concat.{flat_map-append}
use Rattle.std.proofs.lemmas.List.FromFn.{map-range_with_len_more}
use Rattle.std.proofs.lemmas.Result.{IfOk-equal}
use Rattle.vt_rand.specs.Word.{word}
use Rattle.vt_gen.specs.Choices.{choices_of}
use Rattle.vt_gen.specs.Session.{as_line, beats_line, loop_lines, session_lines, session_text_of}

five : (t a b c d e : List ℕ) → ((((t ++ a) ++ b) ++ c) ++ d) ++ e ≡ t ++ (a ++ (b ++ (c ++ (d ++ (e ++ [])))))
five t a b c d e = simp (append_assoc, append-nil)

four : (t a b c d : List ℕ) → (((t ++ a) ++ b) ++ c) ++ d ≡ t ++ (a ++ (b ++ (c ++ (d ++ []))))
four t a b c d = simp (append_assoc, append-nil)

-- five lines and four lines, one after another
pub five_written : {T E : Type 0} (r : Result T E) (t t1 t2 t3 t4 t5 a b c d e : List ℕ)
    → t1 ≡ t ++ a → t2 ≡ t1 ++ b → t3 ≡ t2 ++ c → t4 ≡ t3 ++ d → IfOk r (λ _. t5 ≡ t4 ++ e)
    → IfOk r (λ _. t5 ≡ t ++ (a ++ (b ++ (c ++ (d ++ (e ++ []))))))
five_written r t t1 t2 t3 t4 t5 a b c d e h1 h2 h3 h4 h =
    let w2 : t2 ≡ (t ++ a) ++ b = h2 ∙ ap (λ (x : List ℕ). x ++ b) h1 in
    let w3 : t3 ≡ ((t ++ a) ++ b) ++ c = h3 ∙ ap (λ (x : List ℕ). x ++ c) w2 in
    let w4 : t4 ≡ (((t ++ a) ++ b) ++ c) ++ d = h4 ∙ ap (λ (x : List ℕ). x ++ d) w3 in
    IfOk-equal r t5 (t4 ++ e) (t ++ (a ++ (b ++ (c ++ (d ++ (e ++ [])))))) h (ap (λ (x : List ℕ). x ++ e) w4 ∙ five t a b c d e)

pub four_written : {T E : Type 0} (r : Result T E) (t t1 t2 t3 t4 a b c d : List ℕ)
    → t1 ≡ t ++ a → t2 ≡ t1 ++ b → t3 ≡ t2 ++ c → IfOk r (λ _. t4 ≡ t3 ++ d)
    → IfOk r (λ _. t4 ≡ t ++ (a ++ (b ++ (c ++ (d ++ [])))))
four_written r t t1 t2 t3 t4 a b c d h1 h2 h3 h =
    let w2 : t2 ≡ (t ++ a) ++ b = h2 ∙ ap (λ (x : List ℕ). x ++ b) h1 in
    let w3 : t3 ≡ ((t ++ a) ++ b) ++ c = h3 ∙ ap (λ (x : List ℕ). x ++ c) w2 in
    IfOk-equal r t4 (t3 ++ d) (t ++ (a ++ (b ++ (c ++ (d ++ []))))) h (ap (λ (x : List ℕ). x ++ d) w3 ∙ four t a b c d)

range_more : (a n : ℕ) → range_with_len a (suc n) ≡ range_with_len a n ++ (a + n) ∷ []
range_more a zero = let e : a ≡ a + 0 = omega arith in ap (λ (k : ℕ). k ∷ []) e
range_more a (suc n) =
    let e : a + 1 + n ≡ a + suc n = omega arith in
    ap (λ (ks : List ℕ). a ∷ ks) (range_more (a + 1) n ∙ ap (λ (k : ℕ). range_with_len (a + 1) n ++ k ∷ []) e)

-- the lines of one loop more
lines_more : (f : ℕ → List (List ℕ)) (n : ℕ) → flat_map f (range_with_len 1 (n + 1)) ≡ flat_map f (range_with_len 1 n) ++ f (n + 1)
lines_more f n =
    let e : suc n ≡ n + 1 = omega arith in
    let m : 1 + n ≡ n + 1 = omega arith in
    ap (λ (k : ℕ). flat_map f (range_with_len 1 k)) (sym e)
    ∙ ap (flat_map f) (range_more 1 n)
    ∙ flat_map-append f (range_with_len 1 n) ((1 + n) ∷ [])
    ∙ ap (λ (xs : List (List ℕ)). flat_map f (range_with_len 1 n) ++ xs) (append-nil (f (1 + n)) ∙ ap f m)

-- the text with one loop more
pub text_more : (seed n beats w : ℕ) → w ≡ word seed n → session_text_of seed n beats ++ flat_map as_line (loop_lines (n + 1) w) ≡ session_text_of seed (n + 1) beats
unfolding session_text_of
text_more seed n beats w e =
    let f : ℕ → List (List ℕ) = λ (k : ℕ). loop_lines k (word seed (k - 1)) in
    let m : n + 1 - 1 ≡ n = omega arith in
    let l : loop_lines (n + 1) w ≡ f (n + 1) = ap (loop_lines (n + 1)) (e ∙ ap (word seed) (sym m)) in
    ap (λ (ls : List (List ℕ)). flat_map as_line (session_lines seed n beats) ++ flat_map as_line ls) l
    ∙ sym (flat_map-append as_line (session_lines seed n beats) (f (n + 1)))
    ∙ ap (λ (ls : List (List ℕ)). flat_map as_line (beats_line beats ∷ ls)) (sym (lines_more f n))

-- the text without a loop
pub text_none : (seed beats : ℕ) → [] ++ as_line (beats_line beats) ≡ session_text_of seed 0 beats
unfolding session_text_of
text_none seed beats = sym (append-nil (as_line (beats_line beats)))

-- one choice more
pub choices_more : (seed n workers w : ℕ) → w ≡ word seed n → choices_of seed n workers ++ (w % workers) ∷ [] ≡ choices_of seed (n + 1) workers
unfolding choices_of
choices_more seed n workers w e =
    ap (λ (k : ℕ). map (λ (i : ℕ). word seed i % workers) (range_with_len 0 n) ++ (k % workers) ∷ []) e
    ∙ sym (map-range_with_len_more (λ (i : ℕ). word seed i % workers) 0 n n (omega arith))

pub choices_none : (seed workers : ℕ) → [] ≡ choices_of seed 0 workers
unfolding choices_of
choices_none seed workers = refl
