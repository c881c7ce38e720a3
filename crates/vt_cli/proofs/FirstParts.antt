-- Cutting a list at the first element that passes a test.
use Rattle.std.proofs.Common.{◌≡◌, ℕ, ◌+◌, ◌-◌, ◌≤◌, ◌<◌, List, [], ◌∷◌, Bool, true, false, cond, not, Option, None, Some, length, take, drop, refl, sym, ap, ◌∙◌, subst, length-drop, true≢false, zero, suc, Bor, arith}
use Rattle.std.specs.List.{filter, onto_first, position, position_or_len, slice_split}
use Rattle.std.proofs.lemmas.Grind.{common_steps}
use Rattle.std.proofs.lemmas.List.Quantifiers.{position-Some}
use Rattle.std.proofs.lemmas.List.Sums.{position_or_len_is, prefix_len-le-length}
use Rattle.std.proofs.lemmas.List.Splits.{slice_split_first}
use Rattle.std.proofs.Math.ListN.{drop_of_length-le}
use Rattle.std.proofs.Math.Seq.{take-length}
use Rattle.vt_lex.specs.Bytes.{is_blank}
use Rattle.vt_cli.specs.Line.{is_word, lines_of, words_of}
use Rattle.vt_cli.specs.private.FirstPart.{BeginsLineWord, word_and_more}

pub tail-whole : (n : ℕ) (xs : List ℕ) → take (length xs - n) (drop n xs) ≡ drop n xs
tail-whole n xs = ap (λ m. take m (drop n xs)) (sym (length-drop n xs)) ∙ take-length (drop n xs)

-- where the first element that passes stands at k, the first part ends there
pub split-at : (p : ℕ → Bool) (xs : List ℕ) (k : ℕ) → position p xs ≡ Some k → slice_split p xs ≡ take k xs ∷ slice_split p (drop (k + 1) xs)
split-at p xs k found =
    let at = position-Some p xs k 0 found in
    let same : position_or_len p xs ≡ k = position_or_len_is p xs k 0 (omega (arith, at.0)) at.2 (λ _. at.1) in
    slice_split_first p xs 0 (subst (λ i. i < length xs) (sym same) at.0) ∙ ap (λ i. take i xs ∷ slice_split p (drop (i + 1) xs)) same

-- where none passes, the list is the one part
split-whole : (p : ℕ → Bool) (xs : List ℕ) → position_or_len p xs ≡ length xs → slice_split p xs ≡ xs ∷ []
split-whole p [] none = refl
split-whole p (x ∷ xs) none = go (p x) none (split-whole p xs)
  where
    go : (b : Bool) → cond (not b) (1 + position_or_len p xs) 0 ≡ length (x ∷ xs) → (position_or_len p xs ≡ length xs → slice_split p xs ≡ xs ∷ [])
        → cond b ([] ∷ slice_split p xs) (onto_first x (slice_split p xs)) ≡ (x ∷ xs) ∷ []
    go true none later = absurd (omega (arith, none))
    go false none later = ap (onto_first x) (later (omega (arith, none)))

none-passes : (p : ℕ → Bool) (xs : List ℕ) → position p xs ≡ None → position_or_len p xs ≡ length xs
none-passes p xs none =
    let short : position_or_len p xs ≤ length xs = prefix_len-le-length (λ x. not (p x)) xs in
    grind (arith, common_steps, none, short)

pub split-none : (p : ℕ → Bool) (xs : List ℕ) → position p xs ≡ None → slice_split p xs ≡ xs ∷ []
split-none p xs none = split-whole p xs (none-passes p xs none)

-- a blank before a line is nothing
words-blank : (b : ℕ) (bs : List ℕ) → is_blank b ≡ true → words_of (b ∷ bs) ≡ words_of bs
words-blank b bs blank = ap (λ t. filter is_word (cond t ([] ∷ slice_split is_blank bs) (onto_first b (slice_split is_blank bs)))) blank

-- blanks before a line are nothing
skip-words : (bs : List ℕ) → words_of (drop (position_or_len (λ byte. not (is_blank byte)) bs) bs) ≡ words_of bs
skip-words [] = refl
skip-words (b ∷ bs) = go (is_blank b) refl (skip-words bs)
  where
    go : (t : Bool) → is_blank b ≡ t → words_of (drop (position_or_len (λ byte. not (is_blank byte)) bs) bs) ≡ words_of bs
        → words_of (drop (cond (not (not t)) (1 + position_or_len (λ byte. not (is_blank byte)) bs) 0) (b ∷ bs)) ≡ words_of (b ∷ bs)
    go true blank later =
        let more : 1 + position_or_len (λ byte. not (is_blank byte)) bs ≡ suc (position_or_len (λ byte. not (is_blank byte)) bs) = omega arith in
        ap (λ n. words_of (drop n (b ∷ bs))) more ∙ later ∙ sym (words-blank b bs blank)
    go false blank later = refl

-- and what follows them begins a word, where there is one
skip-begins : (bs : List ℕ) → BeginsLineWord (drop (position_or_len (λ byte. not (is_blank byte)) bs) bs)
skip-begins [] = tt
skip-begins (b ∷ bs) = go (is_blank b) refl (skip-begins bs)
  where
    go : (t : Bool) → is_blank b ≡ t → BeginsLineWord (drop (position_or_len (λ byte. not (is_blank byte)) bs) bs)
        → BeginsLineWord (drop (cond (not (not t)) (1 + position_or_len (λ byte. not (is_blank byte)) bs) 0) (b ∷ bs))
    go true blank later =
        let more : suc (position_or_len (λ byte. not (is_blank byte)) bs) ≡ 1 + position_or_len (λ byte. not (is_blank byte)) bs = omega arith in
        subst (λ n. BeginsLineWord (drop n (b ∷ bs))) more later
    go false blank later = blank

passes-at : (p : ℕ → Bool) (xs : List ℕ) (k : ℕ) → position p xs ≡ Some k → position_or_len p xs ≡ k
passes-at p xs k found =
    let at = position-Some p xs k 0 found in position_or_len_is p xs k 0 (omega (arith, at.0)) at.2 (λ _. at.1)

pub words-skip : (bs : List ℕ) (k : ℕ) → position (λ byte. not (is_blank byte)) bs ≡ Some k → words_of (drop k bs) ≡ words_of bs
words-skip bs k found = ap (λ n. words_of (drop n bs)) (sym (passes-at _ bs k found)) ∙ skip-words bs

pub words-begin : (bs : List ℕ) (k : ℕ) → position (λ byte. not (is_blank byte)) bs ≡ Some k → BeginsLineWord (drop k bs)
words-begin bs k found = subst (λ n. BeginsLineWord (drop n bs)) (passes-at _ bs k found) (skip-begins bs)

pub words-none : (bs : List ℕ) → position (λ byte. not (is_blank byte)) bs ≡ None → words_of bs ≡ []
words-none bs none =
    sym (skip-words bs) ∙ ap words_of (ap (λ n. drop n bs) (none-passes _ bs none) ∙ drop_of_length-le bs (omega arith))

-- the first part is the first word, where there is one
pub words-cut : (k : ℕ) (bs : List ℕ) → BeginsLineWord bs → position is_blank bs ≡ Some k
    → words_of bs ≡ word_and_more (take k bs) (words_of (drop (k + 1) bs))
words-cut k [] begins found = absurd (let at = position-Some is_blank [] k 0 found in omega (arith, at.0))
words-cut zero (b ∷ bs) begins found =
    absurd (let at = position-Some is_blank (b ∷ bs) 0 0 found in true≢false (sym at.1 ∙ begins))
words-cut (suc k) (b ∷ bs) begins found =
    ap (filter is_word) (split-at is_blank (b ∷ bs) (suc k) found)

pub words-last : (bs : List ℕ) → position is_blank bs ≡ None → words_of bs ≡ word_and_more bs []
words-last bs none = ap (filter is_word) (split-none is_blank bs none) ∙ alone bs
  where
    alone : (xs : List ℕ) → filter is_word (xs ∷ []) ≡ word_and_more xs []
    alone [] = refl
    alone (x ∷ xs) = refl

-- the lines of what is left of a text
abbrev pub lines_left : Option (Bor (List ℕ)) → List (List ℕ)
lines_left None = []
lines_left (Some rest) = lines_of rest.now

-- how many lines there can be in what is left of a text
abbrev pub bytes_left : Option (Bor (List ℕ)) → ℕ
bytes_left None = 0
bytes_left (Some rest) = length rest.now + 1
