-- The lines of bytes.
use Rattle.std.proofs.Common.{◌≡◌, ℕ, suc, ◌+◌, ◌<◌, ◌≤◌, Bool, true, false, not, List, [], ◌∷◌, length, take, drop, cond, eqb, refl, sym, ap, ◌∙◌, arith}
use Rattle.std.proofs.lemmas.List.{drop_all, take_all}
use Rattle.std.specs.List.{concat, prefix_len}
use Rattle.vt_session.specs.Laws.{NothingIsLost}
use Rattle.vt_session.specs.Lines.{is_newline, lines_of, with_byte}

-- the test by which the first newline is found
abbrev pub is_on_line : ℕ → Bool
is_on_line byte = not (is_newline byte)

abbrev pub on_line_len : List ℕ → ℕ
on_line_len bytes = prefix_len is_on_line bytes

concat_with_byte : (byte : ℕ) (lines : List (List ℕ)) → concat (with_byte byte lines) ≡ byte ∷ concat lines
concat_with_byte byte [] = refl
concat_with_byte byte (line ∷ lines) = refl

lost_by : (byte : ℕ) (bytes : List ℕ) (lines : List (List ℕ)) (t : Bool) → concat lines ≡ bytes → concat (cond t ((byte ∷ []) ∷ lines) (with_byte byte lines)) ≡ byte ∷ bytes
lost_by byte bytes lines true e = ap (λ (xs : List ℕ). byte ∷ xs) e
lost_by byte bytes lines false e = concat_with_byte byte lines ∙ ap (λ (xs : List ℕ). byte ∷ xs) e

pub nothing_lost : NothingIsLost
unfolding lines_of
nothing_lost [] = refl
nothing_lost (byte ∷ bytes) = lost_by byte bytes (lines_of bytes) (eqb byte 10) (nothing_lost bytes)

count_with_byte : (byte : ℕ) (lines : List (List ℕ)) → length (with_byte byte lines) ≤ suc (length lines)
count_with_byte byte [] = omega arith
count_with_byte byte (line ∷ lines) = omega arith

count_by : (byte n : ℕ) (lines : List (List ℕ)) (t : Bool) → length lines ≤ n → length (cond t ((byte ∷ []) ∷ lines) (with_byte byte lines)) ≤ suc n
count_by byte n lines true h = omega arith
count_by byte n lines false h = omega (arith, count_with_byte byte lines)

-- there are no more lines than bytes
pub lines_count : (bytes : List ℕ) → length (lines_of bytes) ≤ length bytes
unfolding lines_of
lines_count [] = omega arith
lines_count (byte ∷ bytes) = count_by byte (length bytes) (lines_of bytes) (eqb byte 10) (lines_count bytes)

-- the first line ends behind the first newline
pub first_ended : (bytes : List ℕ) → on_line_len bytes < length bytes → lines_of bytes ≡ take (suc (on_line_len bytes)) bytes ∷ lines_of (drop (suc (on_line_len bytes)) bytes)
unfolding lines_of
first_ended [] short = absurd (omega arith)
first_ended (byte ∷ bytes) short = go (eqb byte 10) (first_ended bytes) short where
  go : (t : Bool) → (on_line_len bytes < length bytes → lines_of bytes ≡ take (suc (on_line_len bytes)) bytes ∷ lines_of (drop (suc (on_line_len bytes)) bytes))
      → cond (not t) (1 + on_line_len bytes) 0 < length (byte ∷ bytes)
      → cond t ((byte ∷ []) ∷ lines_of bytes) (with_byte byte (lines_of bytes)) ≡ take (suc (cond (not t) (1 + on_line_len bytes) 0)) (byte ∷ bytes) ∷ lines_of (drop (suc (cond (not t) (1 + on_line_len bytes) 0)) (byte ∷ bytes))
  go true more within = refl
  go false more within =
      let rest = more (omega arith) in
      let one : 1 + on_line_len bytes ≡ suc (on_line_len bytes) = omega arith in
      ap (with_byte byte) rest
      ∙ ap (λ (n : ℕ). (byte ∷ take n bytes) ∷ lines_of (drop n bytes)) (sym one)

open_by : (byte : ℕ) (bytes : List ℕ) (t : Bool) → (on_line_len bytes ≡ length bytes → lines_of bytes ≡ bytes ∷ []) → cond (not t) (1 + on_line_len bytes) 0 ≡ length (byte ∷ bytes) → cond t ((byte ∷ []) ∷ lines_of bytes) (with_byte byte (lines_of bytes)) ≡ (byte ∷ bytes) ∷ []
open_by byte bytes true more f = absurd (let z : 0 ≡ suc (length bytes) = f in omega arith)
open_by byte bytes false more f = ap (with_byte byte) (more (omega (arith, f)))

-- or with the bytes
pub first_open : (bytes : List ℕ) → 0 < length bytes → on_line_len bytes ≡ length bytes → lines_of bytes ≡ bytes ∷ []
unfolding lines_of
first_open [] some e = absurd (omega arith)
first_open (byte ∷ []) some e = go (eqb byte 10) e where
  go : (t : Bool) → cond (not t) (1 + 0) 0 ≡ 1 → cond t ((byte ∷ []) ∷ []) ((byte ∷ []) ∷ []) ≡ (byte ∷ []) ∷ []
  go true f = absurd (let z : 0 ≡ 1 = f in omega arith)
  go false f = refl
first_open (byte ∷ other ∷ bytes) some e = open_by byte (other ∷ bytes) (eqb byte 10) (first_open (other ∷ bytes) (omega arith)) e

pub split_ended : (bytes line rest : List ℕ) (len : ℕ) → len ≡ on_line_len bytes → len < length bytes → line ≡ take (len + 1) bytes → rest ≡ drop (len + 1) bytes → lines_of bytes ≡ line ∷ lines_of rest
split_ended bytes line rest len e short front back =
    let one : suc (on_line_len bytes) ≡ len + 1 = omega (arith, e) in
    first_ended bytes (omega (arith, e))
    ∙ (ap (λ (n : ℕ). take n bytes ∷ lines_of (drop n bytes)) one
    ∙ (ap (λ (xs : List ℕ). xs ∷ lines_of (drop (len + 1) bytes)) (sym front)
    ∙ ap (λ (xs : List ℕ). line ∷ lines_of xs) (sym back)))

no_lines : lines_of [] ≡ []
unfolding lines_of
no_lines = refl

pub split_open : (bytes line rest : List ℕ) (len : ℕ) → len ≡ on_line_len bytes → length bytes ≤ len → len ≤ length bytes → 0 < length bytes → line ≡ take len bytes → rest ≡ drop len bytes → lines_of bytes ≡ line ∷ lines_of rest
split_open bytes line rest len e over within some front back =
    let none : rest ≡ [] = back ∙ drop_all len bytes over in
    first_open bytes some (omega (arith, e))
    ∙ (ap (λ (xs : List ℕ). xs ∷ []) (sym (front ∙ take_all len bytes over))
    ∙ ap (λ (ls : List (List ℕ)). line ∷ ls) (sym (ap lines_of none ∙ no_lines)))
