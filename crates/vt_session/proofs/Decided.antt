-- Of each line it can be told what it is behind the lines before it, or that it breaks a rule; and so of all lines.
use Rattle.std.proofs.Common.{◌≡◌, ◌⊎◌, inl, inr, ℕ, zero, suc, ◌+◌, ◌<◌, ◌≤◌, Bool, true, false, not, List, [], ◌∷◌, ◌++◌, length, take, drop, Option, Some, None, All, refl, sym, ap, ◌∙◌, subst, arith, append_assoc, append-nil, true≢false}
use Rattle.std.specs.List.{filter_map, list_all, prefix_len}
use Rattle.std.specs.Ordering.{is_lt}
use Rattle.std.proofs.lemmas.List.Elements.{All-cons, All-head, All-nil, All-tail}
use Rattle.vt_frac.specs.Fraction.{Fraction}
use Rattle.vt_frac.specs.Names.{begins}
use Rattle.vt_frac.specs.Order.{value_order}
use Rattle.vt_frac.proofs.Decision.{Decision, holds, fails, implied, is_nil, is_true, tested, three}
use Rattle.vt_lex.specs.Bytes.{is_blank, is_space}
use Rattle.vt_session.specs.Directives.{Line, PlainLine, VersionLine, AtLine, CueLine, SetLine, StopLine, HasForm, is_percent}
use Rattle.vt_session.specs.Lines.{content_of}
use Rattle.vt_session.specs.Rules.{AreRead, KeepsInputs, KeepsTimes, KeepsVersion, Stands, is_behind_input, is_version_2, time_in}
use Rattle.vt_session.specs.Sessions.{session_of}
use Rattle.vt_session.specs.Verdict.{IsJudged}
use Rattle.vt_session.specs.Words.{AreWords}
use Rattle.vt_session.specs.private.Reading.{AreNoWords, IsNextWord, IsRead, ends_word, told, word_size}
use Rattle.vt_session.proofs.FormLemmas.{form_one, read_none, read_some_cut}
use Rattle.vt_session.proofs.StandingLemmas.{follow_more_lines}
use Rattle.vt_session.proofs.WordLemmas.{all_of_prefix, behind_gap, behind_stops, next_there, none_without_end, none_without_gap, none_without_size, splits_shorter, tail_words, words_of_next}

-- Words

-- the bytes are words, or none
abbrev WordsFound : List ℕ → Type 0
WordsFound bytes = ((words : List (List ℕ)) × AreWords words bytes) ⊎ AreNoWords bytes

words_behind : (word rest bytes : List ℕ) → IsNextWord word rest bytes → WordsFound rest → WordsFound bytes
words_behind word rest bytes n (inl (words, h)) = inl (word ∷ words, words_of_next word rest words bytes n h)
words_behind word rest bytes n (inr none) = inr (λ words h. let o = tail_words word rest bytes words n h in none o.0 o.1)

module _ (bytes : List ℕ) (left : prefix_len is_blank bytes ≡ length bytes → ⊥) (later : (rest : List ℕ) → length rest < length bytes → WordsFound rest) where
  words_ended : (n : ℕ) (t : Bool) → 0 < prefix_len is_blank bytes → word_size (behind_gap bytes) ≡ Some n → ends_word (drop n (behind_gap bytes)) ≡ t → WordsFound bytes
  words_ended n false some size e = inr (none_without_end bytes n size e left)
  words_ended n true some size e =
      let next = next_there bytes n some (behind_stops is_blank bytes) size e in
      words_behind (take n (behind_gap bytes)) (drop n (behind_gap bytes)) bytes next
      (later (drop n (behind_gap bytes)) (splits_shorter bytes (take n (behind_gap bytes)) (drop n (behind_gap bytes)) next))

  words_sized : (o : Option ℕ) → 0 < prefix_len is_blank bytes → word_size (behind_gap bytes) ≡ o → WordsFound bytes
  words_sized None some size = inr (none_without_size bytes size left)
  words_sized (Some n) some size = words_ended n (ends_word (drop n (behind_gap bytes))) some size refl

  words_gapped : (n : ℕ) → prefix_len is_blank bytes ≡ n → WordsFound bytes
  words_gapped zero e = inr (none_without_gap bytes e left)
  words_gapped (suc n) e = words_sized (word_size (behind_gap bytes)) (omega (arith, e)) refl

words_left : (bytes : List ℕ) → list_all is_blank bytes ≡ false → prefix_len is_blank bytes ≡ length bytes → ⊥
words_left bytes some e = true≢false (sym (all_of_prefix is_blank bytes e) ∙ some)

words_blank : (bytes : List ℕ) (t : Bool) → list_all is_blank bytes ≡ t → ((rest : List ℕ) → length rest < length bytes → WordsFound rest) → WordsFound bytes
words_blank bytes true e later = inl ([], e)
words_blank bytes false e later = words_gapped bytes (words_left bytes e) later (prefix_len is_blank bytes) refl

words_by : (n : ℕ) (bytes : List ℕ) → length bytes ≤ n → WordsFound bytes
words_by zero bytes h = words_blank bytes (list_all is_blank bytes) refl (λ rest less. absurd (let none : length rest < 0 = omega (arith, less, h) in omega (arith, none)))
words_by (suc n) bytes h = words_blank bytes (list_all is_blank bytes) refl (λ rest less. words_by n rest (omega (arith, less, h)))

words_found : (bytes : List ℕ) → WordsFound bytes
words_found bytes = words_by (length bytes) bytes (omega arith)

-- What a line is by itself

abbrev FormFound : List ℕ → Type 0
FormFound line = ((what : Line) × HasForm what line) ⊎ ((what : Line) → HasForm what line → ⊥)

form_told : (line : List ℕ) (o : Option Line) → IsRead line o → FormFound line
form_told line None none = inr none
form_told line (Some what) form = inl (what, form)

abbrev is_name_byte : ℕ → Bool
is_name_byte byte = not (is_blank byte)

-- the name of a directive, and what stands behind it
abbrev name_in : List ℕ → List ℕ
name_in line = take (prefix_len is_name_byte (content_of line)) (content_of line)

abbrev rest_in : List ℕ → List ℕ
rest_in line = drop (prefix_len is_name_byte (content_of line)) (content_of line)

directive_found : (line : List ℕ) → begins is_percent line ≡ true → WordsFound (rest_in line) → FormFound line
directive_found line begun (inr none) = inr (read_none line (rest_in line) begun refl none)
directive_found line begun (inl (words, h)) =
    form_told line (told (name_in line) words)
    (read_some_cut line (content_of line) (name_in line) (rest_in line) (prefix_len is_name_byte (content_of line)) refl refl refl refl words (told (name_in line) words) begun h refl)

form_found : (line : List ℕ) → FormFound line
form_found line = go (begins is_percent line) refl where
  go : (t : Bool) → begins is_percent line ≡ t → FormFound line
  go false e = inl (PlainLine line, record { same = refl; plain = e })
  go true e = directive_found line e (words_found (rest_in line))

-- What a line is behind others

is_false : (b : Bool) → Decision (b ≡ false)
is_false true = fails true≢false
is_false false = holds refl

all_decided : (P : Fraction → Type 0) → ((x : Fraction) → Decision (P x)) → (xs : List Fraction) → Decision (All P xs)
all_decided P d [] = holds (All-nil P)
all_decided P d (x ∷ xs) = go (d x) (all_decided P d xs) where
  go : Decision (P x) → Decision (All P xs) → Decision (All P (x ∷ xs))
  go (holds h) (holds all) = holds (All-cons P x xs h all)
  go (holds h) (fails n) = fails (λ all. n (All-tail P x xs all))
  go (fails n) e = fails (λ all. n (All-head P x xs all))

version_kept : (before : List Line) (what : Line) → Decision (KeepsVersion before what)
version_kept before (PlainLine bytes) = holds tt
version_kept before VersionLine = is_nil before
version_kept before (AtLine time) = holds tt
version_kept before (CueLine time path values) = holds tt
version_kept before (SetLine time path value) = is_true (is_version_2 before)
version_kept before (StopLine time name) = is_true (is_version_2 before)

inputs_kept : (before : List Line) (what : Line) → Decision (KeepsInputs before what)
inputs_kept before (PlainLine bytes) = implied (is_true (is_behind_input before)) (is_true (list_all is_space bytes))
inputs_kept before VersionLine = holds tt
inputs_kept before (AtLine time) = holds tt
inputs_kept before (CueLine time path values) = holds tt
inputs_kept before (SetLine time path value) = holds tt
inputs_kept before (StopLine time name) = holds tt

-- no earlier time is above this one
abbrev IsLatest : List Line → Fraction → Type 0
IsLatest before time = All (λ earlier. is_lt (value_order time earlier) ≡ false) (filter_map time_in before)

latest : (before : List Line) (time : Fraction) → Decision (IsLatest before time)
latest before time = all_decided (λ earlier. is_lt (value_order time earlier) ≡ false) (λ earlier. is_false (is_lt (value_order time earlier))) (filter_map time_in before)

times_kept : (before : List Line) (what : Line) → Decision (KeepsTimes before what)
times_kept before what = go (time_in what) refl where
  known : (time : Fraction) → time_in what ≡ Some time → Decision (IsLatest before time) → Decision (KeepsTimes before what)
  known time e (holds all) = holds (λ other f. let z : Some time ≡ Some other = sym e ∙ f in let same : time ≡ other = cc in subst (IsLatest before) same all)
  known time e (fails n) = fails (λ h. n (h time e))

  go : (o : Option Fraction) → time_in what ≡ o → Decision (KeepsTimes before what)
  go None e = holds (λ time f. absurd (let z : None ≡ Some time = sym e ∙ f in cc))
  go (Some time) e = known time e (latest before time)

abbrev StandsFound : List Line → List ℕ → Type 0
StandsFound before line = ((what : Line) × Stands before line what) ⊎ ((what : Line) → Stands before line what → ⊥)

abbrev KeepsAll : List Line → Line → Type 0
KeepsAll before what = KeepsVersion before what × KeepsInputs before what × KeepsTimes before what

stands_by : (before : List Line) (line : List ℕ) (what : Line) → HasForm what line → Decision (KeepsAll before what) → StandsFound before line
stands_by before line what form (holds h) = inl (what, record { form = form; version = h.0; inputs = h.1; times = h.2 })
stands_by before line what form (fails n) =
    inr (λ other s. n (subst (KeepsAll before) (form_one other what line s.form form) (s.version, s.inputs, s.times)))

stands_formed : (before : List Line) (line : List ℕ) → FormFound line → StandsFound before line
stands_formed before line (inr none) = inr (λ what s. none what s.form)
stands_formed before line (inl (what, form)) =
    stands_by before line what form (three (version_kept before what) (inputs_kept before what) (times_kept before what))

stands_found : (before : List Line) (line : List ℕ) → StandsFound before line
stands_found before line = stands_formed before line (form_found line)

-- All lines

line_judged : (lines front : List (List ℕ)) (before : List Line) (line : List ℕ) (rest : List (List ℕ)) → lines ≡ front ++ line ∷ rest → AreRead front before → StandsFound before line
    → ((what : Line) → AreRead (front ++ line ∷ []) (before ++ what ∷ []) → IsJudged lines) → IsJudged lines
line_judged lines front before line rest e read (inl (what, s)) later = later what (follow_more_lines [] front before line what read s)
line_judged lines front before line rest e read (inr none) later = inr (
  length front + 1,
  record { front = front; bad = line; rest = rest; whole = e; place = refl; before = before; good = read; breaks = none },
)

rest_judged : (lines front : List (List ℕ)) (before : List Line) (rest : List (List ℕ)) → lines ≡ front ++ rest → AreRead front before → IsJudged lines
rest_judged lines front before [] e read = inl (
  session_of before,
  record {
    what = before;
    read = subst (λ (ls : List (List ℕ)). AreRead ls before) (sym (append-nil front) ∙ sym e) read;
    whole_session = refl;
  },
)
rest_judged lines front before (line ∷ rest) e read =
    line_judged lines front before line rest e read (stands_found before line)
    (λ what more. rest_judged lines (front ++ line ∷ []) (before ++ what ∷ []) rest (e ∙ sym (append_assoc front (line ∷ []) rest)) more)

-- lines are a session, or one of them is the first that breaks a rule
pub judged : (lines : List (List ℕ)) → IsJudged lines
judged lines = rest_judged lines [] [] lines refl tt
