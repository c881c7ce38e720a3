-- The score of a piece is in order: each action stands behind the one before it.
use Rattle.std.proofs.Common.{◌≡◌, ◌⊎◌, inl, inr, ℕ, zero, suc, ◌+◌, ◌*◌, ◌^◌, ◌<◌, ℤ, pos, ◌+ℤ◌, ◌*ℤ◌, List, [], ◌∷◌, ◌++◌, Bool, true, false, cond, Option, None, Some, Result, Ok, Err, IfOk, map, count_by, length, position, refl, sym, ap, ◌∙◌, subst, arith, unsigned_abs, nat_lt, ◌&&◌}
use Rattle.std.specs.List.{AllByRecursion, before_first, after_first}
use Rattle.std.specs.List.Sorted.{IsStrictlySortedBy}
use Rattle.std.specs.Str.{bytes_eq}
use Rattle.std.proofs.lemmas.Bool.{ltb-true}
use Rattle.std.proofs.lemmas.Int.{ints}
use Rattle.std.proofs.Math.Nat.{mul-pos}
use borrow.Author.Differences.{same_in}
use lib.IntN.{+ℤ_idr}
use Rattle.std.specs.declared.cmp.Ordering.TheVariants.{Less}
use Rattle.std.specs.Prelude.{codes}
use Rattle.vt_frac.specs.Fraction.{Fraction, IsFraction, fits, over}
use Rattle.vt_frac.specs.Arithmetic.{sum_of}
use Rattle.vt_frac.specs.Decimal.{are_digits, decimal_of, digits_value, fitted_decimal, is_dot, pointed_decimal, whole_decimal}
use Rattle.vt_frac.specs.Order.{order_of}
use Rattle.vt_frac.specs.OrderLaws.{down-times, up-times}
use Rattle.vt_frac.specs.declared.fault.DecimalFault.{DecimalFault}
use Rattle.vt_frac.specs.declared.fault.DecimalFault.TheVariants.{Long, Overflow as DecimalOverflow}
use Rattle.vt_frac.proofs.FractionLemmas.{over-lowest, over-positive, over-self, over_same}
use Rattle.vt_frac.specs.Divisor.{gcd}
use Rattle.vt_frac.proofs.SumLemmas.{sum-rises}
use Rattle.vt_value.specs.declared.fault.FaultKind.TheVariants.{Overflow}
use Rattle.vt_event.specs.Event.{EventView}
use Rattle.vt_event.specs.EventsByKind.{fault_event}
use Rattle.vt_event.specs.declared.place.Place.{Place}
use Rattle.vt_event.specs.declared.score.Score.{Score}
use Rattle.vt_event.specs.Order.{IsBefore}
use Rattle.vt_event.specs.OrderLaws.{place_total}
use Rattle.vt_event.specs.Score.{IsInOrder}
use Rattle.vt_event.proofs.Order.{before-place}
use Rattle.vt_cli.specs.declared.line.Line.{Line}
use Rattle.vt_cli.specs.declared.line.Line.TheVariants.{Nothing, Play, Sleep, Refused}
use Rattle.vt_cli.specs.declared.piece.NextTime.{NextTime}
use Rattle.vt_cli.specs.declared.piece.NextTime.TheVariants.{Before, AtOrPast, Unfit}
use Rattle.vt_cli.specs.Line.{line_of, lines_of, said, said_by_words, sleep_of, play_of, words_of}
use Rattle.vt_cli.specs.Piece.{asleep_until, ended, horizon, is_action, is_below, is_refused, line_score, next_time_of, note_event, place_after, place_at, preceded, rest_score, score_after, score_of, score_of_lines, score_unless_refused, time_after}
use Rattle.vt_cli.proofs.Pieces.{steps-more, time-more}

-- Rests

-- a rest is at least 0
record IsRest (amount : Fraction) : Type 0 where
  size : ℕ
  numer_is : amount.numer ≡ pos size
  positive : 0 < amount.denom

rest_over : (n d : ℕ) → IsRest (over (pos n) d)
unfolding over
rest_over n zero = record { size = 0; numer_is = refl; positive = omega arith }
rest_over n (suc d) = record { size = _; numer_is = refl; positive = over-positive (pos n) (suc d) (omega arith) }

fitted_rest : (f : Fraction) → IsRest f → IfOk (fitted_decimal f) IsRest
fitted_rest f h = go (fits f)
  where
    go : (b : Bool) → IfOk (let r : Result Fraction DecimalFault = cond b (Ok f) (Err DecimalOverflow) in r) IsRest
    go true = h
    go false = tt

long_or : (b : Bool) (r : Result Fraction DecimalFault) (fault : DecimalFault) → IfOk r IsRest → IfOk (cond b (Err fault) r) IsRest
long_or true r fault h = tt
long_or false r fault h = h

either : (b : Bool) (r s : Result Fraction DecimalFault) → IfOk r IsRest → IfOk s IsRest → IfOk (cond b r s) IsRest
either true r s h k = h
either false r s h k = k

whole_rest : (digits : List ℕ) → IfOk (whole_decimal digits) IsRest
unfolding whole_decimal
whole_rest digits = long_or (nat_lt 19 (length digits)) _ Long (fitted_rest (over (pos (digits_value digits)) 1) (rest_over (digits_value digits) 1))

pointed_rest : (before after : List ℕ) → IfOk (pointed_decimal before after) IsRest
unfolding pointed_decimal
pointed_rest before after =
    long_or (nat_lt 18 (length before)) _ Long (long_or (nat_lt 18 (length after)) _ Long
    (fitted_rest (over (pos (digits_value before * 10 ^ length after + digits_value after)) (10 ^ length after))
    (rest_over (digits_value before * 10 ^ length after + digits_value after) (10 ^ length after))))

decimal_rest : (bytes : List ℕ) → IfOk (decimal_of bytes) IsRest
unfolding decimal_of
decimal_rest bytes =
    either (are_digits bytes) _ _ (whole_rest bytes)
    (either (are_digits (before_first is_dot bytes) && are_digits (after_first is_dot bytes)) _ _ (pointed_rest (before_first is_dot bytes) (after_first is_dot bytes)) tt)

-- the rest of a line, if it is one, is at least 0
abbrev IsRestLine : Line → Type 0
IsRestLine Nothing = Unit {0}
IsRestLine (Play note) = Unit {0}
IsRestLine (Sleep amount) = IsRest amount
IsRestLine Refused = Unit {0}

play_line : (r : Result Fraction DecimalFault) → IsRestLine (play_of r)
play_line (Ok note) = tt
play_line (Err e) = tt

sleep_line : (r : Result Fraction DecimalFault) → IfOk r IsRest → IsRestLine (sleep_of r)
sleep_line (Ok amount) h = h
sleep_line (Err e) h = tt

one_of : (b : Bool) (l m : Line) → IsRestLine l → IsRestLine m → IsRestLine (cond b l m)
one_of true l m h k = h
one_of false l m h k = k

said_line : (verb operand : List ℕ) → IsRestLine (said verb operand)
said_line verb operand =
    one_of (bytes_eq verb (codes "play") && are_digits operand) _ _ (play_line (decimal_of operand))
    (one_of (bytes_eq verb (codes "sleep")) _ Refused (sleep_line (decimal_of operand) (decimal_rest operand)) tt)

words_line : (words : List (List ℕ)) → IsRestLine (said_by_words words)
words_line [] = tt
words_line (verb ∷ []) = tt
words_line (verb ∷ operand ∷ []) = said_line verb operand
words_line (verb ∷ operand ∷ other ∷ more) = tt

rest_line : (line : List ℕ) → IsRestLine (line_of line)
unfolding line_of
rest_line line = words_line (words_of line)

rest_lines : (lines : List (List ℕ)) → AllByRecursion IsRestLine (map line_of lines)
rest_lines [] = tt
rest_lines (line ∷ lines) = (rest_line line, rest_lines lines)

-- Times

parts_fit : (f : Fraction) → gcd (unsigned_abs f.numer) f.denom ≡ 1 → 0 < f.denom → fits f ≡ true → IsFraction f
unfolding fits
parts_fit f lowest positive e =
    let both = and_true (nat_lt (unsigned_abs f.numer) (2 ^ 63)) (nat_lt f.denom (2 ^ 63)) e in
    record { lowest = lowest; positive = positive; numer_fits = ltb-true (unsigned_abs f.numer) (2 ^ 63) both.0; denom_fits = ltb-true f.denom (2 ^ 63) both.1 }
  where
    and_true : (a b : Bool) → a && b ≡ true → (a ≡ true) × (b ≡ true)
    and_true true b e = (refl, e)
    and_true false b e = absurd (let z : false ≡ true = e in cc)

fits_before : (time later : Fraction) → next_time_of time ≡ Before later → fits time ≡ true
unfolding next_time_of
fits_before time later e = go (fits time) (is_below time horizon) e
  where
    go : (fit before : Bool) → cond fit (cond before (Before time) (AtOrPast time)) Unfit ≡ Before later → fit ≡ true
    go true before h = refl
    go false before h = absurd (let wrong : Unfit ≡ Before later = h in cc)

-- a sum with nothing stays
sum_stays : (a b : Fraction) → IsFraction a → 0 < b.denom → b.numer ≡ pos 0 → sum_of a b ≡ a
unfolding sum_of
sum_stays a b p q h =
    let some : 0 < a.denom * b.denom = mul-pos p.positive q in
    let none : 0 * a.denom ≡ 0 = omega arith in
    let above : a.numer *ℤ pos b.denom +ℤ b.numer *ℤ pos a.denom ≡ a.numer *ℤ pos b.denom = ap (λ (z : ℤ). a.numer *ℤ pos b.denom +ℤ z *ℤ pos a.denom) h ∙ ap (λ (k : ℕ). a.numer *ℤ pos b.denom +ℤ pos k) none ∙ +ℤ_idr (a.numer *ℤ pos b.denom) in
    let crossed : (a.numer *ℤ pos b.denom) *ℤ pos a.denom ≡ a.numer *ℤ pos (a.denom * b.denom) =
    same_in ((a.numer *ℤ pos b.denom) *ℤ pos a.denom) (a.numer *ℤ pos (a.denom * b.denom))
    (omega (arith, up-times (a.numer *ℤ pos b.denom) a.denom, down-times (a.numer *ℤ pos b.denom) a.denom, ap (λ n. n * a.denom) (up-times a.numer b.denom), ap (λ n. n * a.denom) (down-times a.numer b.denom), up-times a.numer (a.denom * b.denom), down-times a.numer (a.denom * b.denom))) in
    rw above (over_same (a.numer *ℤ pos b.denom) a.numer (a.denom * b.denom) a.denom some p.positive crossed ∙ over-self a p)

-- a sum with a rest is no earlier
later_sum : (time amount : Fraction) (size : ℕ) → IsFraction time → 0 < amount.denom → amount.numer ≡ pos size → (sum_of time amount ≡ time) ⊎ (order_of time (sum_of time amount) ≡ Less)
later_sum time amount zero fraction positive e = inl (sum_stays time amount fraction positive e)
later_sum time amount (suc size) fraction positive e = inr (sum-rises time amount fraction.positive positive (rw e (omega (arith, ints))))

no_earlier : (time amount : Fraction) → IsFraction time → IsRest amount → (sum_of time amount ≡ time) ⊎ (order_of time (sum_of time amount) ≡ Less)
no_earlier time amount fraction rest = later_sum time amount rest.size fraction rest.positive rest.numer_is

sum_fraction : (time amount : Fraction) → IsFraction time → IsRest amount → fits (sum_of time amount) ≡ true → IsFraction (sum_of time amount)
unfolding sum_of
sum_fraction time amount fraction rest e =
    let some : 0 < time.denom * amount.denom = mul-pos fraction.positive rest.positive in
    fraction_of (over (time.numer *ℤ pos amount.denom +ℤ amount.numer *ℤ pos time.denom) (time.denom * amount.denom))
    (over-lowest _ (time.denom * amount.denom) some) (over-positive _ (time.denom * amount.denom) some) e
  where
    fraction_of : (f : Fraction) → gcd (unsigned_abs f.numer) f.denom ≡ 1 → 0 < f.denom → fits f ≡ true → IsFraction f
    fraction_of f lowest positive e = parts_fit f lowest positive e

-- Places

-- where the last action before this stands
abbrev floor_of : List Line → Place
floor_of before = place_at (time_after before) (count_by is_action before)

further : (time later : Fraction) (step : ℕ) → (later ≡ time) ⊎ (order_of time later ≡ Less) → IsBefore (place_at time step) (place_at later (step + 1))
further time later step (inl same) = before-place (place_at time step) (place_at later (step + 1)) (inr (sym same, inr (refl, inr (refl, omega arith))))
further time later step (inr less) = before-place (place_at time step) (place_at later (step + 1)) (inl less)

-- a score in order, all of whose events stand behind a place
record IsBehind (floor : Place) (score : Score) : Type 0 where
  above : AllByRecursion (λ p. IsBefore floor p) (map (λ event. event.place) score.events)
  order : IsInOrder score

all_lower : (floor place : Place) (places : List Place) → IsBefore floor place → AllByRecursion (λ p. IsBefore place p) places → AllByRecursion (λ p. IsBefore floor p) places
all_lower floor place [] h k = tt
all_lower floor place (p ∷ places) h k = (place_total.trans floor place p h k.0, all_lower floor place places h k.1)

lower : (floor place : Place) (score : Score) → IsBefore floor place → IsBehind place score → IsBehind floor score
lower floor place score h k = record { above = all_lower floor place _ h k.above; order = k.order }

first : (floor : Place) (event : EventView) (later : Score) → IsBefore floor event.place → IsBehind event.place later → IsBehind floor (preceded (event ∷ []) later)
unfolding IsStrictlySortedBy
first floor event later h k = record {
  above = (h, all_lower floor event.place _ h k.above);
  order = record { events = (k.above, k.order.events); living = k.order.living };
}

none_after : (floor : Place) → IsBehind floor ended
unfolding IsStrictlySortedBy
none_after floor = record { above = tt; order = record { events = tt; living = tt } }

asleep_after : (floor : Place) (time : Fraction) → IsBehind floor (asleep_until time)
unfolding IsStrictlySortedBy
asleep_after floor time = record { above = tt; order = record { events = tt; living = (tt, tt) } }

-- Lines

-- what stands before a silent line stands before what follows it
silent : (before : List Line) (line : Line) (later : Score) → time_after (before ++ line ∷ []) ≡ time_after before
    → count_by is_action (before ++ line ∷ []) ≡ count_by is_action before → IsBehind (floor_of (before ++ line ∷ [])) later → IsBehind (floor_of before) later
silent before line later t n h = subst (λ p. IsBehind p later) (ap (λ x. place_at x (count_by is_action (before ++ line ∷ []))) t ∙ ap (place_at (time_after before)) n) h

rested : (before : List Line) (amount : Fraction) (next : NextTime) (later : Score) → next_time_of (sum_of (time_after before) amount) ≡ next → IsRest amount → IsFraction (time_after before)
    → (IsFraction (sum_of (time_after before) amount) → IsBehind (place_at (sum_of (time_after before) amount) (count_by is_action before + 1)) later)
    → IsBehind (floor_of before) (rest_score before next later)
unfolding place_after
rested before amount (Before time) later e rest fraction h =
    lower (floor_of before) (place_at (sum_of (time_after before) amount) (count_by is_action before + 1)) later
    (further (time_after before) (sum_of (time_after before) amount) (count_by is_action before) (no_earlier (time_after before) amount fraction rest))
    (h (sum_fraction (time_after before) amount fraction rest (fits_before (sum_of (time_after before) amount) time e)))
rested before amount (AtOrPast time) later e rest fraction h = asleep_after (floor_of before) time
rested before amount Unfit later e rest fraction h =
    first (floor_of before) (fault_event (place_at (time_after before) (count_by is_action before + 1)) Overflow (length before + 1)) ended
    (further (time_after before) (time_after before) (count_by is_action before) (inl refl)) (none_after _)

line_behind : (before : List Line) (line : Line) (later : Score) → IsRestLine line → IsFraction (time_after before)
    → (IsFraction (time_after (before ++ line ∷ [])) → IsBehind (floor_of (before ++ line ∷ [])) later) → IsBehind (floor_of before) (line_score before line later)
unfolding place_after
line_behind before Nothing later rest fraction h =
    let t : time_after (before ++ Nothing ∷ []) ≡ time_after before = time-more before Nothing in
    silent before Nothing later t (steps-more before Nothing ∙ omega arith) (h (subst IsFraction (sym t) fraction))
line_behind before (Play note) later rest fraction h =
    let t : time_after (before ++ Play note ∷ []) ≡ time_after before = time-more before (Play note) in
    first (floor_of before) (note_event (place_at (time_after before) (count_by is_action before + 1)) note.number) later
    (further (time_after before) (time_after before) (count_by is_action before) (inl refl))
    (subst (λ p. IsBehind p later) (ap (λ x. place_at x (count_by is_action (before ++ Play note ∷ []))) t ∙ ap (place_at (time_after before)) (steps-more before (Play note)))
    (h (subst IsFraction (sym t) fraction)))
line_behind before (Sleep amount) later rest fraction h =
    let t : time_after (before ++ Sleep amount ∷ []) ≡ sum_of (time_after before) amount = time-more before (Sleep amount) in
    rested before amount (next_time_of (sum_of (time_after before) amount)) later refl rest fraction
    (λ sum. subst (λ p. IsBehind p later) (ap (λ x. place_at x (count_by is_action (before ++ Sleep amount ∷ []))) t ∙ ap (place_at (sum_of (time_after before) amount)) (steps-more before (Sleep amount)))
    (h (subst IsFraction (sym t) sum)))
line_behind before Refused later rest fraction h =
    let t : time_after (before ++ Refused ∷ []) ≡ time_after before = time-more before Refused in
    silent before Refused later t (steps-more before Refused ∙ omega arith) (h (subst IsFraction (sym t) fraction))

lines_behind : (before lines : List Line) → AllByRecursion IsRestLine lines → IsFraction (time_after before) → IsBehind (floor_of before) (score_after before lines)
lines_behind before [] rests fraction = none_after (floor_of before)
lines_behind before (line ∷ lines) rests fraction =
    line_behind before line (score_after (before ++ line ∷ []) lines) rests.0 fraction (lines_behind (before ++ line ∷ []) lines rests.1)

zero_fraction : IsFraction (time_after [])
unfolding time_after gcd
zero_fraction = record { lowest = refl; positive = omega arith; numer_fits = ltb-true 0 (2 ^ 63) refl; denom_fits = ltb-true 1 (2 ^ 63) refl }

unless_refused : (refused : Option ℕ) (lines : List Line) → AllByRecursion IsRestLine lines → IsInOrder (score_unless_refused refused lines)
unfolding IsStrictlySortedBy
unless_refused None lines rests = (lines_behind [] lines rests zero_fraction).order
unless_refused (Some index) lines rests = record { events = (tt, tt); living = tt }

pub in_order : (text : List ℕ) → IsInOrder (score_of text)
unfolding score_of score_of_lines
in_order text = unless_refused (position is_refused (map line_of (lines_of text))) (map line_of (lines_of text)) (rest_lines (lines_of text))
