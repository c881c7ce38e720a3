-- How a piece is played, line by line.
use Rattle.std.proofs.Common.{◌≡◌, ℕ, ◌+◌, ◌≤◌, ◌<◌, pos, List, [], ◌∷◌, ◌++◌, Bool, true, false, cond, None, length, take, drop, get_or, refl, sym, ap, ◌∙◌, subst, count_by, fold, append_assoc, length-take-le, Result, Ok, Err, IfOk, IsOk, arith}
use Rattle.std.specs.List.{cons_option, filter_map}
use Rattle.std.proofs.lemmas.List.{drop_more, take_more}
use Rattle.std.proofs.lemmas.List.Elements.{filter_map-append}
use Rattle.std.proofs.lemmas.List.Sums.{fold-append, sum_by-append}
use Rattle.std.proofs.Math.ListN.{drop_of_length-le}
use Rattle.vt_frac.specs.Fraction.{Fraction, fits, fitted, whole}
use Rattle.vt_frac.specs.declared.fault.FracFault.{FracFault}
use Rattle.vt_frac.specs.declared.fault.FracFault.TheVariants.{Overflow as FracOverflow}
use Rattle.vt_frac.specs.Arithmetic.{sum_of}
use Rattle.vt_event.specs.declared.event.Event.{Event}
use Rattle.vt_event.specs.EventsByKind.{fault_event}
use Rattle.vt_value.specs.declared.fault.FaultKind.TheVariants.{Overflow}
use Rattle.vt_event.specs.declared.score.Score.{Score}
use Rattle.vt_cli.specs.declared.line.Line.{Line}
use Rattle.vt_cli.specs.declared.line.Note.{Note}
use Rattle.vt_cli.specs.declared.line.Line.TheVariants.{Play, Sleep}
use Rattle.vt_cli.specs.declared.piece.NextTime.{NextTime}
use Rattle.vt_cli.specs.declared.piece.NextTime.TheVariants.{Before, AtOrPast, Unfit}
use Rattle.vt_cli.specs.Piece.{asleep_until, ended, horizon, is_action, is_below, next_time_of, line_score, note_event, place_after, place_at, preceded, rest_of, rest_score, score_after, time_after}

-- So far the first i lines of a piece gave these events, and the thread stands at this time with this step next.
pub record Played (lines : List Line) (i : ℕ) (events : List Event) (time : Fraction) (step : ℕ) : Type 0 where
  pub all : score_after [] lines ≡ preceded events (score_after (take i lines) (drop i lines))
  pub time_is : time ≡ time_after (take i lines)
  pub step_is : step ≡ count_by is_action (take i lines) + 1
  pub few : step ≤ i + 1

pub played-none : (lines : List Line) → Played lines 0 [] (whole (pos 0)) 1
unfolding time_after
played-none lines = record { all = refl; time_is = refl; step_is = refl; few = omega arith }

preceded-preceded : (es fs : List Event) (score : Score) → preceded es (preceded fs score) ≡ preceded (es ++ fs) score
preceded-preceded es fs score = ap (λ events. record { events = events; living = score.living }) (sym (append_assoc es fs score.events))

place-is : (before : List Line) (time : Fraction) (step : ℕ) → time ≡ time_after before → step ≡ count_by is_action before + 1 → place_at time step ≡ place_after before
unfolding place_after
place-is before time step t s = ap (λ x. place_at x step) t ∙ ap (place_at (time_after before)) s

-- line i comes next
score-step : (lines : List Line) (i : ℕ) (line : Line) → i < length lines → get_or lines i line ≡ line
    → score_after (take i lines) (drop i lines) ≡ line_score (take i lines) line (score_after (take (i + 1) lines) (drop (i + 1) lines))
score-step lines i line within there =
    ap (score_after (take i lines)) (drop_more lines i line within ∙ ap (λ x. x ∷ drop (i + 1) lines) there)
    ∙ ap (λ before. line_score (take i lines) line (score_after before (drop (i + 1) lines)))
    (sym (take_more lines i line within ∙ ap (λ x. take i lines ++ x ∷ []) there))

prefix-more : (lines : List Line) (i : ℕ) (line : Line) → i < length lines → get_or lines i line ≡ line → take (i + 1) lines ≡ take i lines ++ line ∷ []
prefix-more lines i line within there = take_more lines i line within ∙ ap (λ x. take i lines ++ x ∷ []) there

pub time-more : (before : List Line) (line : Line) → time_after (before ++ line ∷ []) ≡ fold sum_of (time_after before) (filter_map rest_of (line ∷ []))
unfolding time_after
time-more before line =
    ap (fold sum_of (whole (pos 0))) (filter_map-append rest_of before (line ∷ []))
    ∙ fold-append sum_of (whole (pos 0)) (filter_map rest_of before) (filter_map rest_of (line ∷ []))

pub steps-more : (before : List Line) (line : Line) → count_by is_action (before ++ line ∷ []) ≡ count_by is_action before + count_by is_action (line ∷ [])
steps-more before line = sum_by-append (λ x. cond (is_action x) 1 0) before (line ∷ [])

-- the item that stands at i is this line
pub there : (lines : List Line) (i : ℕ) (item line : Line) → item ≡ get_or lines i item → item ≡ line → get_or lines i line ≡ line
there lines i item line stands same = ap (get_or lines i) (sym same) ∙ sym stands ∙ same

steps-same : (step before after one : ℕ) → step ≡ before + 1 → after ≡ before + one → one ≡ 0 → step ≡ after + 1
steps-same step before after one so_far more none = omega (arith, so_far, more, none)

-- a line that is neither a note nor a rest
pub played-silent : (lines : List Line) (i : ℕ) (events : List Event) (time : Fraction) (step : ℕ) (line : Line) → i < length lines → get_or lines i line ≡ line
    → rest_of line ≡ None → is_action line ≡ false → ((before : List Line) (later : Score) → line_score before line later ≡ later)
    → Played lines i events time step → Played lines (i + 1) events time step
played-silent lines i events time step line within at no_rest no_action silent so_far = record {
  all = so_far.all ∙ ap (preceded events) (score-step lines i line within at ∙ silent _ _);
  time_is =
      so_far.time_is
      ∙ sym (ap time_after (prefix-more lines i line within at) ∙ time-more (take i lines) line
      ∙ ap (λ rest. fold sum_of (time_after (take i lines)) (cons_option rest [])) no_rest);
  step_is =
      let single : count_by is_action (line ∷ []) ≡ 0 = ap (λ b. 0 + cond b 1 0) no_action in
      let more : count_by is_action (take (i + 1) lines) ≡ count_by is_action (take i lines) + count_by is_action (line ∷ []) =
      ap (count_by is_action) (prefix-more lines i line within at) ∙ steps-more (take i lines) line in
      steps-same step (count_by is_action (take i lines)) _ _ so_far.step_is more single;
  few = let before : step ≤ i + 1 = so_far.few in omega (arith, before);
}

pub played-note : (lines : List Line) (i : ℕ) (events : List Event) (time : Fraction) (step : ℕ) (note : Note) → i < length lines → get_or lines i (Play note) ≡ Play note
    → Played lines i events time step → Played lines (i + 1) (events ++ note_event (place_at time step) note.number ∷ []) time (step + 1)
played-note lines i events time step note within there so_far = record {
  all =
      so_far.all
      ∙ ap (preceded events) (score-step lines i (Play note) within there)
      ∙ ap (λ place. preceded events (preceded (note_event place note.number ∷ []) (score_after (take (i + 1) lines) (drop (i + 1) lines))))
      (sym (place-is (take i lines) time step so_far.time_is so_far.step_is))
      ∙ preceded-preceded events (note_event (place_at time step) note.number ∷ []) _;
  time_is = so_far.time_is ∙ sym (ap time_after (prefix-more lines i (Play note) within there) ∙ time-more (take i lines) (Play note));
  step_is =
      let more : count_by is_action (take (i + 1) lines) ≡ count_by is_action (take i lines) + 1 =
      ap (count_by is_action) (prefix-more lines i (Play note) within there) ∙ steps-more (take i lines) (Play note) in
      let before : step ≡ count_by is_action (take i lines) + 1 = so_far.step_is in
      omega (arith, more, before);
  few = let before : step ≤ i + 1 = so_far.few in omega (arith, before);
}

time_in : NextTime → Fraction
time_in (Before time) = time
time_in (AtOrPast time) = time
time_in Unfit = whole (pos 0)

before-time : (time later : Fraction) → next_time_of time ≡ Before later → later ≡ time
unfolding next_time_of time_in
before-time time later e = go (fits time) (is_below time horizon) e
  where
    go : (fit before : Bool) → cond fit (cond before (Before time) (AtOrPast time)) Unfit ≡ Before later → later ≡ time
    go true true h = sym (ap time_in h)
    go true false h = absurd (let wrong : AtOrPast time ≡ Before later = h in cc)
    go false before h = absurd (let wrong : Unfit ≡ Before later = h in cc)

rest-step : (lines : List Line) (i : ℕ) (events : List Event) (time : Fraction) (step : ℕ) (amount : Fraction) (next : NextTime) → i < length lines → get_or lines i (Sleep amount) ≡ Sleep amount
    → next_time_of (sum_of time amount) ≡ next → Played lines i events time step
    → score_after [] lines ≡ preceded events (rest_score (take i lines) next (score_after (take (i + 1) lines) (drop (i + 1) lines)))
rest-step lines i events time step amount next within there ends so_far =
    so_far.all
    ∙ ap (preceded events) (score-step lines i (Sleep amount) within there)
    ∙ ap (λ l. preceded events (rest_score (take i lines) l (score_after (take (i + 1) lines) (drop (i + 1) lines))))
    (ap (λ t. next_time_of (sum_of t amount)) (sym so_far.time_is) ∙ ends)

pub played-rest : (lines : List Line) (i : ℕ) (events : List Event) (time : Fraction) (step : ℕ) (amount later : Fraction) → i < length lines → get_or lines i (Sleep amount) ≡ Sleep amount
    → next_time_of (sum_of time amount) ≡ Before later → Played lines i events time step → Played lines (i + 1) events later (step + 1)
played-rest lines i events time step amount later within there ends so_far = record {
  all = rest-step lines i events time step amount (Before later) within there ends so_far;
  time_is =
      before-time (sum_of time amount) later ends
      ∙ ap (λ t. sum_of t amount) so_far.time_is
      ∙ sym (ap time_after (prefix-more lines i (Sleep amount) within there) ∙ time-more (take i lines) (Sleep amount));
  step_is =
      let more : count_by is_action (take (i + 1) lines) ≡ count_by is_action (take i lines) + 1 =
      ap (count_by is_action) (prefix-more lines i (Sleep amount) within there) ∙ steps-more (take i lines) (Sleep amount) in
      let before : step ≡ count_by is_action (take i lines) + 1 = so_far.step_is in
      omega (arith, more, before);
  few = let before : step ≤ i + 1 = so_far.few in omega (arith, before);
}

pub played-past : (lines : List Line) (i : ℕ) (events : List Event) (time : Fraction) (step : ℕ) (amount later : Fraction) → i < length lines → get_or lines i (Sleep amount) ≡ Sleep amount
    → next_time_of (sum_of time amount) ≡ AtOrPast later → Played lines i events time step → score_after [] lines ≡ preceded events (asleep_until later)
played-past lines i events time step amount later within there ends so_far =
    rest-step lines i events time step amount (AtOrPast later) within there ends so_far

pub played-unfit : (lines : List Line) (i : ℕ) (events : List Event) (time : Fraction) (step : ℕ) (amount : Fraction) → i < length lines → get_or lines i (Sleep amount) ≡ Sleep amount
    → next_time_of (sum_of time amount) ≡ Unfit → Played lines i events time step
    → score_after [] lines ≡ preceded events (preceded (fault_event (place_at time step) Overflow (i + 1) ∷ []) ended)
played-unfit lines i events time step amount within there ends so_far =
    let prefix : length (take i lines) ≡ i = length-take-le i lines (omega (arith, within)) in
    rest-step lines i events time step amount Unfit within there ends so_far
    ∙ ap (λ n. preceded events (preceded (fault_event (place_after (take i lines)) Overflow (n + 1) ∷ []) ended)) prefix
    ∙ ap (λ place. preceded events (preceded (fault_event place Overflow (i + 1) ∷ []) ended))
    (sym (place-is (take i lines) time step so_far.time_is so_far.step_is))

pub played-all : (lines : List Line) (i : ℕ) (events : List Event) (time : Fraction) (step : ℕ) → length lines ≤ i → Played lines i events time step
    → score_after [] lines ≡ preceded events ended
played-all lines i events time step past so_far =
    so_far.all ∙ ap (λ rest. preceded events (score_after (take i lines) rest)) (drop_of_length-le lines past)

pub is-ok : {V E : Type 0} {r : Result V E} {v : V} → r ≡ Ok v → IsOk r
is-ok {V} {E} e = subst (λ (r : Result V E). IsOk r) (sym e) refl

held : {V E : Type 0} → V → Result V E → V
held other (Ok v) = v
held other (Err e) = other

pub ok-inside : {V E : Type 0} {r : Result V E} {v w : V} → r ≡ Ok v → r ≡ Ok w → v ≡ w
unfolding held
ok-inside {V} {E} {r} {v} {w} a b = ap (held v) (sym a ∙ b)

-- a sum that fits is the time itself
next-fits : (time later : Fraction) → fitted time ≡ Ok later → (fits time ≡ true) × (later ≡ time)
unfolding fitted
next-fits time later e = go (fits time) refl e
  where
    go : (fit : Bool) → fits time ≡ fit → cond fit (Ok time) (Err FracOverflow) ≡ Ok later → (fits time ≡ true) × (later ≡ time)
    go true f h = (f, sym (ok-inside refl h))
    go false f h = absurd (let wrong : Err FracOverflow ≡ Ok later = h in cc)

pub next-is : (time later : Fraction) (before : Bool) → fitted time ≡ Ok later → is_below later horizon ≡ before
    → cond before (Before later) (AtOrPast later) ≡ next_time_of time
unfolding next_time_of
next-is time later before e order =
    let fit = next-fits time later e in
    ap (λ b. cond b (Before later) (AtOrPast later)) (sym order)
    ∙ ap (λ t. cond (is_below t horizon) (Before t) (AtOrPast t)) fit.1
    ∙ ap (λ b. cond b (cond (is_below time horizon) (Before time) (AtOrPast time)) Unfit) (sym fit.0)

pub next-unfit : (time : Fraction) (fault : FracFault) → fitted time ≡ Err fault → Unfit ≡ next_time_of time
unfolding fitted next_time_of
next-unfit time fault e = go (fits time) e
  where
    go : (fit : Bool) → cond fit (Ok time) (Err FracOverflow) ≡ Err fault
        → Unfit ≡ cond fit (cond (is_below time horizon) (Before time) (AtOrPast time)) Unfit
    go true h = absurd (let wrong : Ok time ≡ Err fault = h in cc)
    go false h = refl

pub if-ok : {V E : Type 0} {P Q : V → Type 0} (r : Result V E) → ((v : V) → P v → Q v) → IfOk r P → IfOk r Q
if-ok (Ok v) f p = f v p
if-ok (Err e) f p = tt
