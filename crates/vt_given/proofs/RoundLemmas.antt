-- What is given in turns: rests, values, beats and notes.
use Rattle.std.proofs.Common.{◌≡◌, ◌≢◌, ◌≤◌, ◌<◌, ◌+◌, ◌%◌, ℕ, zero, suc, ℤ, pos, negsuc, List, [], ◌∷◌, length, map, drop, get_or, Bool, true, false, cond, ◌||◌, Option, Some, None, Result, Ok, Err, IsOk, refl, sym, ap, ◌∙◌, subst, true≢false, arith}
use Rattle.std.specs.Prelude.{IfOk, IsSome, IsTrue, int_le, int_lt, nat_eq, nat_lt, not, ok_or, slice_get}
use Rattle.std.specs.List.{cons_option, filter_map, list_all, range_with_len, zip}
use Rattle.std.proofs.lemmas.Bool.{eqb-true, false≢true, le-leb, ltb-true}
use Rattle.std.proofs.lemmas.List.{drop_all, drop_more}
use Rattle.vt_frac.proofs.DecimalLemmas.{both_true}
use Rattle.vt_frac.specs.Fraction.{Fraction, whole}
use Rattle.vt_ring.specs.Answers.{and_then, all_of}
use Rattle.vt_ring.specs.Exact.{is_negative}
use Rattle.vt_ring.specs.Items.{wrapped}
use Rattle.vt_ring.proofs.AnswerLemmas.{good_first}
use Rattle.vt_value.specs.declared.fault.FaultKind.{FaultKind}
use Rattle.vt_value.specs.declared.fault.FaultKind.TheVariants.{EmptyRing}
use Rattle.vt_value.specs.declared.value.Value.{Value}
use Rattle.vt_ring.specs.Signatures.{one_or_two_of}
use Rattle.vt_run.specs.declared.state.State.{State}
use Rattle.vt_run.specs.calls.Arguments.{Given, all_args, each_of, has_item, items_round}
use Rattle.vt_run.specs.calls.ThreadCalls.{timings, values_for}
use Rattle.vt_run.specs.calls.TimeCalls.{seconds_of}
use Rattle.vt_run.specs.Delays.{is_delay}
use Rattle.vt_run.specs.Limits.{IsRestWithin}
use Rattle.vt_run.specs.Tempo.{is_tempo}
use Rattle.vt_run.proofs.facts.ArgumentFacts.{seconds_gives}
use Rattle.vt_given.specs.private.Rounds.{made_or, not_below, number_in, rest_at, seconds_in, timed, timed_by, value_at}

-- Answers of which each is good

step_good : {A : Type 0} (first : Result A FaultKind) (rest : Result (List A) FaultKind) (other : A) (values : List A) → IsOk (and_then first (λ value. and_then rest (λ values. Ok (value ∷ values)))) → (IsOk rest → rest ≡ Ok values) →
    and_then first (λ value. and_then rest (λ values. Ok (value ∷ values))) ≡ Ok (made_or other first ∷ values)
step_good (Ok value) (Ok rest) other values ok h = ap (λ r. and_then r (λ values. Ok (value ∷ values))) (h refl)
step_good (Ok value) (Err kind) other values ok h = absurd (false≢true ok)
step_good (Err kind) rest other values ok h = absurd (false≢true ok)

pub good_all : {X A : Type 0} (f : X → Result A FaultKind) (other : A) (xs : List X) → IsOk (all_of (map f xs)) → all_of (map f xs) ≡ Ok (map (λ x. made_or other (f x)) xs)
good_all f other [] ok = refl
good_all f other (x ∷ xs) ok = step_good (f x) (all_of (map f xs)) other (map (λ x. made_or other (f x)) xs) ok (λ k. good_all f other xs k)

-- Rests

forward_rest : (below : Bool) (none seconds : Fraction) → not below ≡ true → seconds ≡ cond below none seconds
forward_rest true none seconds e = absurd (true≢false (sym e))
forward_rest false none seconds e = refl

rest_forward : (bpm : Fraction) (time : Value) → not_below (number_in time) ≡ true → seconds_in bpm (number_in time) ≡ rest_at bpm time
rest_forward bpm time e = forward_rest (is_negative (number_in time)) (whole (pos 0)) (seconds_in bpm (number_in time)) e

delay_of : (z : ℤ) → int_lt z (pos 0) ≡ false → IsTrue (int_le (pos 0) z)
delay_of (pos n) e = le-leb 0 n (omega arith)
delay_of (negsuc n) e = absurd (true≢false e)

pub seconds_delay : (beats bpm seconds : Fraction) → seconds_of beats bpm ≡ Ok seconds → is_negative beats ≡ false → IsTrue (is_tempo bpm) → IsTrue (is_delay seconds)
seconds_delay beats bpm seconds e h k =
    let rest : IsRestWithin seconds = subst (λ answer. IfOk answer IsRestWithin) e (seconds_gives beats bpm h k) in
    delay_of seconds.numer rest.forward

-- a tempo is not 0
pub tempo_not_zero : (bpm : Fraction) → IsTrue (is_tempo bpm) → bpm.numer ≢ pos 0
tempo_not_zero bpm above e = false≢true (sym (ap (λ z. int_lt (pos 0) z) e) ∙ above)

-- Items of a ring that is gone through again and again

some_below : {X : Type 0} (xs : List X) (i : ℕ) → i < length xs → IsSome (slice_get xs i)
some_below [] i h = absurd (omega arith)
some_below (x ∷ xs) zero h = refl
some_below (x ∷ xs) (suc i) h = some_below xs i (omega arith)

pub wrapped_below : (i n : ℕ) → 0 < n → wrapped (pos i) n < n
wrapped_below i n h = omega arith

pub some_round : (items : List Value) (i : ℕ) → 0 < length items → IsSome (slice_get items (wrapped (pos i) (length items)))
some_round items i h = some_below items (wrapped (pos i) (length items)) (wrapped_below i (length items) h)

-- The threads of `at`

pub timed_next : (bpm : Fraction) (items : Option (List Value)) (at : ℕ) (times : List Value) (time : Value) → at < length times → time ≡ get_or times at time →
    timed bpm items at (drop at times) ≡ (rest_at bpm time, value_at items at time) ∷ timed bpm items (at + 1) (drop (at + 1) times)
timed_next bpm items at times time below is = ap (timed bpm items at) (drop_more times at time below ∙ ap (λ t. t ∷ drop (at + 1) times) (sym is))

pub timed_end : (bpm : Fraction) (items : Option (List Value)) (at : ℕ) (times : List Value) → length times ≤ at → timed bpm items at (drop at times) ≡ []
timed_end bpm items at times h = ap (timed bpm items at) (drop_all at times h)

pair_and : {A B : Type 0} (a b : A) (c : B) (xs ys : List (A × B)) → a ≡ b → xs ≡ ys → (a, c) ∷ xs ≡ (b, c) ∷ ys
pair_and a b c xs ys e h = ap (λ x. (x, c) ∷ xs) e ∙ ap (λ rest. (b, c) ∷ rest) h

zip_own : (bpm : Fraction) (k : ℕ) (times : List Value) → IsTrue (list_all not_below (map number_in times)) → zip (map (seconds_in bpm) (map number_in times)) times ≡ timed bpm None k times
zip_own bpm k [] h = refl
zip_own bpm k (time ∷ times) h =
    let parts = both_true (not_below (number_in time)) (list_all not_below (map number_in times)) h in
    pair_and (seconds_in bpm (number_in time)) (rest_at bpm time) time _ _ (rest_forward bpm time parts.0) (zip_own bpm (k + 1) times parts.1)

zip_cons : (rest : Fraction) (rests : List Fraction) (found : Option Value) (values : List Value) (other : Value) → IsSome found →
    zip (rest ∷ rests) (cons_option found values) ≡ (rest, made_or other (ok_or found EmptyRing)) ∷ zip rests values
zip_cons rest rests (Some value) values other h = refl
zip_cons rest rests None values other h = absurd (false≢true h)

zip_round : (bpm : Fraction) (items : List Value) → 0 < length items → (k : ℕ) (times : List Value) → IsTrue (list_all not_below (map number_in times)) →
    zip (map (seconds_in bpm) (map number_in times)) (filter_map (λ i. slice_get items (wrapped (pos i) (length items))) (range_with_len k (length times))) ≡ timed bpm (Some items) k times
zip_round bpm items some k [] h = refl
zip_round bpm items some k (time ∷ times) h =
    let parts = both_true (not_below (number_in time)) (list_all not_below (map number_in times)) h in
    let found = slice_get items (wrapped (pos k) (length items)) in
    zip_cons (seconds_in bpm (number_in time)) (map (seconds_in bpm) (map number_in times)) found (filter_map (λ i. slice_get items (wrapped (pos i) (length items))) (range_with_len (k + 1) (length times))) time (some_round items k some)
    ∙ pair_and (seconds_in bpm (number_in time)) (rest_at bpm time) (value_at (Some items) k time) _ _ (rest_forward bpm time parts.0) (zip_round bpm items some (k + 1) times parts.1)

pub some_left : (n m : ℕ) → IsTrue (nat_eq (suc n) 0 || nat_lt 0 m) → 0 < m
some_left n m h = go (nat_eq (suc n) 0) refl h where
  go : (none : Bool) → nat_eq (suc n) 0 ≡ none → IsTrue (none || nat_lt 0 m) → 0 < m
  go true e k = absurd (let same : suc n ≡ 0 = eqb-true (suc n) 0 e in omega (arith, same))
  go false e k = ltb-true 0 m k

pub zip_values : (bpm : Fraction) (items : Option (List Value)) (times : List Value) → IsTrue (list_all not_below (map number_in times)) → IsTrue (nat_eq (length (map number_in times)) 0 || has_item items) →
    zip (map (seconds_in bpm) (map number_in times)) (values_for items times) ≡ timed bpm items 0 times
zip_values bpm None times h some = zip_own bpm 0 times h
zip_values bpm (Some items) [] h some = refl
zip_values bpm (Some items) (time ∷ times) h some = zip_round bpm items (some_left (length (map number_in times)) (length items) some) 0 (time ∷ times) h

-- One answer more

pub map_map : {X Y Z : Type 0} (g : Y → Z) (f : X → Y) (xs : List X) → map g (map f xs) ≡ map (λ x. g (f x)) xs
map_map g f [] = refl
map_map g f (x ∷ xs) = ap (λ rest. g (f x) ∷ rest) (map_map g f xs)

-- What `at` comes to, by its arguments

pub timings_are : (given : Given) (st : State) (args times : List Value) (time : Value) (ring : Option Value) → args ≡ all_args given → one_or_two_of args ≡ Ok (time, ring) → times ≡ each_of time →
    timings given st ≡ timed_by times ring st.settings.bpm
timings_are given st args times time ring is e t =
    ap (λ (answer : Result (Value × Option Value) FaultKind). and_then answer (λ (time, ring). timed_by (each_of time) ring st.settings.bpm)) (ap one_or_two_of (sym is) ∙ e)
    ∙ ap (λ times. timed_by times ring st.settings.bpm) (sym t)
