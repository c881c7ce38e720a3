-- The items of patterns.
use Rattle.std.proofs.Common.{◌≡◌, ◌≤◌, ◌<◌, ◌+◌, ℕ, zero, suc, pos, List, [], ◌∷◌, ◌++◌, length, map, take, drop, get_or, Bool, true, false, ◌&&◌, ◌||◌, Option, Some, None, Result, Ok, Err, IsOk, refl, sym, ap, ◌∙◌, subst, arith}
use Rattle.std.specs.Prelude.{IsSome, IsTrue, nat_eq, nat_lt, ok_or, slice_get}
use Rattle.std.specs.List.{cons_option, filter_map, list_all, range_with_len, zip}
use Rattle.std.proofs.lemmas.Bool.{false≢true}
use Rattle.std.proofs.lemmas.List.{drop_all, drop_more}
use Rattle.std.proofs.lemmas.List.Folds.{list_all-append, list_all_at}
use Rattle.std.proofs.lemmas.List.FromFn.{get_or-map-range_with_len, length-map-range_with_len, map-range_with_len_more}
use Rattle.vt_frac.specs.Fraction.{Fraction, whole}
use Rattle.vt_ring.specs.Answers.{and_then, all_of}
use Rattle.vt_ring.specs.Items.{indices, wrapped}
use Rattle.vt_ring.specs.Signatures.{number_argument}
use Rattle.vt_ring.proofs.AnswerLemmas.{good_first}
use Rattle.vt_ring.proofs.SeriesLemmas.{item_good}
use Rattle.vt_value.specs.declared.fault.FaultKind.{FaultKind}
use Rattle.vt_value.specs.declared.fault.FaultKind.TheVariants.{EmptyRing}
use Rattle.vt_value.specs.declared.value.Value.{Value}
use Rattle.vt_run.specs.calls.Arguments.{each_of, items_round}
use Rattle.vt_run.specs.calls.PlayCalls.{note_to_play, notes_asked, notes_to_play}
use Rattle.vt_given.specs.Notes.{note_or_fault, sounding}
use Rattle.vt_given.specs.Patterns.{sounding_item}
use Rattle.vt_given.specs.private.Rounds.{asked_in, beat_of, beats_at, items_from, made_or, not_below, notes_in, number_in}
use Rattle.vt_given.proofs.RoundLemmas.{good_all, map_map, some_left, some_round}
use Rattle.vt_given.proofs.SoundingLemmas.{kinds_and_names}

pub items_next : (times : Option (List Value)) (at : ℕ) (values : List Value) (value : Value) → at < length values → value ≡ get_or values at value →
    items_from times at (drop at values) ≡ (sounding (notes_in value), beats_at times at) ∷ items_from times (at + 1) (drop (at + 1) values)
items_next times at values value below is = ap (items_from times at) (drop_more values at value below ∙ ap (λ v. v ∷ drop (at + 1) values) (sym is))

pub items_end : (times : Option (List Value)) (at : ℕ) (values : List Value) → length values ≤ at → items_from times at (drop at values) ≡ []
items_end times at values h = ap (items_from times at) (drop_all at values h)

pub even_from : (k : ℕ) (values : List Value) → map sounding_item (map (λ notes. (notes, whole (pos 1))) (map notes_in values)) ≡ items_from None k values
even_from k [] = refl
even_from k (value ∷ values) = ap (λ rest. (sounding (notes_in value), whole (pos 1)) ∷ rest) (even_from (k + 1) values)

-- Items with beats of their own

timed_cons : (notes : List (Option Value)) (more : List (List (Option Value))) (found : Option Value) (values : List Value) → IsSome found →
    map sounding_item (zip (notes ∷ more) (map number_in (cons_option found values)))
    ≡ (sounding notes, made_or (whole (pos 0)) (and_then (ok_or found EmptyRing) number_argument)) ∷ map sounding_item (zip more (map number_in values))
timed_cons notes more (Some value) values h = refl
timed_cons notes more None values h = absurd (false≢true h)

timed_from : (times : List Value) → 0 < length times → (k : ℕ) (values : List Value) →
    map sounding_item (zip (map notes_in values) (map number_in (filter_map (λ i. slice_get times (wrapped (pos i) (length times))) (range_with_len k (length values))))) ≡ items_from (Some times) k values
timed_from times some k [] = refl
timed_from times some k (value ∷ values) =
    let found = slice_get times (wrapped (pos k) (length times)) in
    timed_cons (notes_in value) (map notes_in values) found (filter_map (λ i. slice_get times (wrapped (pos i) (length times))) (range_with_len (k + 1) (length values))) (some_round times k some)
    ∙ ap (λ rest. (sounding (notes_in value), beats_at (Some times) k) ∷ rest) (timed_from times some (k + 1) values)

pub timed_all : (values times : List Value) → IsTrue (nat_eq (length values) 0 || nat_lt 0 (length times)) →
    map sounding_item (zip (map notes_in values) (map number_in (items_round (length values) times))) ≡ items_from (Some times) 0 values
timed_all [] times some = refl
timed_all (value ∷ values) times some = timed_from times (some_left (length values) (length times) some) 0 (value ∷ values)

-- Kinds and names of all items

item_known : {X A : Type 0} (f : X → Result A FaultKind) (xs : List X) (i : ℕ) (x : X) → i < length xs → x ≡ get_or xs i x → IsOk (all_of (map f (take i xs))) → IsOk (f x) → IsOk (all_of (map f (take (i + 1) xs)))
item_known {A = A} f xs i x below is h ok = go (f x) refl ok where
  go : (answer : Result A FaultKind) → f x ≡ answer → IsOk answer → IsOk (all_of (map f (take (i + 1) xs)))
  go (Ok value) e k = item_good f xs i x value below is h e
  go (Err kind) e k = absurd (false≢true k)

pub kinds_known : (values : List Value) (i : ℕ) (value : Value) → i < length values → value ≡ get_or values i value → IsOk (all_of (map notes_asked (take i values))) → IsOk (notes_asked value) → IsOk (all_of (map notes_asked (take (i + 1) values)))
kinds_known values i value below is h ok = item_known notes_asked values i value below is h ok

-- the names of the notes of an item
abbrev pub names_of : Value → Result (List (Option Value)) FaultKind
names_of value = all_of (map note_or_fault (each_of value))

pub names_known : (values : List Value) (i : ℕ) (value : Value) → i < length values → value ≡ get_or values i value → IsOk (all_of (map names_of (take i values))) → IsOk (names_of value) → IsOk (all_of (map names_of (take (i + 1) values)))
names_known values i value below is h ok = item_known names_of values i value below is h ok

made_same : (answer : Result (List (Result (Option Value) FaultKind)) FaultKind) → IsOk answer → and_then answer all_of ≡ all_of (made_or [] answer)
made_same (Ok asked) ok = refl
made_same (Err kind) ok = absurd (false≢true ok)

good_rest : {A : Type 0} (first : Result A FaultKind) (rest : Result (List A) FaultKind) → IsOk (and_then first (λ value. and_then rest (λ values. Ok (value ∷ values)))) → IsOk rest
good_rest (Ok value) rest ok = good_first rest (λ values. Ok (value ∷ values)) ok
good_rest (Err kind) rest ok = absurd (false≢true ok)

one_same : (value : Value) → IsOk (notes_asked value) → names_of value ≡ all_of (asked_in value)
one_same value ok = sym (kinds_and_names (each_of value) ok) ∙ made_same (notes_asked value) ok

pub names_same : (values : List Value) → IsOk (all_of (map notes_asked values)) → map names_of values ≡ map all_of (map asked_in values)
names_same [] ok = refl
names_same (value ∷ values) ok =
    let asked = all_of (map notes_asked values) in
    ap (λ answer. answer ∷ map names_of values) (one_same value (good_first (notes_asked value) (λ first. and_then asked (λ rest. Ok (first ∷ rest))) ok))
    ∙ ap (λ rest. all_of (asked_in value) ∷ rest) (names_same values (good_rest (notes_asked value) asked ok))

pub names_good : (values : List Value) → IsOk (all_of (map notes_asked values)) → IsOk (all_of (map names_of values)) → all_of (map all_of (map asked_in values)) ≡ Ok (map notes_in values)
names_good values kinds names =
    good_all all_of [] (map asked_in values) (subst (λ answers. IsOk (all_of answers)) (names_same values kinds) names)
    ∙ ap (λ notes. Ok notes) (map_map (λ asked. made_or [] (all_of asked)) asked_in values)

-- Beats by their places

beat_cons : (found : Option Value) (values : List Value) → IsSome found → map number_argument (cons_option found values) ≡ and_then (ok_or found EmptyRing) number_argument ∷ map number_argument values
beat_cons (Some value) values h = refl
beat_cons None values h = absurd (false≢true h)

round_beats : (times : List Value) → 0 < length times → (k n : ℕ) → map number_argument (filter_map (λ i. slice_get times (wrapped (pos i) (length times))) (range_with_len k n)) ≡ map (beat_of times) (range_with_len k n)
round_beats times some k zero = refl
round_beats times some k (suc n) =
    beat_cons (slice_get times (wrapped (pos k) (length times))) (filter_map (λ i. slice_get times (wrapped (pos i) (length times))) (range_with_len (k + 1) n)) (some_round times k some)
    ∙ ap (λ rest. beat_of times k ∷ rest) (round_beats times some (k + 1) n)

none_round : (places : List ℕ) → filter_map (λ i. slice_get {X = Value} [] (wrapped (pos i) 0)) places ≡ []
none_round [] = refl
none_round (place ∷ places) = none_round places

pub empty_is : (times : List Value) → length times ≡ 0 → times ≡ []
empty_is [] e = refl
empty_is (time ∷ times) e = absurd (omega (arith, e))

pub some_is : (times : List Value) → (length times ≡ 0 → ⊥) → 0 < length times
some_is [] none = absurd (none refl)
some_is (time ∷ times) none = omega arith

pub no_times : (times : List Value) (n : ℕ) → times ≡ [] → items_round n times ≡ []
no_times times n e = ap (items_round n) e ∙ none_round (indices n)

pub beats_empty : (times : List Value) (n : ℕ) → times ≡ [] → all_of (map number_argument (items_round n times)) ≡ Ok (map number_in (items_round n times))
beats_empty times n e = ap (λ values. all_of (map number_argument values)) (no_times times n e) ∙ ap (λ values. Ok (map number_in values)) (sym (no_times times n e))

pub beats_fault : (times : List Value) (n : ℕ) (kind : FaultKind) → 0 < length times → all_of (map (beat_of times) (indices n)) ≡ Err kind → all_of (map number_argument (items_round n times)) ≡ Err kind
beats_fault times n kind some e = ap all_of (round_beats times some 0 n) ∙ e

pub beats_good : (times : List Value) (n : ℕ) → 0 < length times → IsOk (all_of (map (beat_of times) (indices n))) → all_of (map number_argument (items_round n times)) ≡ Ok (map number_in (items_round n times))
beats_good times n some ok = good_all number_argument (whole (pos 0)) (items_round n times) (subst (λ answers. IsOk (all_of answers)) (sym (round_beats times some 0 n)) ok)

-- Whether beats are below 0

number_cons : (found : Option Value) (values : List Value) → IsSome found →
    list_all not_below (map number_in (cons_option found values)) ≡ (not_below (made_or (whole (pos 0)) (and_then (ok_or found EmptyRing) number_argument)) && list_all not_below (map number_in values))
number_cons (Some value) values h = refl
number_cons None values h = absurd (false≢true h)

round_forward : (times : List Value) → 0 < length times → (k n : ℕ) →
    list_all not_below (map number_in (filter_map (λ i. slice_get times (wrapped (pos i) (length times))) (range_with_len k n))) ≡ list_all not_below (map (beats_at (Some times)) (range_with_len k n))
round_forward times some k zero = refl
round_forward times some k (suc n) =
    number_cons (slice_get times (wrapped (pos k) (length times))) (filter_map (λ i. slice_get times (wrapped (pos i) (length times))) (range_with_len (k + 1) n)) (some_round times k some)
    ∙ ap (λ rest. not_below (beats_at (Some times) k) && rest) (round_forward times some (k + 1) n)

pub forward_all : (times : List Value) (n : ℕ) → 0 < length times → list_all not_below (map number_in (items_round n times)) ≡ list_all not_below (map (beats_at (Some times)) (indices n))
forward_all times n some = round_forward times some 0 n

pub forward_empty : (times : List Value) (n : ℕ) → times ≡ [] → true ≡ list_all not_below (map number_in (items_round n times))
forward_empty times n e = sym (ap (λ values. list_all not_below (map number_in values)) (no_times times n e))

pub forward_more : (times : List Value) (i : ℕ) → list_all not_below (map (beats_at (Some times)) (indices i)) ≡ true → not_below (beats_at (Some times) i) ≡ true → list_all not_below (map (beats_at (Some times)) (indices (i + 1))) ≡ true
forward_more times i h k =
    let f = beats_at (Some times) in
    ap (list_all not_below) (map-range_with_len_more f 0 i i (omega arith))
    ∙ list_all-append not_below (map f (indices i)) (f i ∷ [])
    ∙ ap (λ before. before && (not_below (f i) && true)) h
    ∙ ap (λ here. here && true) k

pub forward_fails : (times : List Value) (i n : ℕ) → i < n → not_below (beats_at (Some times) i) ≡ false → list_all not_below (map (beats_at (Some times)) (indices n)) ≡ false
forward_fails times i n below h =
    let f = beats_at (Some times) in
    let long : length (map f (indices n)) ≡ n = length-map-range_with_len f 0 n in
    let at : get_or (map f (indices n)) i (f i) ≡ f i = get_or-map-range_with_len f 0 n i i (f i) below (omega arith) in
    list_all_at not_below (map f (indices n)) i (f i) (omega arith) (ap not_below at ∙ h)

-- Items or the value alone

pub kinds_asked : (value : Value) (values : List Value) → values ≡ each_of value → notes_asked value ≡ all_of (map note_to_play values)
kinds_asked value values is = ap (λ values. all_of (map note_to_play values)) (sym is)

pub names_asked : (value : Value) (values : List Value) → values ≡ each_of value → names_of value ≡ all_of (map note_or_fault values)
names_asked value values is = ap (λ values. all_of (map note_or_fault values)) (sym is)
