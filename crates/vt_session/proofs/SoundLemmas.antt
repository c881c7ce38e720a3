-- What lines are is orderly and within the limits.
use Rattle.std.proofs.Common.{◌≡◌, ℕ, zero, suc, ◌+◌, ◌*◌, ◌≤◌, Bool, true, false, not, ◌&&◌, nat_le, is_lt, ℤ, pos, ◌≤ℤ◌, List, [], ◌∷◌, ◌++◌, length, map, codes, slice_get, slice_index_or, Option, Some, None, Result, Ok, Err, All, IsSomeAnd, IsTrue, cond, eqb, refl, sym, ap, ◌∙◌, subst, arith}
use Rattle.std.specs.List.{concat, cons_option, filter_map, prefix_len}
use Rattle.std.specs.List.Sorted.{IsSorted}
use Rattle.std.proofs.lemmas.Bool.{leb-true}
use Rattle.std.proofs.lemmas.List.{length-append, length-map, length-take-le}
use Rattle.std.proofs.lemmas.List.Elements.{All-cons, All-nil, filter_map-append}
use Rattle.std.proofs.lemmas.List.Sums.{prefix_len-le-length}
use Rattle.vt_path.proofs.Lists.{All-prefix, All-middle}
use Rattle.vt_event.specs.Event.{EventView}
use Rattle.vt_event.specs.EventsByKind.{cue_event, ended_event, set_event}
use Rattle.vt_event.specs.Orderly.{AreOrderlyTimes, IsInput, input_place, is_given}
use Rattle.vt_frac.specs.declared.fault.DecimalFault.{DecimalFault}
use Rattle.vt_frac.specs.Decimal.{are_digits, decimal_of}
use Rattle.vt_frac.specs.Fraction.{Fraction, IsFraction, whole}
use Rattle.vt_frac.specs.Names.{is_symbol_name}
use Rattle.vt_frac.specs.Order.{value_order}
use Rattle.vt_frac.proofs.DecimalLemmas.{both_true}
use Rattle.vt_lex.specs.Texts.{Body, body_of}
use Rattle.vt_path.specs.declared.inner_path.InnerKind.TheVariants.{Stop as StopKind}
use Rattle.vt_path.specs.Inner.{inner_of}
use Rattle.vt_path.specs.Path.{IsPath}
use Rattle.vt_value.specs.declared.value.Value as V
use Rattle.vt_value.specs.declared.value.Value.{Value, map-Value, out-Value, out-roll-Value, roll-Value}
use Rattle.vt_value.specs.declared.value.Value.TheFolds.{every_made-Value}
use Rattle.vt_value.specs.declared.value.Value.TheOpen.{Value-F}
use Rattle.vt_value.specs.declared.value.Value.TheVariants.{Nil, Part, Ring, Sym, Text, Whole, rolls-Nil, rolls-Part, rolls-Ring, rolls-Sym, rolls-Text, rolls-Whole}
use Rattle.vt_value.specs.Arithmetic.{are_within}
use Rattle.vt_value.specs.Kinds.{is_nil, ring_layer, ring_of}
use Rattle.vt_value.specs.Limits.{IsWithin, WithinLayer}
use Rattle.vt_session.specs.declared.text_part.TextPart.{TextPart}
use Rattle.vt_session.specs.Directives.{Line, PlainLine, VersionLine, AtLine, CueLine, SetLine, StopLine}
use Rattle.vt_session.specs.Given.{given_of, negated, number_by, number_given, signed_by, symbol_given, text_by, text_given, unsigned}
use Rattle.vt_session.specs.Lines.{content_of, is_newline}
use Rattle.vt_session.specs.Rules.{AreRead, Follow, time_in}
use Rattle.vt_session.specs.Sessions.{IsSound, IsTextPart, first_text, inputs_from, later_texts, session_of, text_before_directive}
use Rattle.vt_session.specs.private.Standing.{IsTime, IsWhole, Standing, open_texts}
use Rattle.vt_session.proofs.StandingLemmas.{finished}
use Rattle.vt_session.proofs.TimeLemmas.{decimal_time, form_time, not_below_zero, zero_time}
use Rattle.vt_session.proofs.ValueLemmas.{negated_fraction}

-- Values

-- a value together with the fact that it is within the limits
abbrev Held : Type 0
Held = (value : Value) × IsWithin value

made : (value : Value) (layer : Value-F Value) (held : Value-F Held) → roll-Value layer ≡ value → map-Value Held Value (λ x. x.0) held ≡ layer → WithinLayer layer → IsWithin value
unfolding IsWithin
made value layer held e m good = subst IsWithin e (every_made-Value WithinLayer layer held m good)

nil_within : IsWithin Nil
nil_within = made Nil Value-F.Nil Value-F.Nil rolls-Nil refl tt

-- what may be given: of a sort that may, and within the limits
record MayBeGiven (value : Value) : Type 0 where
  sort : IsTrue (is_given value)
  within : IsWithin value

whole_given : (n : ℤ) → is_given (Whole n) ≡ true
unfolding V.out-Value denote.Hole.Carrier.out
whole_given n = refl

part_given : (f : Fraction) → is_given (Part f) ≡ true
unfolding V.out-Value denote.Hole.Carrier.out
part_given f = refl

symbol_is_given : (name : List ℕ) → is_given (Sym name) ≡ true
unfolding V.out-Value denote.Hole.Carrier.out
symbol_is_given name = refl

text_is_given : (bytes : List ℕ) → is_given (Text bytes) ≡ true
unfolding V.out-Value denote.Hole.Carrier.out
text_is_given bytes = refl

number_may : (t : Bool) (f : Fraction) → IsFraction f → MayBeGiven (number_by t f)
number_may true f h = record { sort = whole_given f.numer; within = made (Whole f.numer) (Value-F.Whole f.numer) (Value-F.Whole f.numer) (rolls-Whole f.numer) refl h.numer_fits }
number_may false f h = record { sort = part_given f; within = made (Part f) (Value-F.Part f) (Value-F.Part f) (rolls-Part f) refl h }

signed_may : (t : Bool) (sign : Fraction → Fraction) (r : Result Fraction DecimalFault) (value : Value) → ((f : Fraction) → r ≡ Ok f → IsFraction (sign f)) → signed_by t sign r ≡ Some value → MayBeGiven value
signed_may t sign (Err fault) value h e = absurd (let z : None ≡ Some value = e in cc)
signed_may t sign (Ok f) value h e = let same : number_by t (sign f) ≡ value = cc in subst MayBeGiven same (number_may t (sign f) (h f refl))

symbol_may : (name : List ℕ) (value : Value) → symbol_given name ≡ Some value → MayBeGiven value
symbol_may name value e = go (is_symbol_name name) refl e where
  go : (t : Bool) → is_symbol_name name ≡ t → cond t (Some (Sym name)) None ≡ Some value → MayBeGiven value
  go false s f = absurd (let z : None ≡ Some value = f in cc)
  go true s f =
      let same : Sym name ≡ value = cc in
      subst MayBeGiven same (record { sort = symbol_is_given name; within = made (Sym name) (Value-F.Sym name) (Value-F.Sym name) (rolls-Sym name) refl s })

text_may : (n : ℕ) (o : Option Body) (value : Value) → text_by n o ≡ Some value → MayBeGiven value
text_may n None value e = absurd (let z : None ≡ Some value = e in cc)
text_may n (Some body) value e = go (eqb body.len n && nat_le (length body.value) 4096) refl e where
  go : (t : Bool) → (eqb body.len n && nat_le (length body.value) 4096) ≡ t → cond t (Some (Text body.value)) None ≡ Some value → MayBeGiven value
  go false s f = absurd (let z : None ≡ Some value = f in cc)
  go true s f =
      let same : Text body.value ≡ value = cc in
      let short : length body.value ≤ 4096 = leb-true (length body.value) 4096 (both_true (eqb body.len n) (nat_le (length body.value) 4096) s).1 in
      subst MayBeGiven same (record { sort = text_is_given body.value; within = made (Text body.value) (Value-F.Text body.value) (Value-F.Text body.value) (rolls-Text body.value) refl short })

either_may : (t : Bool) (a b : Option Value) (value : Value) → (a ≡ Some value → MayBeGiven value) → (b ≡ Some value → MayBeGiven value) → cond t a b ≡ Some value → MayBeGiven value
either_may true a b value f g e = f e
either_may false a b value f g e = g e

given_may : (word : List ℕ) (value : Value) → given_of word ≡ Some value → MayBeGiven value
unfolding given_of
given_may [] value e = absurd (let z : None ≡ Some value = e in cc)
given_may (first ∷ rest) value e =
    either_may (eqb first 58) (symbol_given rest) _ value (symbol_may rest value)
    (either_may (eqb first 34) (text_given rest) _ value (text_may (length rest) (body_of 34 rest) value)
    (either_may (eqb first 45) (number_given negated rest) (number_given unsigned (first ∷ rest)) value
    (signed_may (are_digits rest) negated (decimal_of rest) value (λ f g. negated_fraction f (decimal_time rest f g).fraction))
    (signed_may (are_digits (first ∷ rest)) unsigned (decimal_of (first ∷ rest)) value (λ f g. (decimal_time (first ∷ rest) f g).fraction)))) e

-- the values of a ring, each with what is known of it
record AreHeld (values : List Value) : Type 0 where
  held : List Held
  same : map (λ (x : Held). x.0) held ≡ values
  sorts : All (λ item. IsTrue (is_given item)) values

all_held : (words : List (List ℕ)) (values : List Value) → map given_of words ≡ map Some values → AreHeld values
all_held words [] e = record { held = []; same = refl; sorts = All-nil (λ item. IsTrue (is_given item)) }
all_held [] (value ∷ values) e = absurd (let z : ◌≡◌ {A = List (Option Value)} [] (Some value ∷ map Some values) = e in cc)
all_held (word ∷ words) (value ∷ values) e =
    let z : ◌≡◌ {A = List (Option Value)} (given_of word ∷ map given_of words) (Some value ∷ map Some values) = e in
    let first : given_of word ≡ Some value = cc in
    let more : map given_of words ≡ map Some values = cc in
    let one = given_may word value first in
    let rest = all_held words values more in
    record {
      held = (value, one.within) ∷ rest.held;
      same = ap (λ (vs : List Value). value ∷ vs) rest.same;
      sorts = All-cons (λ item. IsTrue (is_given item)) value values one.sort rest.sorts;
    }

ring_within : (values : List Value) → AreHeld values → IsTrue (are_within values) → IsWithin (Ring values)
ring_within values h good = made (Ring values) (Value-F.Ring values) (Value-F.Ring h.held) (rolls-Ring values) (ap (λ (vs : List Value). Value-F.Ring vs) h.same) good

ring_of_ring : (items : List Value) → ring_of (Ring items) ≡ Some items
ring_of_ring items = ap ring_of (sym (rolls-Ring items)) ∙ ap ring_layer (out-roll-Value (Value-F.Ring items))

nil_is : IsTrue (is_nil Nil)
unfolding V.out-Value denote.Hole.Carrier.out
nil_is = refl

-- Inputs

cue_is_input : (time : Fraction) (number : ℕ) (path : List (List ℕ)) (values : List Value) → IsPath path → AreHeld values → IsTrue (are_within values) → IsInput number (cue_event (input_place time number) path (Ring values))
cue_is_input time number path values is held good = record {
  place = refl;
  form = record {
    path = is;
    values = subst (λ o. IsSomeAnd o (All (λ item. IsTrue (is_given item)))) (sym (ring_of_ring values)) held.sorts;
  };
  fields = record {
    path_with_kind = refl;
    no_name = λ e. refl;
    value_with_kind = refl;
    no_options = λ e. refl;
    no_fx = λ e. refl;
    body_with_kind = refl;
    no_line = λ e. refl;
  };
  within = ring_within values held good;
}

set_is_input : (time : Fraction) (number : ℕ) (path : List (List ℕ)) (value : Value) → IsPath path → MayBeGiven value → IsInput number (set_event (input_place time number) path value)
set_is_input time number path value is may = record {
  place = refl;
  form = record { path = is; value = may.sort };
  fields = record {
    path_with_kind = refl;
    no_name = λ e. refl;
    value_with_kind = refl;
    no_options = λ e. refl;
    no_fx = λ e. refl;
    body_with_kind = refl;
    no_line = λ e. refl;
  };
  within = may.within;
}

stop_is_input : (time : Fraction) (number : ℕ) (name : List ℕ) → IsTrue (is_symbol_name name) → IsInput number (ended_event (input_place time number) (inner_of StopKind name))
stop_is_input time number name symbol = record {
  place = refl;
  form = record { name = name; symbol = symbol; whole = refl };
  fields = record {
    path_with_kind = refl;
    no_name = λ e. refl;
    value_with_kind = nil_is;
    no_options = λ e. refl;
    no_fx = λ e. refl;
    body_with_kind = refl;
    no_line = λ e. refl;
  };
  within = nil_within;
}

-- the inputs of lines, of which the first has the number n, each at its place
abbrev AreInputs : ℕ → List EventView → Type 0
AreInputs n [] = Unit {0}
AreInputs n (event ∷ events) = IsInput n event × AreInputs (n + 1) events

inputs_are : (before : List Line) (lines : List (List ℕ)) (what : List Line) (n : ℕ) → Follow before lines what → AreInputs n (inputs_from n what)
inputs_are before [] [] n f = tt
inputs_are before [] (x ∷ what) n f = absurd f
inputs_are before (line ∷ lines) [] n f = tt
inputs_are before (line ∷ lines) (PlainLine bytes ∷ what) n f = inputs_are (before ++ PlainLine bytes ∷ []) lines what n f.1
inputs_are before (line ∷ lines) (VersionLine ∷ what) n f = inputs_are (before ++ VersionLine ∷ []) lines what n f.1
inputs_are before (line ∷ lines) (AtLine time ∷ what) n f = inputs_are (before ++ AtLine time ∷ []) lines what n f.1
inputs_are before (line ∷ lines) (CueLine time path values ∷ what) n f =
    let h = f.0.form in
    (cue_is_input time n path values h.path_form (all_held h.given values h.each) h.within, inputs_are (before ++ CueLine time path values ∷ []) lines what (n + 1) f.1)
inputs_are before (line ∷ lines) (SetLine time path value ∷ what) n f =
    let h = f.0.form in
    (set_is_input time n path value h.path_form (given_may h.given value h.one), inputs_are (before ++ SetLine time path value ∷ []) lines what (n + 1) f.1)
inputs_are before (line ∷ lines) (StopLine time name ∷ what) n f =
    let h = f.0.form in
    (stop_is_input time n name h.symbol, inputs_are (before ++ StopLine time name ∷ []) lines what (n + 1) f.1)

each_input : (n : ℕ) (events : List EventView) → AreInputs n events → (k : ℕ) (input : EventView) → slice_get events k ≡ Some input → IsInput (k + n) input
each_input n [] h k input e = absurd (let z : None ≡ Some input = e in cc)
each_input n (event ∷ events) h zero input e =
    let same : event ≡ input = cc in
    let first : IsInput n input = subst (IsInput n) same h.0 in
    subst (λ (m : ℕ). IsInput m input) (let z : n ≡ 0 + n = omega arith in z) first
each_input n (event ∷ events) h (suc k) input e =
    subst (λ (m : ℕ). IsInput m input) (let z : k + (n + 1) ≡ suc k + n = omega arith in z) (each_input (n + 1) events h.1 k input e)

-- Times

-- each time is one, and not below the one before it, the first not below b
abbrev AreRising : Fraction → List Fraction → Type 0
AreRising b [] = Unit {0}
AreRising b (time ∷ times) = IsTime time × (is_lt (value_order time b) ≡ false) × AreRising time times

abbrev MayStand : Fraction → List Line → Type 0
MayStand time before = All (λ earlier. is_lt (value_order time earlier) ≡ false) (filter_map time_in before)

-- what may stand behind the lines is not below b
abbrev Bounds : Fraction → List Line → Type 0
Bounds b before = (time : Fraction) → IsTime time → MayStand time before → is_lt (value_order time b) ≡ false

stand_split : (time : Fraction) (before : List Line) (x : Line) → MayStand time (before ++ x ∷ []) → All (λ earlier. is_lt (value_order time earlier) ≡ false) (filter_map time_in before ++ filter_map time_in (x ∷ []))
stand_split time before x h = subst (All (λ earlier. is_lt (value_order time earlier) ≡ false)) (filter_map-append time_in before (x ∷ [])) h

bounds_on : (b : Fraction) (before : List Line) (x : Line) → Bounds b before → Bounds b (before ++ x ∷ [])
bounds_on b before x h time is s = h time is (All-prefix (λ earlier. is_lt (value_order time earlier) ≡ false) (filter_map time_in before) (filter_map time_in (x ∷ [])) (stand_split time before x s))

single_time : (x : Line) (new : Fraction) → time_in x ≡ Some new → filter_map time_in (x ∷ []) ≡ new ∷ []
single_time x new e = ap (λ (o : Option Fraction). filter_map (λ (y : Option Fraction). y) (o ∷ [])) e

bounds_new : (before : List Line) (x : Line) (new : Fraction) → time_in x ≡ Some new → Bounds new (before ++ x ∷ [])
bounds_new before x new e time is s =
    All-middle (λ earlier. is_lt (value_order time earlier) ≡ false) (filter_map time_in before) new []
    (subst (λ (ts : List Fraction). All (λ earlier. is_lt (value_order time earlier) ≡ false) (filter_map time_in before ++ ts)) (single_time x new e) (stand_split time before x s))

-- the times of some of the directives rise
rising_by : (h : Line → Option Fraction) → ((x : Line) (time : Fraction) → h x ≡ Some time → time_in x ≡ Some time) → (before : List Line) (lines : List (List ℕ)) (what : List Line) (b : Fraction) → Follow before lines what → Bounds b before → AreRising b (filter_map h what)
rising_by h sub before [] [] b f bounds = tt
rising_by h sub before [] (x ∷ what) b f bounds = absurd f
rising_by h sub before (line ∷ lines) [] b f bounds = tt
rising_by h sub before (line ∷ lines) (x ∷ what) b f bounds =
    choice (h x) refl (λ c g. rising_by h sub (before ++ x ∷ []) lines what c f.1 g)
  where
    choice : (o : Option Fraction) → h x ≡ o → ((c : Fraction) → Bounds c (before ++ x ∷ []) → AreRising c (filter_map h what)) → AreRising b (cons_option o (filter_map h what))
    choice None e more = more b (bounds_on b before x bounds)
    choice (Some time) e more =
        let there = sub x time e in
        let is = form_time x line time f.0.form there in
        (is, bounds time is (f.0.times time there), more time (bounds_new before x time there))

rising_all : (b : Fraction) (times : List Fraction) → AreRising b times → All IsFraction times × All (λ time. pos 0 ≤ℤ time.numer) times
rising_all b [] h = (All-nil IsFraction, All-nil (λ time. pos 0 ≤ℤ time.numer))
rising_all b (time ∷ times) h =
    let more = rising_all time times h.2 in
    (All-cons IsFraction time times h.0.fraction more.0, All-cons (λ t. pos 0 ≤ℤ t.numer) time times h.0.start more.1)

rising_sorted : (b : Fraction) (times : List Fraction) → AreRising b times → IsSorted value_order (b ∷ times)
rising_sorted b [] h k d low high = absurd (omega arith)
rising_sorted b (time ∷ times) h zero d low high = h.1
rising_sorted b (time ∷ times) h (suc k) d low high =
    subst (λ (n : ℕ). is_lt (value_order (slice_index_or (b ∷ time ∷ times) n d) (slice_index_or (b ∷ time ∷ times) (suc k) d)) ≡ false)
    (let next : suc (k + 1) ≡ suc k + 1 = omega arith in next)
    (rising_sorted time times h.2 k d (omega arith) (omega arith))

sorted_times : (b : Fraction) (times : List Fraction) → AreRising b times → IsSorted value_order times
sorted_times b [] h = λ k d low high. absurd (omega arith)
sorted_times b (time ∷ times) h = rising_sorted time times h.2

zero_bounds : Bounds (whole (pos 0)) []
zero_bounds time is s = not_below_zero time is.start

-- the time of a line with which a text begins, or with which something is given
abbrev text_time : Line → Option Fraction
text_time (AtLine time) = Some time
text_time _ = None

abbrev given_time : Line → Option Fraction
given_time (CueLine time path values) = Some time
given_time (SetLine time path value) = Some time
given_time (StopLine time name) = Some time
given_time _ = None

text_time_is : (x : Line) (time : Fraction) → text_time x ≡ Some time → time_in x ≡ Some time
text_time_is (PlainLine bytes) time e = e
text_time_is VersionLine time e = e
text_time_is (AtLine t) time e = e
text_time_is (CueLine t path values) time e = absurd (let z : None ≡ Some time = e in cc)
text_time_is (SetLine t path value) time e = absurd (let z : None ≡ Some time = e in cc)
text_time_is (StopLine t name) time e = absurd (let z : None ≡ Some time = e in cc)

given_time_is : (x : Line) (time : Fraction) → given_time x ≡ Some time → time_in x ≡ Some time
given_time_is (PlainLine bytes) time e = e
given_time_is VersionLine time e = e
given_time_is (AtLine t) time e = absurd (let z : None ≡ Some time = e in cc)
given_time_is (CueLine t path values) time e = e
given_time_is (SetLine t path value) time e = e
given_time_is (StopLine t name) time e = e

abbrev part_time : TextPart → Fraction
part_time part = part.time

abbrev event_time : EventView → Fraction
event_time event = event.place.time

text_times : (n : ℕ) (what : List Line) → map part_time (later_texts n what) ≡ filter_map text_time what
text_times n [] = refl
text_times n (PlainLine bytes ∷ what) = text_times (n + 1) what
text_times n (VersionLine ∷ what) = text_times (n + 1) what
text_times n (AtLine time ∷ what) = ap (λ (ts : List Fraction). time ∷ ts) (text_times (n + 1) what)
text_times n (CueLine time path values ∷ what) = text_times (n + 1) what
text_times n (SetLine time path value ∷ what) = text_times (n + 1) what
text_times n (StopLine time name ∷ what) = text_times (n + 1) what

given_times : (n : ℕ) (what : List Line) → map event_time (inputs_from n what) ≡ filter_map given_time what
given_times n [] = refl
given_times n (PlainLine bytes ∷ what) = given_times n what
given_times n (VersionLine ∷ what) = given_times n what
given_times n (AtLine time ∷ what) = given_times n what
given_times n (CueLine time path values ∷ what) = ap (λ (ts : List Fraction). time ∷ ts) (given_times (n + 1) what)
given_times n (SetLine time path value ∷ what) = ap (λ (ts : List Fraction). time ∷ ts) (given_times (n + 1) what)
given_times n (StopLine time name ∷ what) = ap (λ (ts : List Fraction). time ∷ ts) (given_times (n + 1) what)

-- Sizes

directive_long : (name line rest : List ℕ) → content_of line ≡ name ++ rest → length name ≤ length line
directive_long name line rest e =
    let cut : length (content_of line) ≡ prefix_len (λ x. not (is_newline x)) line = length-take-le (prefix_len (λ x. not (is_newline x)) line) line (prefix_len-le-length (λ x. not (is_newline x)) line) in
    omega (arith, cut, prefix_len-le-length (λ x. not (is_newline x)) line, ap length e, length-append name rest)

length_concat : (line : List ℕ) (lines : List (List ℕ)) → length (concat (line ∷ lines)) ≡ length line + length (concat lines)
length_concat line lines = length-append line (concat lines)

-- each line with which a text begins has three bytes at least
few_texts : (before : List Line) (lines : List (List ℕ)) (what : List Line) (n : ℕ) → Follow before lines what → 3 * length (later_texts n what) ≤ length (concat lines)
few_texts before [] [] n f = omega arith
few_texts before [] (x ∷ what) n f = absurd f
few_texts before (line ∷ lines) [] n f = omega arith
few_texts before (line ∷ lines) (PlainLine bytes ∷ what) n f = omega (arith, few_texts (before ++ PlainLine bytes ∷ []) lines what (n + 1) f.1, length_concat line lines)
few_texts before (line ∷ lines) (VersionLine ∷ what) n f = omega (arith, few_texts (before ++ VersionLine ∷ []) lines what (n + 1) f.1, length_concat line lines)
few_texts before (line ∷ lines) (AtLine time ∷ what) n f =
    let d = f.0.form.directive in
    let long : 3 ≤ length line = directive_long (codes "%at") line d.rest d.whole in
    omega (arith, few_texts (before ++ AtLine time ∷ []) lines what (n + 1) f.1, length_concat line lines, long)
few_texts before (line ∷ lines) (CueLine time path values ∷ what) n f = omega (arith, few_texts (before ++ CueLine time path values ∷ []) lines what (n + 1) f.1, length_concat line lines)
few_texts before (line ∷ lines) (SetLine time path value ∷ what) n f = omega (arith, few_texts (before ++ SetLine time path value ∷ []) lines what (n + 1) f.1, length_concat line lines)
few_texts before (line ∷ lines) (StopLine time name ∷ what) n f = omega (arith, few_texts (before ++ StopLine time name ∷ []) lines what (n + 1) f.1, length_concat line lines)

few_inputs : (before : List Line) (lines : List (List ℕ)) (what : List Line) (n : ℕ) → Follow before lines what → length (inputs_from n what) ≤ length lines
few_inputs before [] [] n f = omega arith
few_inputs before [] (x ∷ what) n f = absurd f
few_inputs before (line ∷ lines) [] n f = omega arith
few_inputs before (line ∷ lines) (PlainLine bytes ∷ what) n f = omega (arith, few_inputs (before ++ PlainLine bytes ∷ []) lines what n f.1)
few_inputs before (line ∷ lines) (VersionLine ∷ what) n f = omega (arith, few_inputs (before ++ VersionLine ∷ []) lines what n f.1)
few_inputs before (line ∷ lines) (AtLine time ∷ what) n f = omega (arith, few_inputs (before ++ AtLine time ∷ []) lines what n f.1)
few_inputs before (line ∷ lines) (CueLine time path values ∷ what) n f = omega (arith, few_inputs (before ++ CueLine time path values ∷ []) lines what (n + 1) f.1)
few_inputs before (line ∷ lines) (SetLine time path value ∷ what) n f = omega (arith, few_inputs (before ++ SetLine time path value ∷ []) lines what (n + 1) f.1)
few_inputs before (line ∷ lines) (StopLine time name ∷ what) n f = omega (arith, few_inputs (before ++ StopLine time name ∷ []) lines what (n + 1) f.1)

text_short : (before : List Line) (lines : List (List ℕ)) (what : List Line) → Follow before lines what → length (text_before_directive what) ≤ length (concat lines)
text_short before [] [] f = omega arith
text_short before [] (x ∷ what) f = absurd f
text_short before (line ∷ lines) [] f = omega arith
text_short before (line ∷ lines) (PlainLine bytes ∷ what) f =
    omega (arith, text_short (before ++ PlainLine bytes ∷ []) lines what f.1, length_concat line lines, ap length f.0.form.same, length-append bytes (text_before_directive what))
text_short before (line ∷ lines) (VersionLine ∷ what) f = omega arith
text_short before (line ∷ lines) (AtLine time ∷ what) f = omega arith
text_short before (line ∷ lines) (CueLine time path values ∷ what) f = omega arith
text_short before (line ∷ lines) (SetLine time path value ∷ what) f = omega arith
text_short before (line ∷ lines) (StopLine time name ∷ what) f = omega arith

parts_within : (before : List Line) (lines : List (List ℕ)) (what : List Line) (n : ℕ) → Follow before lines what → length (concat lines) ≤ 1048576 → n + length lines ≤ 1048577 → All IsTextPart (later_texts n what)
parts_within before [] [] n f h k = All-nil IsTextPart
parts_within before [] (x ∷ what) n f h k = absurd f
parts_within before (line ∷ lines) [] n f h k = All-nil IsTextPart
parts_within before (line ∷ lines) (PlainLine bytes ∷ what) n f h k = parts_within (before ++ PlainLine bytes ∷ []) lines what (n + 1) f.1 (omega (arith, length_concat line lines)) (omega arith)
parts_within before (line ∷ lines) (VersionLine ∷ what) n f h k = parts_within (before ++ VersionLine ∷ []) lines what (n + 1) f.1 (omega (arith, length_concat line lines)) (omega arith)
parts_within before (line ∷ lines) (AtLine time ∷ what) n f h k =
    let short = text_short (before ++ AtLine time ∷ []) lines what f.1 in
    All-cons IsTextPart (record { time = time; first_line = n + 1; text = text_before_directive what }) (later_texts (n + 1) what)
    (record { short = omega (arith, short, length_concat line lines); from_one = omega arith; within = omega arith })
    (parts_within (before ++ AtLine time ∷ []) lines what (n + 1) f.1 (omega (arith, length_concat line lines)) (omega arith))
parts_within before (line ∷ lines) (CueLine time path values ∷ what) n f h k = parts_within (before ++ CueLine time path values ∷ []) lines what (n + 1) f.1 (omega (arith, length_concat line lines)) (omega arith)
parts_within before (line ∷ lines) (SetLine time path value ∷ what) n f h k = parts_within (before ++ SetLine time path value ∷ []) lines what (n + 1) f.1 (omega (arith, length_concat line lines)) (omega arith)
parts_within before (line ∷ lines) (StopLine time name ∷ what) n f h k = parts_within (before ++ StopLine time name ∷ []) lines what (n + 1) f.1 (omega (arith, length_concat line lines)) (omega arith)

empty_part : (n : ℕ) → 1 ≤ n → n ≤ 1048577 → IsTextPart (record { time = whole (pos 0); first_line = n; text = [] })
empty_part n from_one within = record { short = omega arith; from_one = from_one; within = within }

first_within : (lines : List (List ℕ)) (what : List Line) → Follow [] lines what → length (concat lines) ≤ 1048576 → IsTextPart (first_text what)
first_within [] [] f h = empty_part 1 (omega arith) (omega arith)
first_within [] (x ∷ what) f h = absurd f
first_within (line ∷ lines) [] f h = empty_part 1 (omega arith) (omega arith)
first_within (line ∷ lines) (PlainLine bytes ∷ what) f h =
    record { short = omega (arith, text_short [] (line ∷ lines) (PlainLine bytes ∷ what) f); from_one = omega arith; within = omega arith }
first_within (line ∷ lines) (VersionLine ∷ what) f h =
    record { short = omega (arith, text_short (VersionLine ∷ []) lines what f.1, length_concat line lines); from_one = omega arith; within = omega arith }
first_within (line ∷ lines) (AtLine time ∷ what) f h = empty_part 1 (omega arith) (omega arith)
first_within (line ∷ lines) (CueLine time path values ∷ what) f h = empty_part 1 (omega arith) (omega arith)
first_within (line ∷ lines) (SetLine time path value ∷ what) f h = empty_part 1 (omega arith) (omega arith)
first_within (line ∷ lines) (StopLine time name ∷ what) f h = empty_part 1 (omega arith) (omega arith)

first_time : (what : List Line) → (first_text what).time ≡ whole (pos 0)
first_time [] = refl
first_time (PlainLine bytes ∷ what) = refl
first_time (VersionLine ∷ what) = refl
first_time (AtLine time ∷ what) = refl
first_time (CueLine time path values ∷ what) = refl
first_time (SetLine time path value ∷ what) = refl
first_time (StopLine time name ∷ what) = refl

-- What is read is sound

text_list : (lines : List (List ℕ)) (what : List Line) → AreRead lines what → length (concat lines) ≤ 1048576 → AreOrderlyTimes (whole (pos 0) ∷ filter_map text_time what)
text_list lines what f short =
    let rising = rising_by text_time text_time_is [] lines what (whole (pos 0)) f zero_bounds in
    let all = rising_all (whole (pos 0)) (filter_map text_time what) rising in
    let few = few_texts [] lines what 1 f in
    record {
      few = omega (arith, few, length-map (later_texts 1 what) part_time, ap length (text_times 1 what));
      fractions = All-cons IsFraction (whole (pos 0)) (filter_map text_time what) zero_time.fraction all.0;
      start = All-cons (λ time. pos 0 ≤ℤ time.numer) (whole (pos 0)) (filter_map text_time what) zero_time.start all.1;
      rising = rising_sorted (whole (pos 0)) (filter_map text_time what) rising;
    }

input_list : (lines : List (List ℕ)) (what : List Line) → AreRead lines what → length lines ≤ 1048576 → AreOrderlyTimes (filter_map given_time what)
input_list lines what f few_lines =
    let rising = rising_by given_time given_time_is [] lines what (whole (pos 0)) f zero_bounds in
    let all = rising_all (whole (pos 0)) (filter_map given_time what) rising in
    let few = few_inputs [] lines what 1 f in
    record {
      few = omega (arith, few, length-map (inputs_from 1 what) event_time, ap length (given_times 1 what));
      fractions = all.0;
      start = all.1;
      rising = sorted_times (whole (pos 0)) (filter_map given_time what) rising;
    }

pub sound : (lines : List (List ℕ)) (what : List Line) → AreRead lines what → length lines ≤ 1048576 → length (concat lines) ≤ 1048576 → IsSound (session_of what)
sound lines what f few short = record {
  orderly = record {
    texts = subst AreOrderlyTimes (sym (ap (λ (t : Fraction). t ∷ map part_time (later_texts 1 what)) (first_time what) ∙ ap (λ (ts : List Fraction). whole (pos 0) ∷ ts) (text_times 1 what))) (text_list lines what f short);
    inputs_times = subst AreOrderlyTimes (sym (given_times 1 what)) (input_list lines what f few);
    each = λ k input e. each_input 1 (inputs_from 1 what) (inputs_are [] lines what 1 f) k input e;
  };
  texts_within = All-cons IsTextPart (first_text what) (later_texts 1 what) (first_within lines what f short) (parts_within [] lines what 1 f short (omega arith));
}

pub whole_sound : (s : Standing) (w : IsWhole s) (texts : List TextPart) (inputs : List EventView) → texts ≡ s.texts ++ open_texts s.open_text [] → inputs ≡ s.inputs → IsSound (record { texts = texts; inputs = inputs })
whole_sound s w texts inputs e f = subst IsSound (sym (finished w.what s texts inputs w.holds e f)) (sound w.lines w.what w.read w.few w.short)
