-- What is known of the arguments and options of the calls with effects, where what they are given is within the limits of the language.
use Rattle.std.proofs.Common.{◌≡◌, ◌≢◌, ◌*◌, ◌*ℤ◌, ℕ, zero, suc, ℤ, pos, negsuc, List, [], ◌∷◌, length, Bool, true, false, cond, Option, Some, None, Result, Ok, Err, inr, refl, sym, ap, ◌∙◌, subst, true≢false, arith}
use Rattle.std.specs.Prelude.{IfOk, IfSome, IsOk, IsTrue, codes, int_le, int_lt, not, ok_or, slice_get, unwrap_or}
use Rattle.std.specs.List.{AllByRecursion, cons_option, filter_map, list_all}
use Rattle.std.proofs.lemmas.Bool.{le-ltb}
use Rattle.std.proofs.lemmas.Result.{IfOk-at_ok}
use Rattle.vt_check.specs.Conditions.{begins_with_slash}
use Rattle.vt_frac.specs.Arithmetic.{product_of, quotient_of}
use Rattle.vt_frac.specs.Fraction.{Fraction, IsFraction, fits, over, reduced, whole}
use Rattle.vt_path.specs.declared.inner_path.InnerKind.{InnerKind}
use Rattle.vt_path.specs.declared.inner_path.InnerKind.TheVariants.{Stop as StopPath}
use Rattle.vt_path.specs.declared.pattern.Segment.{Segment}
use Rattle.vt_path.specs.AnyOf.{any_of_name}
use Rattle.vt_path.specs.Inner.{inner_of}
use Rattle.vt_path.specs.Match.{literal_of}
use Rattle.vt_path.specs.Path.{IsPath, IsSegment}
use Rattle.vt_path.proofs.PathDecided.{path_of}
use Rattle.vt_path.specs.Pattern.{IsPattern}
use Rattle.vt_path.proofs.PatternDecided.{pattern_of}
use Rattle.vt_path.proofs.DecidedLemmas.{path_where_written, pattern_where_written}
use Rattle.vt_path.proofs.LiteralLemmas.{any_of_good}
use Rattle.vt_ring.specs.Answers.{and_then}
use Rattle.vt_ring.specs.Exact.{exact, exact_product, exact_quotient, exact_sum, is_negative}
use Rattle.vt_ring.specs.Items.{indices, wrapped}
use Rattle.vt_ring.specs.Signatures.{a_number, one_of, option_named, ring_argument, symbol_argument}
use Rattle.vt_ring.proofs.limits.Values.{IsRingWithin, here, ring_if, within_nil}
use Rattle.vt_ring.proofs.limits.Answers.{and_then_any, and_then_gives, cond_gives, ok_or_gives}
use Rattle.vt_ring.proofs.limits.Fractions.{product_gives}
use Rattle.vt_ring.proofs.limits.Arguments.{a_number_gives, one_gives, ring_argument_gives, symbol_argument_gives}
use Rattle.vt_ring.proofs.Elements.{each_found, each_passes}
use Rattle.vt_value.specs.declared.fault.FaultKind.{FaultKind}
use Rattle.vt_value.specs.declared.fault.FaultKind.TheVariants.{BadPath, BadValue, Overflow, WrongKind}
use Rattle.vt_value.specs.declared.value.Value.{Value, out-Value}
use Rattle.vt_value.specs.declared.value.Value.TheOpen.{Value-F}
use Rattle.vt_value.specs.declared.value.Value.TheVariants.{Nil}
use Rattle.vt_value.specs.Kinds.{ring_of}
use Rattle.vt_value.specs.Limits.{AreWithin, IsWithin, WithinLayer}
use Rattle.vt_frac.specs.Names.{is_symbol_name}
use Rattle.vt_run.specs.declared.role.Role.{Role}
use Rattle.vt_run.specs.declared.role.Role.TheVariants.{Plain, Named, Looped, Timed}
use Rattle.vt_run.specs.declared.state.State.{State}
use Rattle.vt_run.specs.Actions.{stop_pattern}
use Rattle.vt_run.specs.calls.Arguments.{Given, a_symbol, all_args, each_of, items_round, path_argument, path_layer, path_text_of, pattern_argument, pattern_layer, pattern_text_of, ring_if_given}
use Rattle.vt_run.specs.Delays.{is_delay}
use Rattle.vt_run.specs.Limits.{IsPatternWithin, IsRestWithin, IsRoleWithin, IsStopWithin, IsWaitWithin}
use Rattle.vt_run.specs.calls.MessageCalls.{a_pattern}
use Rattle.vt_run.specs.calls.SettingCalls.{a_tempo}
use Rattle.vt_run.specs.Tempo.{is_tempo}
use Rattle.vt_run.specs.calls.ThreadCalls.{LoopParts, loop_parts, loop_role, thread_role, wait_option}
use Rattle.vt_run.specs.calls.TimeCalls.{beats_of, rest_of, seconds_of}
use Rattle.vt_run.proofs.facts.EventFacts.{inner_path}
use Rattle.vt_run.proofs.facts.Known.{IsGivenWithin, IsStateWithin}
use Rattle.vt_run.proofs.facts.NameFacts.{named_path, path_outside, word_outside}
use Rattle.vt_run.proofs.facts.PairFacts.{option_if, or_if}

abbrev pub IsSymbol : List ℕ → Type 0
IsSymbol name = IsTrue (is_symbol_name name)

pub a_symbol_gives : (args : List Value) → AreWithin args → IfOk (a_symbol args) IsSymbol
a_symbol_gives args h = and_then_gives (one_of args) symbol_argument IsWithin IsSymbol (one_gives args h) symbol_argument_gives

pub symbol_fact : (given : Given) (name : List ℕ) → a_symbol (all_args given) ≡ Ok name → IsGivenWithin given → IsTrue (is_symbol_name name)
symbol_fact given name e h = IfOk-at_ok IsSymbol e (a_symbol_gives (all_args given) h.args)

-- what holds of an answer under L
pub under : {A : Type 0} (L : Type 0) (answer : Result A FaultKind) (P : A → Type 0) → (L → IfOk answer P) → IfOk answer (λ a. L → P a)
under L (Ok a) P h = h
under L (Err kind) P h = tt

-- Rings

pub each_of_within : (value : Value) → IsWithin value → AreWithin (each_of value)
each_of_within value h = go (ring_of value) (ring_if value h) where
  go : (found : Option (List Value)) → IfSome found IsRingWithin → AreWithin (unwrap_or found (value ∷ []))
  go None k = (h, tt)
  go (Some items) k = k.each

pub ring_if_given_gives : (found : Option Value) → IfSome found IsWithin → IfOk (ring_if_given found) (λ ring. IfSome ring AreWithin)
ring_if_given_gives None h = tt
ring_if_given_gives (Some value) h = and_then_gives (ring_argument value) (λ items. Ok (Some items)) IsRingWithin (λ ring. IfSome ring AreWithin) (ring_argument_gives value h) (λ items k. k.each)

cons_within : (found : Option Value) (values : List Value) → IfSome found IsWithin → AreWithin values → AreWithin (cons_option found values)
cons_within None values h k = k
cons_within (Some value) values h k = (h, k)

pub items_round_within : (n : ℕ) (items : List Value) → AreWithin items → AreWithin (items_round n items)
items_round_within n items h = go (indices n) where
  go : (places : List ℕ) → AreWithin (filter_map (λ i. slice_get items (wrapped (pos i) (length items))) places)
  go [] = tt
  go (place ∷ places) =
      let i = wrapped (pos place) (length items) in
      cons_within (slice_get items i) (filter_map (λ i. slice_get items (wrapped (pos i) (length items))) places) (each_found IsWithin items i h) (go places)

-- Patterns

pattern_of_if : (bytes : List ℕ) → IfSome (pattern_of bytes) IsPattern
pattern_of_if bytes = go (pattern_of bytes) refl where
  go : (found : Option (List Segment)) → pattern_of bytes ≡ found → IfSome found IsPattern
  go None e = tt
  go (Some pattern) e = ((pattern_where_written bytes pattern).0 e).0

pattern_text_gives : (bytes : List ℕ) → IfOk (pattern_text_of bytes) IsPattern
pattern_text_gives bytes = go (begins_with_slash bytes) where
  go : (b : Bool) → IfOk (cond b (ok_or (pattern_of bytes) BadPath) (cond (is_symbol_name bytes) (Ok (any_of_name bytes)) (Err BadPath))) IsPattern
  go true = ok_or_gives (pattern_of bytes) BadPath IsPattern (pattern_of_if bytes)
  go false = cond_gives (is_symbol_name bytes) (Ok (any_of_name bytes)) BadPath IsPattern (λ e. any_of_good bytes e)

pattern_layer_if : (layer : Value-F Value) → WithinLayer layer → IfSome (pattern_layer layer) (λ named. IfOk named IsPattern)
pattern_layer_if Value-F.Nil h = tt
pattern_layer_if (Value-F.Bool b) h = tt
pattern_layer_if (Value-F.Whole n) h = tt
pattern_layer_if (Value-F.Part f) h = tt
pattern_layer_if (Value-F.Sym name) h = any_of_good name h
pattern_layer_if (Value-F.Text bytes) h = pattern_text_gives bytes
pattern_layer_if (Value-F.Ring items) h = tt

pub pattern_argument_gives : (value : Value) → IsWithin value → IfOk (pattern_argument value) (λ named. IfOk named IsPattern)
unfolding pattern_argument
pattern_argument_gives value h = ok_or_gives (pattern_layer (out-Value value)) WrongKind (λ named. IfOk named IsPattern) (pattern_layer_if (out-Value value) (here value h))

a_pattern_gives : (args : List Value) → AreWithin args → IfOk (a_pattern args) IsPattern
a_pattern_gives args h =
    and_then_gives (one_of args) (λ value. and_then (pattern_argument value) (λ named. named)) IsWithin IsPattern (one_gives args h) (λ value k.
    and_then_gives (pattern_argument value) (λ named. named) (λ named. IfOk named IsPattern) IsPattern (pattern_argument_gives value k) (λ named good. good))

pub pattern_fact : (args : List Value) (pattern : List Segment) → a_pattern args ≡ Ok pattern → AreWithin args → IsPattern pattern
pattern_fact args pattern e h = IfOk-at_ok IsPattern e (a_pattern_gives args h)

pub inner_pattern : (kind : InnerKind) (name : List ℕ) → IsTrue (is_symbol_name name) → IsPatternWithin (literal_of (inner_of kind name))
inner_pattern kind name h = inr (record { path = inner_of kind name; inner = inner_path kind name h; whole = refl })

-- the pattern of the stop of a live loop
pub stop_within : (role : Role) → IsRoleWithin role → IsStopWithin (stop_pattern role)
stop_within Plain h = tt
stop_within (Named name) h = tt
stop_within (Looped name wait init) h = record { path = inner_of StopPath name; inner = inner_path StopPath name h.0; whole = refl }
stop_within (Timed rest given line) h = tt

-- Paths

-- a path that a call names: no inner one, and under L one that a user may write
pub record IsWrittenPath (L : Type 0) (path : List (List ℕ)) : Type 0 where
  pub outside : (kind : InnerKind) (name : List ℕ) → path ≢ inner_of kind name
  pub good : L → IsPath path

module _ (L : Type 0) (word : List ℕ) (w : IsSegment word) where
  word_written : (name : List ℕ) → (L → IsSymbol name) → IsWrittenPath L (word ∷ name ∷ [])
  word_written name h = record { outside = word_outside word name w; good = λ l. named_path word name w (h l) }

  path_of_if : (bytes : List ℕ) → IfSome (path_of bytes) (IsWrittenPath L)
  path_of_if bytes = go (path_of bytes) refl where
    go : (found : Option (List (List ℕ))) → path_of bytes ≡ found → IfSome found (IsWrittenPath L)
    go None e = tt
    go (Some path) e =
        let good = ((path_where_written bytes path).0 e).0 in
        record { outside = path_outside path good; good = λ l. good }

  path_text_gives : (bytes : List ℕ) → IfOk (path_text_of word bytes) (IsWrittenPath L)
  path_text_gives bytes = go (begins_with_slash bytes) where
    go : (b : Bool) → IfOk (cond b (ok_or (path_of bytes) BadPath) (cond (is_symbol_name bytes) (Ok (word ∷ bytes ∷ [])) (Err BadPath))) (IsWrittenPath L)
    go true = ok_or_gives (path_of bytes) BadPath (IsWrittenPath L) (path_of_if bytes)
    go false = cond_gives (is_symbol_name bytes) (Ok (word ∷ bytes ∷ [])) BadPath (IsWrittenPath L) (λ e. word_written bytes (λ l. e))

  path_layer_if : (layer : Value-F Value) → (L → WithinLayer layer) → IfSome (path_layer word layer) (λ named. IfOk named (IsWrittenPath L))
  path_layer_if Value-F.Nil h = tt
  path_layer_if (Value-F.Bool b) h = tt
  path_layer_if (Value-F.Whole n) h = tt
  path_layer_if (Value-F.Part f) h = tt
  path_layer_if (Value-F.Sym name) h = word_written name h
  path_layer_if (Value-F.Text bytes) h = path_text_gives bytes
  path_layer_if (Value-F.Ring items) h = tt

  pub path_argument_gives : (value : Value) → (L → IsWithin value) → IfOk (path_argument word value) (λ named. IfOk named (IsWrittenPath L))
  unfolding path_argument
  path_argument_gives value h = ok_or_gives (path_layer word (out-Value value)) WrongKind (λ named. IfOk named (IsWrittenPath L)) (path_layer_if (out-Value value) (λ l. here value (h l)))

-- Tempos, roles and live loops

pub a_tempo_gives : (given : Given) → IsGivenWithin given → IfOk (a_tempo given) (λ bpm. IsFraction bpm × IsTrue (is_tempo bpm))
a_tempo_gives given h =
    and_then_gives (a_number (all_args given)) (λ bpm. cond (is_tempo bpm) (Ok bpm) (Err BadValue)) IsFraction (λ bpm. IsFraction bpm × IsTrue (is_tempo bpm)) (a_number_gives (all_args given) h.args) (λ bpm fraction.
    cond_gives (is_tempo bpm) (Ok bpm) BadValue (λ bpm. IsFraction bpm × IsTrue (is_tempo bpm)) (λ e. (fraction, e)))

pub tempo_fact : (given : Given) (bpm : Fraction) → a_tempo given ≡ Ok bpm → IsGivenWithin given → IsFraction bpm × IsTrue (is_tempo bpm)
tempo_fact given bpm e h = IfOk-at_ok (λ bpm. IsFraction bpm × IsTrue (is_tempo bpm)) e (a_tempo_gives given h)

thread_role_gives : (found : Option Value) → IfSome found IsWithin → IfOk (thread_role found) IsRoleWithin
thread_role_gives None h = tt
thread_role_gives (Some value) h = and_then_gives (symbol_argument value) (λ name. Ok (Named name)) IsSymbol IsRoleWithin (symbol_argument_gives value h) (λ name symbol. symbol)

pub role_fact : (given : Given) (role : Role) → thread_role (option_named (codes "name") given.options) ≡ Ok role → IsGivenWithin given → IsRoleWithin role
role_fact given role e h =
    let found = option_named (codes "name") given.options in
    IfOk-at_ok IsRoleWithin e (thread_role_gives found (option_if (codes "name") given.options h.options))

wait_option_gives : (found : Option Value) → IfSome found IsWithin → IfOk (wait_option found) IsWaitWithin
wait_option_gives None h = tt
wait_option_gives (Some value) h =
    and_then_gives (pattern_argument value) (λ named. and_then named (λ pattern. Ok (Some pattern))) (λ named. IfOk named IsPattern) IsWaitWithin (pattern_argument_gives value h) (λ named good.
    and_then_gives named (λ pattern. Ok (Some pattern)) IsPattern IsWaitWithin good (λ pattern k. k))

abbrev ArePartsWithin : LoopParts → Type 0
ArePartsWithin parts = IsRoleWithin (loop_role parts)

loop_parts_give : (given : Given) → IsGivenWithin given → IfOk (loop_parts given) ArePartsWithin
loop_parts_give given h =
    let found = option_named (codes "sync") given.options in
    let first = option_named (codes "init") given.options in
    and_then_gives (a_symbol (all_args given)) _ IsSymbol _ (a_symbol_gives (all_args given) h.args) (λ name symbol.
    and_then_gives (wait_option found) _ IsWaitWithin _ (wait_option_gives found (option_if (codes "sync") given.options h.options)) (λ wait good.
    (symbol, good, or_if IsWithin first Nil (option_if (codes "init") given.options h.options) within_nil)))

pub loop_fact : (given : Given) (parts : LoopParts) → loop_parts given ≡ Ok parts → IsGivenWithin given → IsRoleWithin (loop_role parts)
loop_fact given parts e h = IfOk-at_ok ArePartsWithin e (loop_parts_give given h)

-- Rests

is_there : {A : Type 0} (answer : Result A FaultKind) → IfOk answer (λ value. IsOk answer)
is_there (Ok value) = refl
is_there (Err kind) = tt

-- what follows the length of a rest: the time after it fits
rest_after : (st : State) (seconds : Fraction) → IfOk (and_then (exact_sum st.time seconds) (λ time. Ok seconds)) (λ seconds. IsOk (exact_sum st.time seconds))
rest_after st seconds =
    and_then_gives (exact_sum st.time seconds) (λ time. Ok seconds) (λ time. IsOk (exact_sum st.time seconds)) (λ seconds. IsOk (exact_sum st.time seconds)) (is_there (exact_sum st.time seconds)) (λ time k. k)

rest_there : (st : State) (beats : Fraction) → IfOk (rest_of st beats) (λ seconds. IsOk (exact_sum st.time seconds))
rest_there st beats =
    and_then_any (seconds_of beats st.settings.bpm) (λ seconds. and_then (exact_sum st.time seconds) (λ time. Ok seconds)) (λ seconds. IsOk (exact_sum st.time seconds)) (λ seconds.
    rest_after st seconds)

pub beats_fit : (st : State) (beats seconds : Fraction) → rest_of st beats ≡ Ok seconds → IsOk (exact_sum st.time seconds)
beats_fit st beats seconds e = IfOk-at_ok (λ seconds. IsOk (exact_sum st.time seconds)) e (rest_there st beats)

pub rest_fits : (given : Given) (st : State) (seconds : Fraction) → and_then (beats_of given) (rest_of st) ≡ Ok seconds → IsOk (exact_sum st.time seconds)
rest_fits given st seconds e =
    IfOk-at_ok (λ seconds. IsOk (exact_sum st.time seconds)) e
    (and_then_any (beats_of given) (rest_of st) (λ seconds. IsOk (exact_sum st.time seconds)) (rest_there st))

-- at least 0
record IsForward (f : Fraction) : Type 0 where
  size : ℕ
  is : f.numer ≡ pos size

forward_numer : (z : ℤ) → int_lt z (pos 0) ≡ false → (size : ℕ) × (z ≡ pos size)
forward_numer (pos n) e = (n, refl)
forward_numer (negsuc n) e = absurd (true≢false e)

forward_tempo : (z : ℤ) → int_lt (pos 0) z ≡ true → (size : ℕ) × (z ≡ pos size)
forward_tempo (pos n) e = (n, refl)
forward_tempo (negsuc n) e = absurd (true≢false (sym e))

not_negative : (f : Fraction) → IsForward f → is_negative f ≡ false
not_negative f h = ap (λ (z : ℤ). int_lt z (pos 0)) h.is ∙ le-ltb h.size 0 (omega arith)

over_forward : (n d : ℕ) → IsForward (over (pos n) d)
unfolding over
over_forward n zero = record { size = 0; is = refl }
over_forward n (suc d) = record { size = _; is = refl }

quotient_forward : (f g : Fraction) → IsForward f → IsForward g → IsForward (quotient_of f g)
unfolding quotient_of reduced
quotient_forward f g h k =
    subst (λ (z : ℤ). IsForward (reduced (z *ℤ pos g.denom) (g.numer *ℤ pos f.denom))) (sym h.is)
    (subst (λ (z : ℤ). IsForward (reduced (pos h.size *ℤ pos g.denom) (z *ℤ pos f.denom))) (sym k.is)
    (over_forward (h.size * g.denom) (k.size * f.denom)))

product_forward : (f g : Fraction) → IsForward f → IsForward g → IsForward (product_of f g)
unfolding product_of
product_forward f g h k =
    subst (λ (z : ℤ). IsForward (over (z *ℤ g.numer) (f.denom * g.denom))) (sym h.is)
    (subst (λ (z : ℤ). IsForward (over (pos h.size *ℤ z) (f.denom * g.denom))) (sym k.is)
    (over_forward (h.size * k.size) (f.denom * g.denom)))

exact_forward : (f : Fraction) → IsForward f → IfOk (exact f) IsForward
exact_forward f h = cond_gives (fits f) (Ok f) Overflow IsForward (λ e. h)

rest_from : (answer : Result Fraction FaultKind) → IfOk answer IsFraction → IfOk answer IsForward → IfOk answer IsRestWithin
rest_from (Ok seconds) h k = record { fraction = h; forward = not_negative seconds k }
rest_from (Err kind) h k = tt

seconds_give : (beats bpm : Fraction) → IsForward beats → IsForward bpm → IfOk (seconds_of beats bpm) IsRestWithin
seconds_give beats bpm h k =
    let sixty : IsForward (whole (pos 60)) = record { size = 60; is = refl } in
    and_then_gives (exact_quotient (whole (pos 60)) bpm) (exact_product beats) IsForward IsRestWithin (exact_forward (quotient_of (whole (pos 60)) bpm) (quotient_forward (whole (pos 60)) bpm sixty k)) (λ beat forward.
    rest_from (exact_product beats beat) (product_gives beats beat) (exact_forward (product_of beats beat) (product_forward beats beat h forward)))

forward_of : (f : Fraction) → is_negative f ≡ false → IsForward f
forward_of f e = let size = forward_numer f.numer e in record { size = size.0; is = size.1 }

forward_of_tempo : (f : Fraction) → IsTrue (is_tempo f) → IsForward f
forward_of_tempo f e = let size = forward_tempo f.numer e in record { size = size.0; is = size.1 }

-- so many beats at this tempo
pub seconds_gives : (beats bpm : Fraction) → is_negative beats ≡ false → IsTrue (is_tempo bpm) → IfOk (seconds_of beats bpm) IsRestWithin
seconds_gives beats bpm h k = seconds_give beats bpm (forward_of beats h) (forward_of_tempo bpm k)

beats_rest_gives : (st : State) (beats : Fraction) → is_negative beats ≡ false → IsStateWithin st → IfOk (rest_of st beats) IsRestWithin
beats_rest_gives st beats e h =
    and_then_gives (seconds_of beats st.settings.bpm) (λ seconds. and_then (exact_sum st.time seconds) (λ time. Ok seconds)) IsRestWithin IsRestWithin (seconds_gives beats st.settings.bpm e h.set.tempo) (λ seconds good.
    and_then_any (exact_sum st.time seconds) (λ time. Ok seconds) IsRestWithin (λ time. good))

pub beats_rest : (st : State) (beats seconds : Fraction) → rest_of st beats ≡ Ok seconds → is_negative beats ≡ false → IsStateWithin st → IsRestWithin seconds
beats_rest st beats seconds e n h = IfOk-at_ok IsRestWithin e (beats_rest_gives st beats n h)

rest_of_delay : (z : ℤ) → IsTrue (int_le (pos 0) z) → int_lt z (pos 0) ≡ false
rest_of_delay (pos n) e = le-ltb n 0 (omega arith)
rest_of_delay (negsuc n) e = absurd (true≢false (sym e))

-- a delay is a rest
pub delay_rest : (rest : Fraction) → IsFraction rest → IsTrue (is_delay rest) → IsRestWithin rest
delay_rest rest f e = record { fraction = f; forward = rest_of_delay rest.numer e }

abbrev pub IsNotNegative : Fraction → Type 0
IsNotNegative beats = is_negative beats ≡ false

not_true : (b : Bool) → not b ≡ true → b ≡ false
not_true true e = sym e
not_true false e = refl

-- numbers of which none is below 0
pub none_negative : (beats : List Fraction) → IsTrue (list_all (λ n. not (is_negative n)) beats) → AllByRecursion IsNotNegative beats
none_negative beats e = each_passes IsNotNegative (λ n. not (is_negative n)) (λ n k. not_true (is_negative n) k) beats e

beats_give : (given : Given) → IfOk (beats_of given) IsNotNegative
beats_give given =
    and_then_any (a_number (all_args given)) (λ beats. cond (not (is_negative beats)) (Ok beats) (Err BadValue)) IsNotNegative (λ beats.
    cond_gives (not (is_negative beats)) (Ok beats) BadValue IsNotNegative (λ e. not_true (is_negative beats) e))

rest_gives : (given : Given) (st : State) → IsStateWithin st → IfOk (and_then (beats_of given) (rest_of st)) IsRestWithin
rest_gives given st h = and_then_gives (beats_of given) (rest_of st) IsNotNegative IsRestWithin (beats_give given) (λ beats e. beats_rest_gives st beats e h)

pub rest_fact : (given : Given) (st : State) (seconds : Fraction) → and_then (beats_of given) (rest_of st) ≡ Ok seconds → IsGivenWithin given → IsStateWithin st → IsRestWithin seconds
rest_fact given st seconds e g h = IfOk-at_ok IsRestWithin e (rest_gives given st h)
