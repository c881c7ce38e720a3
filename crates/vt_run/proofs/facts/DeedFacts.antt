-- Each call that comes to a deed leaves values and a state within the limits of the language, and publishes well made events.
use Rattle.std.proofs.Common.{◌≡◌, ◌^◌, ◌<◌, ℕ, ℤ, pos, negsuc, ◌+ℤ◌, unsigned_abs, List, [], ◌∷◌, ◌++◌, length, Option, Some, None, Ok, refl, inl, arith, Err, Result, ap, ◌∙◌}
use Rattle.std.specs.Prelude.{IfOk, IfSome, IsTrue, codes, option_to_list, slice_get, unwrap_or}
use Rattle.std.specs.List.{AllByRecursion}
use Rattle.std.proofs.lemmas.Result.{IfOk-at_ok}
use Rattle.vt_frac.specs.Fraction.{IsFraction, whole}
use Rattle.vt_rand.specs.Draw.{RandomStream, random_stream_of}
use Rattle.vt_ring.specs.Answers.{and_then}
use Rattle.vt_ring.specs.CallTable.{value_of_call}
use Rattle.vt_ring.specs.Arguments.{whole_argument}
use Rattle.vt_ring.specs.Called.{Called}
use Rattle.vt_ring.specs.Exact.{exact_product, exact_quotient}
use Rattle.vt_ring.specs.Items.{wrapped}
use Rattle.vt_ring.specs.Signatures.{a_number, one_of, one_or_none_of, symbol_argument, two_of}
use Rattle.vt_ring.specs.Streams.{moved_on, words_from}
use Rattle.vt_ring.proofs.limits.Values.{IsWholeWithin, fitting_gives, ring_within_gives, within_nil, within_part, within_whole}
use Rattle.vt_ring.proofs.limits.Answers.{and_then_any, and_then_gives, cond_gives, ok_or_gives}
use Rattle.vt_ring.proofs.limits.Fractions.{product_gives}
use Rattle.vt_ring.proofs.limits.Arguments.{IsSomeWithin, one_gives, one_or_none_gives, symbol_argument_gives, two_give, whole_argument_gives}
use Rattle.vt_ring.proofs.limits.Calls.{called_gives}
use Rattle.vt_ring.proofs.limits.RandomCalls.{stream_words}
use Rattle.vt_ring.proofs.Elements.{each_found}
use Rattle.vt_table.specs.declared.calls.CallName.{CallName}
use Rattle.vt_value.specs.declared.fault.FaultKind.TheVariants.{EmptyRing, WrongKind}
use Rattle.vt_value.specs.declared.value.Value.{Value}
use Rattle.vt_value.specs.declared.value.Value.TheVariants.{Nil, Part}
use Rattle.vt_value.specs.Arithmetic.{fitting, ring_within}
use Rattle.vt_value.specs.Limits.{AreWithin, IsWithin}
use Rattle.vt_frac.specs.Names.{is_symbol_name}
use Rattle.vt_event.specs.declared.place.Place.{Place}
use Rattle.vt_event.specs.Event.{EventView}
use Rattle.vt_event.specs.EventsByKind.{cue_event, log_event, sample_event, set_event, synth_event}
use Rattle.vt_event.specs.Kinds.{is_sample_name}
use Rattle.vt_run.specs.declared.settings.Settings.{Settings}
use Rattle.vt_run.specs.declared.state.State.{State}
use Rattle.vt_run.specs.calls.Arguments.{Given, a_symbol, all_args, has_item, path_argument, ring_if_given}
use Rattle.vt_run.specs.calls.Deeds.{Deed, changed_to, publishing, valued}
use Rattle.vt_run.specs.calls.EffectTable.{computed, computed_by}
use Rattle.vt_run.specs.Limits.{AreSettingsWithin}
use Rattle.vt_run.specs.calls.MessageCalls.{cue_call, cue_of, puts_call, set_call}
use Rattle.vt_run.specs.calls.PlayCalls.{notes_to_play, play_call, sample_argument, sample_call, synth_call}
use Rattle.vt_run.specs.calls.SettingCalls.{a_seed, a_tempo, use_bpm_call, use_debug_call, use_random_seed_call, use_synth_call, use_synth_defaults_call, with_stream}
use Rattle.vt_run.specs.Tempo.{is_tempo}
use Rattle.vt_run.specs.calls.TickCalls.{Counters, counted, counter_and_number, counter_name, counter_of, look_call, ring_and_counter, tick_call, tick_reset_call, tick_set_call, with_counter, without_counter}
use Rattle.vt_run.specs.calls.TimeCalls.{current_bpm_call, rt_call, vt_call}
use Rattle.vt_run.proofs.facts.ArgumentFacts.{IsSymbol, IsWrittenPath, a_symbol_gives, a_tempo_gives, path_argument_gives, ring_if_given_gives, under}
use Rattle.vt_run.proofs.facts.EventFacts.{cue_told, log_told, sample_told, set_told, synth_told}
use Rattle.vt_run.proofs.facts.Known.{IsCounterWithin, IsDeed, IsGivenWithin, IsStateWithin, IsTold, like, Quiet, SentBy}
use Rattle.vt_run.proofs.facts.NameFacts.{cue_segment, set_segment}
use Rattle.vt_run.proofs.facts.NoteFacts.{ArePlayed, notes_to_play_give, played_told}
use Rattle.vt_run.proofs.facts.PairFacts.{counter_if, or_if, with_counter_within, without_counter_within}
use Rattle.vt_value.specs.declared.fault.FaultKind.{FaultKind}

default_symbol : IsSymbol (codes "default")
unfolding is_symbol_name
default_symbol = refl

-- the value before the dot, and the arguments behind it
receiver_and_args : (receiver : Option Value) (args : List Value) → AreWithin (option_to_list receiver ++ args) → IfSome receiver IsWithin × AreWithin args
receiver_and_args None args h = (tt, h)
receiver_and_args (Some value) args h = (h.0, h.1)

-- a ring or none, and the name of a counter
abbrev IsRingAndCounter : Option (List Value) × List ℕ → Type 0
IsRingAndCounter parts = IfSome parts.0 AreWithin × IsTrue (is_symbol_name parts.1)

counter_name_gives : (named : Option Value) → IfSome named IsWithin → IfOk (counter_name named) IsSymbol
counter_name_gives None h = default_symbol
counter_name_gives (Some value) h = symbol_argument_gives value h

ring_and_counter_gives : (given : Given) → IsGivenWithin given → IfOk (ring_and_counter given) IsRingAndCounter
ring_and_counter_gives given h =
    let parts = receiver_and_args given.receiver given.args h.args in
    and_then_gives (one_or_none_of given.args) _ IsSomeWithin _ (one_or_none_gives given.args parts.1) (λ named n.
    and_then_gives (ring_if_given given.receiver) _ (λ ring. IfSome ring AreWithin) _ (ring_if_given_gives given.receiver parts.0) (λ ring r.
    and_then_gives (counter_name named) _ IsSymbol _ (counter_name_gives named n) (λ name symbol.
    cond_gives (has_item ring) (Ok (ring, name)) EmptyRing IsRingAndCounter (λ e. (r, symbol)))))

counted_gives : (ring : Option (List Value)) (number : ℤ) → IfSome ring AreWithin → unsigned_abs number < 2 ^ 63 → IfOk (counted ring number) IsWithin
counted_gives None number r small = within_whole number small
counted_gives (Some items) number r small =
    let place = wrapped number (length items) in
    ok_or_gives (slice_get items place) EmptyRing IsWithin (each_found IsWithin items place r)

-- a name of a counter, and its number
abbrev IsCounterAndNumber : List ℕ × ℤ → Type 0
IsCounterAndNumber parts = IsTrue (is_symbol_name parts.0) × IsWholeWithin parts.1

counter_and_number_gives : (args : List Value) → AreWithin args → IfOk (counter_and_number args) IsCounterAndNumber
counter_and_number_gives [] h = tt
counter_and_number_gives (number ∷ []) h =
    and_then_gives (whole_argument number) (λ n. Ok (codes "default", n)) IsWholeWithin IsCounterAndNumber (whole_argument_gives number h.0) (λ n small. (default_symbol, small))
counter_and_number_gives (counter ∷ number ∷ []) h =
    and_then_gives (symbol_argument counter) (λ name. and_then (whole_argument number) (λ n. Ok (name, n))) IsSymbol IsCounterAndNumber (symbol_argument_gives counter h.0) (λ name symbol.
    and_then_gives (whole_argument number) (λ n. Ok (name, n)) IsWholeWithin IsCounterAndNumber (whole_argument_gives number h.1.0) (λ n small.
    (symbol, small)))
counter_and_number_gives (counter ∷ number ∷ more ∷ rest) h = tt

-- a fact of an answer, with what the answer is
with_answer : {A : Type 0} (answer : Result A FaultKind) (P : A → Type 0) → IfOk answer P → IfOk answer (λ a. (answer ≡ Ok a) × P a)
with_answer (Ok a) P h = (refl, h)
with_answer (Err kind) P h = tt

two_are : (args : List Value) (both : Value × Value) → two_of args ≡ Ok both → args ≡ both.0 ∷ both.1 ∷ []
two_are [] both e = absurd cc
two_are (a ∷ []) both e = absurd cc
two_are (a ∷ b ∷ []) both e = let same : (a, b) ≡ both = cc in ap (λ z. z.0 ∷ z.1 ∷ []) same
two_are (a ∷ b ∷ c ∷ args) both e = absurd cc

module _ (L : Type 0) (T : EventView → Type 0) (quiet : Quiet L T) (given : Given) (st : State) (g : L → IsGivenWithin given) (s : L → IsStateWithin st) where
  -- Deeds of each form

  valued_deed : (value : Value) → (L → IsWithin value) → IsDeed L T st (valued st value)
  valued_deed value v = record { alike = like st.locals st.settings st.ticks st.stream st.moved; value = v; state = s; events = tt }

  publishing_deed : (event : Place → EventView) → ((place : Place) → (L → IsFraction place.time) → IsTold L T place (event place)) → IsDeed L T st (publishing st event)
  publishing_deed event told = record { alike = like st.locals st.settings st.ticks st.stream st.moved; value = λ l. within_nil; state = s; events = (told, tt) }

  settings_deed : (settings : Settings) → (L → AreSettingsWithin settings) → IsDeed L T st (changed_to (record st { settings = settings }))
  settings_deed settings h = record {
    alike = like st.locals settings st.ticks st.stream st.moved;
    value = λ l. within_nil;
    state = λ l. record { fraction = (s l).fraction; pairs = (s l).pairs; set = h l; counters = (s l).counters };
    events = tt;
  }

  ticks_deed : (ticks : Counters) (value : Value) → (L → AllByRecursion IsCounterWithin ticks) → (L → IsWithin value) → IsDeed L T st (valued (record st { ticks = ticks }) value)
  ticks_deed ticks value h v = record {
    alike = like st.locals st.settings ticks st.stream st.moved;
    value = v;
    state = λ l. record { fraction = (s l).fraction; pairs = (s l).pairs; set = (s l).set; counters = h l };
    events = tt;
  }

  stream_deed : (stream : RandomStream) (value : Value) → (L → IsWithin value) → IsDeed L T st (valued (with_stream stream st) value)
  stream_deed stream value v = record { alike = like st.locals st.settings st.ticks stream st.moved; value = v; state = s; events = tt }

  -- Messages

  cue_of_gives : (args : List Value) → (L → AreWithin args) → SentBy L T (codes "cue") cue_event args → IfOk (cue_of args st) (IsDeed L T st)
  cue_of_gives [] h k = tt
  cue_of_gives (to ∷ values) h k =
      and_then_gives (path_argument (codes "cue") to) _ _ _ (with_answer (path_argument (codes "cue") to) (λ named. IfOk named (IsWrittenPath L)) (path_argument_gives L (codes "cue") cue_segment to (λ l. (h l).0))) (λ named n.
      and_then_gives named _ _ _ (with_answer named (IsWrittenPath L) n.1) (λ path p.
      and_then_gives (ring_within values) _ (λ ring. L → IsWithin ring) _ (under L (ring_within values) IsWithin (λ l. ring_within_gives values (h l).1)) (λ ring r.
      publishing_deed (λ place. cue_event place path ring) (λ place time. cue_told L T path ring place (λ l. inl (p.1.good l)) r time p.1.outside (λ l. k l to values path refl (n.0 ∙ ap (λ named. Ok named) p.0) place ring)))))

  cue_gives : SentBy L T (codes "cue") cue_event (all_args given) → IfOk (cue_call given st) (IsDeed L T st)
  unfolding cue_call
  cue_gives k = cue_of_gives (all_args given) (λ l. (g l).args) k

  set_gives : SentBy L T (codes "set") set_event (all_args given) → IfOk (set_call given st) (IsDeed L T st)
  unfolding set_call
  set_gives k =
      and_then_gives (two_of (all_args given)) _ _ _ (with_answer (two_of (all_args given)) (λ both. L → IsWithin both.0 × IsWithin both.1) (under L (two_of (all_args given)) (λ both. IsWithin both.0 × IsWithin both.1) (λ l. two_give (all_args given) (g l).args))) (λ both b.
      and_then_gives (path_argument (codes "set") both.0) _ _ _ (with_answer (path_argument (codes "set") both.0) (λ named. IfOk named (IsWrittenPath L)) (path_argument_gives L (codes "set") set_segment both.0 (λ l. (b.1 l).0))) (λ named n.
      and_then_gives named _ _ _ (with_answer named (IsWrittenPath L) n.1) (λ path p.
      publishing_deed (λ place. set_event place path both.1) (λ place time. set_told L T path both.1 place (λ l. inl (p.1.good l)) (λ l. (b.1 l).1) time p.1.outside (λ l. k l both.0 (both.1 ∷ []) path (two_are (all_args given) both b.0) (n.0 ∙ ap (λ named. Ok named) p.0) place both.1)))))

  puts_gives : IfOk (puts_call given st) (IsDeed L T st)
  unfolding puts_call
  puts_gives =
      and_then_gives (ring_within (all_args given)) _ (λ ring. L → IsWithin ring) _ (under L (ring_within (all_args given)) IsWithin (λ l. ring_within_gives (all_args given) (g l).args)) (λ ring r.
      publishing_deed (λ place. log_event place ring) (λ place time. log_told L T ring place r time quiet))

  -- What sounds

  one_under : IfOk (one_of (all_args given)) (λ value. L → IsWithin value)
  one_under = under L (one_of (all_args given)) IsWithin (λ l. one_gives (all_args given) (g l).args)

  symbol_under : IfOk (a_symbol (all_args given)) (λ name. L → IsSymbol name)
  symbol_under = under L (a_symbol (all_args given)) IsSymbol (λ l. a_symbol_gives (all_args given) (g l).args)

  play_gives : IfOk (play_call given st) (IsDeed L T st)
  unfolding play_call
  play_gives =
      and_then_gives (one_of (all_args given)) _ (λ value. L → IsWithin value) _ one_under (λ value v.
      and_then_gives (notes_to_play value) _ (ArePlayed L) _ (notes_to_play_give L value v) (λ notes n.
      record {
        alike = like st.locals st.settings st.ticks st.stream st.moved;
        value = λ l. within_nil;
        state = s;
        events = played_told L T quiet given.options st.settings notes (λ l. (g l).options) (λ l. (s l).set) n;
      }))

  synth_gives : IfOk (synth_call given st) (IsDeed L T st)
  unfolding synth_call
  synth_gives =
      and_then_gives (a_symbol (all_args given)) _ (λ name. L → IsSymbol name) _ symbol_under (λ name symbol.
      publishing_deed (λ place. synth_event place name given.options st.settings.fx) (λ place time. synth_told L T name given.options st.settings.fx place symbol (λ l. (g l).options) time quiet))

  sample_gives : IfOk (sample_call given st) (IsDeed L T st)
  unfolding sample_call
  sample_gives =
      and_then_gives (one_of (all_args given)) _ (λ value. L → IsWithin value) _ one_under (λ value v.
      and_then_gives (sample_argument value) _ (λ sample. IsTrue (is_sample_name sample) × (L → IsWithin sample)) _
      (cond_gives (is_sample_name value) (Ok value) WrongKind (λ sample. IsTrue (is_sample_name sample) × (L → IsWithin sample)) (λ e. (e, v))) (λ sample h.
      publishing_deed (λ place. sample_event place sample given.options st.settings.fx) (λ place time. sample_told L T sample given.options st.settings.fx place h.0 h.1 (λ l. (g l).options) time quiet)))

  -- Settings

  use_synth_gives : IfOk (use_synth_call given st) (IsDeed L T st)
  unfolding use_synth_call
  use_synth_gives =
      and_then_gives (a_symbol (all_args given)) _ (λ name. L → IsSymbol name) _ symbol_under (λ name symbol.
      settings_deed (record st.settings { synth = name }) (λ l. record { bpm = (s l).set.bpm; tempo = (s l).set.tempo; synth = symbol l; defaults = (s l).set.defaults }))

  use_synth_defaults_gives : IfOk (use_synth_defaults_call given st) (IsDeed L T st)
  unfolding use_synth_defaults_call
  use_synth_defaults_gives =
      settings_deed (record st.settings { defaults = given.options }) (λ l. record { bpm = (s l).set.bpm; tempo = (s l).set.tempo; synth = (s l).set.synth; defaults = (g l).options })

  use_bpm_gives : IfOk (use_bpm_call given st) (IsDeed L T st)
  unfolding use_bpm_call
  use_bpm_gives =
      and_then_gives (a_tempo given) _ (λ bpm. L → IsFraction bpm × IsTrue (is_tempo bpm)) _ (under L (a_tempo given) (λ bpm. IsFraction bpm × IsTrue (is_tempo bpm)) (λ l. a_tempo_gives given (g l))) (λ bpm b.
      settings_deed (record st.settings { bpm = bpm }) (λ l. record { bpm = (b l).0; tempo = (b l).1; synth = (s l).set.synth; defaults = (s l).set.defaults }))

  use_random_seed_gives : IfOk (use_random_seed_call given st) (IsDeed L T st)
  unfolding use_random_seed_call
  use_random_seed_gives =
      and_then_any (a_seed given) _ (IsDeed L T st) (λ seed.
      stream_deed (random_stream_of seed) Nil (λ l. within_nil))

  use_debug_gives : IfOk (use_debug_call given st) (IsDeed L T st)
  unfolding use_debug_call
  use_debug_gives =
      and_then_any (one_of (all_args given)) _ (IsDeed L T st) (λ value.
      valued_deed Nil (λ l. within_nil))

  -- Time

  current_bpm_gives : IfOk (current_bpm_call given st) (IsDeed L T st)
  unfolding current_bpm_call
  current_bpm_gives = valued_deed (Part st.settings.bpm) (λ l. within_part st.settings.bpm (s l).set.bpm)

  vt_gives : IfOk (vt_call given st) (IsDeed L T st)
  unfolding vt_call
  vt_gives = valued_deed (Part st.time) (λ l. within_part st.time (s l).fraction)

  rt_gives : IfOk (rt_call given st) (IsDeed L T st)
  unfolding rt_call
  rt_gives =
      and_then_any (a_number (all_args given)) _ (IsDeed L T st) (λ n.
      and_then_any (exact_quotient st.settings.bpm (whole (pos 60))) _ (IsDeed L T st) (λ rate.
      and_then_gives (exact_product n rate) _ IsFraction _ (product_gives n rate) (λ product fraction.
      valued_deed (Part product) (λ l. within_part product fraction))))

  -- Ticks

  ring_and_counter_under : IfOk (ring_and_counter given) (λ parts. L → IsRingAndCounter parts)
  ring_and_counter_under = under L (ring_and_counter given) IsRingAndCounter (λ l. ring_and_counter_gives given (g l))

  tick_gives : IfOk (tick_call given st) (IsDeed L T st)
  unfolding tick_call
  tick_gives =
      and_then_gives (ring_and_counter given) _ (λ parts. L → IsRingAndCounter parts) _ ring_and_counter_under (λ parts p.
      and_then_gives (fitting (unwrap_or (counter_of parts.1 st.ticks) (negsuc 0) +ℤ pos 1)) _ IsWholeWithin _ (fitting_gives (unwrap_or (counter_of parts.1 st.ticks) (negsuc 0) +ℤ pos 1)) (λ number small.
      and_then_gives (counted parts.0 number) _ (λ value. L → IsWithin value) _ (under L (counted parts.0 number) IsWithin (λ l. counted_gives parts.0 number (p l).0 small)) (λ value v.
      ticks_deed (with_counter parts.1 number st.ticks) value (λ l. with_counter_within parts.1 number st.ticks (p l).1 small (s l).counters) v)))

  look_gives : IfOk (look_call given st) (IsDeed L T st)
  unfolding look_call
  look_gives =
      and_then_gives (ring_and_counter given) _ (λ parts. L → IsRingAndCounter parts) _ ring_and_counter_under (λ parts p.
      let number = unwrap_or (counter_of parts.1 st.ticks) (pos 0) in
      let small = λ (l : L). or_if IsWholeWithin (counter_of parts.1 st.ticks) (pos 0) (counter_if parts.1 st.ticks (s l).counters) (omega arith) in
      and_then_gives (counted parts.0 number) _ (λ value. L → IsWithin value) _ (under L (counted parts.0 number) IsWithin (λ l. counted_gives parts.0 number (p l).0 (small l))) (λ value v.
      valued_deed value v))

  tick_set_gives : IfOk (tick_set_call given st) (IsDeed L T st)
  unfolding tick_set_call
  tick_set_gives =
      and_then_gives (counter_and_number (all_args given)) _ (λ parts. L → IsCounterAndNumber parts) _
      (under L (counter_and_number (all_args given)) IsCounterAndNumber (λ l. counter_and_number_gives (all_args given) (g l).args)) (λ parts p.
      ticks_deed (with_counter parts.0 parts.1 st.ticks) Nil (λ l. with_counter_within parts.0 parts.1 st.ticks (p l).0 (p l).1 (s l).counters) (λ l. within_nil))

  tick_reset_gives : IfOk (tick_reset_call given st) (IsDeed L T st)
  unfolding tick_reset_call
  tick_reset_gives =
      and_then_any (one_or_none_of (all_args given)) _ (IsDeed L T st) (λ named.
      and_then_any (counter_name named) _ (IsDeed L T st) (λ name.
      ticks_deed (without_counter name st.ticks) Nil (λ l. without_counter_within name st.ticks (s l).counters) (λ l. within_nil)))

  -- What is computed

  computed_by_gives : (called : Called) → (L → IfOk called.answer IsWithin) → IfOk (computed_by called st) (IsDeed L T st)
  computed_by_gives called h =
      and_then_gives called.answer _ (λ value. L → IsWithin value) _ (under L called.answer IsWithin h) (λ value v.
      stream_deed (moved_on called.drawn st.stream) value v)

-- A call and its deed

pub cue_deed : (L : Type 0) (T : EventView → Type 0) (quiet : Quiet L T) (given : Given) (st : State) (d : Deed) → SentBy L T (codes "cue") cue_event (all_args given) → cue_call given st ≡ Ok d → (L → IsGivenWithin given) → (L → IsStateWithin st) → IsDeed L T st d
cue_deed L T quiet given st d k e g s = IfOk-at_ok (IsDeed L T st) e (cue_gives L T quiet given st g s k)

pub set_deed : (L : Type 0) (T : EventView → Type 0) (quiet : Quiet L T) (given : Given) (st : State) (d : Deed) → SentBy L T (codes "set") set_event (all_args given) → set_call given st ≡ Ok d → (L → IsGivenWithin given) → (L → IsStateWithin st) → IsDeed L T st d
set_deed L T quiet given st d k e g s = IfOk-at_ok (IsDeed L T st) e (set_gives L T quiet given st g s k)

pub puts_deed : (L : Type 0) (T : EventView → Type 0) (quiet : Quiet L T) (given : Given) (st : State) (d : Deed) → puts_call given st ≡ Ok d → (L → IsGivenWithin given) → (L → IsStateWithin st) → IsDeed L T st d
puts_deed L T quiet given st d e g s = IfOk-at_ok (IsDeed L T st) e (puts_gives L T quiet given st g s)

pub play_deed : (L : Type 0) (T : EventView → Type 0) (quiet : Quiet L T) (given : Given) (st : State) (d : Deed) → play_call given st ≡ Ok d → (L → IsGivenWithin given) → (L → IsStateWithin st) → IsDeed L T st d
play_deed L T quiet given st d e g s = IfOk-at_ok (IsDeed L T st) e (play_gives L T quiet given st g s)

pub synth_deed : (L : Type 0) (T : EventView → Type 0) (quiet : Quiet L T) (given : Given) (st : State) (d : Deed) → synth_call given st ≡ Ok d → (L → IsGivenWithin given) → (L → IsStateWithin st) → IsDeed L T st d
synth_deed L T quiet given st d e g s = IfOk-at_ok (IsDeed L T st) e (synth_gives L T quiet given st g s)

pub sample_deed : (L : Type 0) (T : EventView → Type 0) (quiet : Quiet L T) (given : Given) (st : State) (d : Deed) → sample_call given st ≡ Ok d → (L → IsGivenWithin given) → (L → IsStateWithin st) → IsDeed L T st d
sample_deed L T quiet given st d e g s = IfOk-at_ok (IsDeed L T st) e (sample_gives L T quiet given st g s)

pub use_synth_deed : (L : Type 0) (T : EventView → Type 0) (quiet : Quiet L T) (given : Given) (st : State) (d : Deed) → use_synth_call given st ≡ Ok d → (L → IsGivenWithin given) → (L → IsStateWithin st) → IsDeed L T st d
use_synth_deed L T quiet given st d e g s = IfOk-at_ok (IsDeed L T st) e (use_synth_gives L T quiet given st g s)

pub use_synth_defaults_deed : (L : Type 0) (T : EventView → Type 0) (quiet : Quiet L T) (given : Given) (st : State) (d : Deed) → use_synth_defaults_call given st ≡ Ok d → (L → IsGivenWithin given) → (L → IsStateWithin st) → IsDeed L T st d
use_synth_defaults_deed L T quiet given st d e g s = IfOk-at_ok (IsDeed L T st) e (use_synth_defaults_gives L T quiet given st g s)

pub use_bpm_deed : (L : Type 0) (T : EventView → Type 0) (quiet : Quiet L T) (given : Given) (st : State) (d : Deed) → use_bpm_call given st ≡ Ok d → (L → IsGivenWithin given) → (L → IsStateWithin st) → IsDeed L T st d
use_bpm_deed L T quiet given st d e g s = IfOk-at_ok (IsDeed L T st) e (use_bpm_gives L T quiet given st g s)

pub use_random_seed_deed : (L : Type 0) (T : EventView → Type 0) (quiet : Quiet L T) (given : Given) (st : State) (d : Deed) → use_random_seed_call given st ≡ Ok d → (L → IsGivenWithin given) → (L → IsStateWithin st) → IsDeed L T st d
use_random_seed_deed L T quiet given st d e g s = IfOk-at_ok (IsDeed L T st) e (use_random_seed_gives L T quiet given st g s)

pub use_debug_deed : (L : Type 0) (T : EventView → Type 0) (quiet : Quiet L T) (given : Given) (st : State) (d : Deed) → use_debug_call given st ≡ Ok d → (L → IsGivenWithin given) → (L → IsStateWithin st) → IsDeed L T st d
use_debug_deed L T quiet given st d e g s = IfOk-at_ok (IsDeed L T st) e (use_debug_gives L T quiet given st g s)

pub current_bpm_deed : (L : Type 0) (T : EventView → Type 0) (quiet : Quiet L T) (given : Given) (st : State) (d : Deed) → current_bpm_call given st ≡ Ok d → (L → IsGivenWithin given) → (L → IsStateWithin st) → IsDeed L T st d
current_bpm_deed L T quiet given st d e g s = IfOk-at_ok (IsDeed L T st) e (current_bpm_gives L T quiet given st g s)

pub vt_deed : (L : Type 0) (T : EventView → Type 0) (quiet : Quiet L T) (given : Given) (st : State) (d : Deed) → vt_call given st ≡ Ok d → (L → IsGivenWithin given) → (L → IsStateWithin st) → IsDeed L T st d
vt_deed L T quiet given st d e g s = IfOk-at_ok (IsDeed L T st) e (vt_gives L T quiet given st g s)

pub rt_deed : (L : Type 0) (T : EventView → Type 0) (quiet : Quiet L T) (given : Given) (st : State) (d : Deed) → rt_call given st ≡ Ok d → (L → IsGivenWithin given) → (L → IsStateWithin st) → IsDeed L T st d
rt_deed L T quiet given st d e g s = IfOk-at_ok (IsDeed L T st) e (rt_gives L T quiet given st g s)

pub tick_deed : (L : Type 0) (T : EventView → Type 0) (quiet : Quiet L T) (given : Given) (st : State) (d : Deed) → tick_call given st ≡ Ok d → (L → IsGivenWithin given) → (L → IsStateWithin st) → IsDeed L T st d
tick_deed L T quiet given st d e g s = IfOk-at_ok (IsDeed L T st) e (tick_gives L T quiet given st g s)

pub look_deed : (L : Type 0) (T : EventView → Type 0) (quiet : Quiet L T) (given : Given) (st : State) (d : Deed) → look_call given st ≡ Ok d → (L → IsGivenWithin given) → (L → IsStateWithin st) → IsDeed L T st d
look_deed L T quiet given st d e g s = IfOk-at_ok (IsDeed L T st) e (look_gives L T quiet given st g s)

pub tick_set_deed : (L : Type 0) (T : EventView → Type 0) (quiet : Quiet L T) (given : Given) (st : State) (d : Deed) → tick_set_call given st ≡ Ok d → (L → IsGivenWithin given) → (L → IsStateWithin st) → IsDeed L T st d
tick_set_deed L T quiet given st d e g s = IfOk-at_ok (IsDeed L T st) e (tick_set_gives L T quiet given st g s)

pub tick_reset_deed : (L : Type 0) (T : EventView → Type 0) (quiet : Quiet L T) (given : Given) (st : State) (d : Deed) → tick_reset_call given st ≡ Ok d → (L → IsGivenWithin given) → (L → IsStateWithin st) → IsDeed L T st d
tick_reset_deed L T quiet given st d e g s = IfOk-at_ok (IsDeed L T st) e (tick_reset_gives L T quiet given st g s)

pub computed_deed : (L : Type 0) (T : EventView → Type 0) (quiet : Quiet L T) (which : CallName) (given : Given) (st : State) (d : Deed) → computed which given st ≡ Ok d → (L → IsGivenWithin given) → (L → IsStateWithin st) → IsDeed L T st d
computed_deed L T quiet which given st d e g s =
    IfOk-at_ok (IsDeed L T st) e
    (computed_by_gives L T quiet given st g s (value_of_call which (all_args given) given.options (words_from st.stream)) (λ l. called_gives which (all_args given) given.options (words_from st.stream) (stream_words st.stream) (g l).args))
