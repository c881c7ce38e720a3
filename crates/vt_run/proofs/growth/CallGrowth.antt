-- What is kept by the parts of a run is kept by each call.
use Rattle.std.proofs.Common.{◌≡◌, ◌≤◌, ◌<◌, inl, inr, ℕ, zero, suc, ◌-◌, List, [], ◌∷◌, ◌++◌, length, ◌+◌, take, cond, Option, Some, None, refl, subst, arith}
use Rattle.std.specs.Prelude.{◌≢◌, ℤ, pos, codes, is_some, nat_lt, ok_or, IsTrue}
use Rattle.std.specs.List.{AllByRecursion}
use Rattle.vt_path.specs.declared.pattern.Segment.{Segment}
use Rattle.vt_path.specs.declared.inner_path.InnerKind.TheVariants.{Body as BodyPath, Def as DefPath, Stop as StopPath}
use Rattle.vt_path.specs.Inner.{IsInner, inner_of}
use Rattle.vt_path.specs.Match.{literal_of}
use Rattle.vt_path.specs.Pattern.{IsPattern}
use Rattle.vt_rand.specs.Draw.{random_stream_of}
use Rattle.vt_ring.specs.Answers.{and_then}
use Rattle.vt_ring.specs.Signatures.{a_ring, a_whole, option_named}
use Rattle.vt_ring.proofs.limits.Values.{ring_within_known, within_nil, within_ring, within_whole}
use Rattle.vt_table.specs.declared.calls.CallName.{CallName}
use Rattle.vt_table.specs.declared.calls.CallName.TheVariants.{At, Cue, CurrentBpm, Define, Density, Each, Get, InThread, LiveLoop, Look, Loop, Map, Play, PlayPattern, PlayPatternTimed, Print, Puts, Rt, Sample, Set, Sleep, Stop, Sync, Synth, Tick, TickReset, TickSet, Times, UseBpm, UseDebug, UseRandomSeed, UseSynth, UseSynthDefaults, Vt, Wait, WithBpm, WithFx, WithRandomSeed, WithSynth}
use Rattle.vt_frac.specs.Fraction.{Fraction, IsFraction}
use Rattle.vt_value.specs.declared.fault.FaultKind.TheVariants.{NoSleep, TooNested, UnknownName, WrongCount}
use Rattle.vt_value.specs.declared.value.Value.{Value}
use Rattle.vt_value.specs.declared.value.Value.TheVariants.{Nil, Ring, Whole}
use Rattle.vt_value.specs.Arithmetic.{ring_within}
use Rattle.vt_value.specs.Limits.{AreWithin, IsWithin}
use Rattle.vt_value.specs.Sizes.{size_of}
use Rattle.vt_frac.specs.Names.{IsName, is_symbol_name}
use Rattle.vt_event.specs.declared.references.BlockRef.{BlockRef}
use Rattle.vt_event.specs.declared.references.FxId.{FxId}
use Rattle.vt_event.specs.Event.{EventView}
use Rattle.vt_event.specs.EventsByKind.{body_event, defined_event, fx_event, started_event, took_event}
use Rattle.vt_event.specs.Pairs.{Pairs}
use Rattle.vt_run.specs.declared.action.Answer.{Answer}
use Rattle.vt_run.specs.declared.action.Answer.TheVariants.{Nothing, Found}
use Rattle.vt_run.specs.declared.action.EndReason.TheVariants.{Stopped}
use Rattle.vt_run.specs.declared.role.Role.{Role}
use Rattle.vt_run.specs.declared.role.Role.TheVariants.{Timed}
use Rattle.vt_run.specs.declared.settings.Settings.{Settings}
use Rattle.vt_run.specs.declared.state.State.{State}
use Rattle.vt_run.specs.Actions.{acted, emits, is_own_stop, name_path, or_fails, reads, rests, syncs, takes, woken}
use Rattle.vt_run.specs.calls.Arguments.{Given, a_symbol, all_args}
use Rattle.vt_run.specs.Costs.{pair_sizes, size_if_given}
use Rattle.vt_run.specs.Environment.{Body, Env}
use Rattle.vt_run.specs.calls.EffectTable.{calls_name, computed, performed}
use Rattle.vt_run.specs.calls.FunctionCalls.{FoundBody, body_found, calls_found, define_call, found_at, found_with, function_call, runs_found, takes_given}
use Rattle.vt_run.specs.Limits.{ArePairsWithin, AreSettingsWithin, IsAnswerWithin, IsBodyWithin, IsEventWithin, IsPathWithin, IsPatternWithin, IsRoleWithin}
use Rattle.vt_run.specs.calls.MessageCalls.{a_pattern, cue_call, get_call, puts_call, set_call, sync_call, value_found}
use Rattle.vt_run.specs.calls.PatternCalls.{Item, even_items, play_pattern_call, play_pattern_timed_call, plays_items, timed_items}
use Rattle.vt_run.specs.calls.PlayCalls.{play_call, plays_notes, sample_call, synth_call}
use Rattle.vt_run.specs.Scopes.{BlockMeaning, params_with, runs, with_locals}
use Rattle.vt_run.specs.calls.SettingCalls.{a_seed, a_tempo, in_next_fx, set_back, use_bpm_call, use_debug_call, use_random_seed_call, use_synth_call, use_synth_defaults_call, with_bpm, with_bpm_call, with_fx, with_fx_call, with_random_seed_call, with_stream, with_synth, with_synth_call}
use Rattle.vt_run.specs.Evaluation.{Evaluation, Ran, Spot, after, gives}
use Rattle.vt_run.specs.calls.ThreadCalls.{LoopParts, at_call, block_ref, has_spawned, in_thread_call, is_alive, live_loop_call, loop_parts, loop_role, spawns, spawns_timed, starts, starts_at, starts_timed, thread_role, timings, unless_nested}
use Rattle.vt_run.specs.Tempo.{is_tempo}
use Rattle.vt_run.specs.Threads.{block_of}
use Rattle.vt_run.specs.calls.TickCalls.{Counters, look_call, tick_call, tick_reset_call, tick_set_call}
use Rattle.vt_run.specs.calls.TimeCalls.{beats_of, current_bpm_call, rest_of, rt_call, sleep_call, vt_call}
use Rattle.vt_run.specs.calls.LoopCalls.{density_call, density_of, each_call, loop_call, loops, map_call, numbers_below, times_call, turn_begun, turns_over, unless_idle}
use Rattle.vt_run.proofs.facts.ArgumentFacts.{beats_fit, beats_rest, inner_pattern, loop_fact, pattern_fact, rest_fact, rest_fits, role_fact, symbol_fact, tempo_fact}
use Rattle.vt_run.proofs.growth.Rules.{MayCall, MayRun, MayStart, ref_of}
use Rattle.vt_event.specs.declared.place.Place.{Place}
use Rattle.vt_run.proofs.growth.Closures.{follows, BodyGrows, neither, both, SpotGrows, Two, answered_state, low, high, MeaningGrows, charges_keep, cond_keeps, done_keeps, emit_keeps, emits_all_keep, ends_keep, enters_keep, fails_keep, gives_like, if_keeps, or_fails_keeps, tick_keeps}
use Rattle.vt_run.proofs.facts.DeedFacts.{computed_deed, cue_deed, current_bpm_deed, look_deed, play_deed, puts_deed, rt_deed, sample_deed, set_deed, synth_deed, tick_deed, tick_reset_deed, tick_set_deed, use_bpm_deed, use_debug_deed, use_random_seed_deed, use_synth_deed, use_synth_defaults_deed, vt_deed}
use Rattle.vt_run.proofs.facts.EventFacts.{body_told, body_unstopped, def_unstopped, defined_told, inner_path, name_path_inner, name_path_unstopped, started_told, took_told}
use Rattle.vt_run.proofs.facts.Known.{IsGivenWithin, IsLike, IsStateWithin, PartsWithin, like, place_in}
use Rattle.vt_run.proofs.facts.PairFacts.{pairs_append, pairs_take, params_within}
use Rattle.vt_run.proofs.facts.PatternFacts.{HasNotes, IsItem, even_items_fact, even_items_notes, notes_told, timed_items_fact, timed_items_notes}
use Rattle.vt_run.proofs.facts.TimedFacts.{IsTiming, density_fact, timings_fact}
use Rattle.vt_run.proofs.facts.LoopFacts.{below_within, numbers_within, ring_items, whole_fits}
use Rattle.std.proofs.lemmas.Bool.{ltb-true}

-- the same state at another time
at_time : {time : Fraction} {locals : Pairs} {settings : Settings} {ticks : Counters} (other : Fraction) → PartsWithin time locals settings ticks → IsFraction other → PartsWithin other locals settings ticks
at_time other p h = record { fraction = h; pairs = p.pairs; set = p.set; counters = p.counters }

-- the same state with other locals, settings
pub with_pairs : {time : Fraction} {locals : Pairs} {settings : Settings} {ticks : Counters} (others : Pairs) → PartsWithin time locals settings ticks → ArePairsWithin others → PartsWithin time others settings ticks
with_pairs others p h = record { fraction = p.fraction; pairs = h; set = p.set; counters = p.counters }

pub with_settings : {time : Fraction} {locals : Pairs} {settings : Settings} {ticks : Counters} (others : Settings) → PartsWithin time locals settings ticks → AreSettingsWithin others → PartsWithin time locals others ticks
with_settings others p h = record { fraction = p.fraction; pairs = p.pairs; set = h; counters = p.counters }

synth_within : (settings : Settings) (name : List ℕ) → AreSettingsWithin settings → IsTrue (is_symbol_name name) → AreSettingsWithin (record settings { synth = name })
synth_within settings name h n = record { bpm = h.bpm; tempo = h.tempo; synth = n; defaults = h.defaults }

bpm_within : (settings : Settings) (bpm : Fraction) → AreSettingsWithin settings → IsFraction bpm × IsTrue (is_tempo bpm) → AreSettingsWithin (record settings { bpm = bpm })
bpm_within settings bpm h t = record { bpm = t.0; tempo = t.1; synth = h.synth; defaults = h.defaults }

fx_within : (settings : Settings) (fx : Option FxId) → AreSettingsWithin settings → AreSettingsWithin (record settings { fx = fx })
fx_within settings fx h = record { bpm = h.bpm; tempo = h.tempo; synth = h.synth; defaults = h.defaults }

value_found_within : (answer : Answer) → IsAnswerWithin answer → IsWithin (value_found answer)
value_found_within Nothing h = within_nil
value_found_within (Found event) h = h.value

-- a block of the text that is evaluated: its meaning is related, and under L it is found among the texts, and its parameters are names
pub record BlockFits (two : Two) (block : BlockMeaning) : Type 0 where
  pub names : two.e.L → AllByRecursion IsName block.params
  pub found : two.e.L → IsTrue (is_some (block_of two.e.texts (record { text = two.text; block = block.number })))
  pub grows : MeaningGrows two block.run

-- the number of a block, where there is one
abbrev pub numbered : Option BlockMeaning → Option ℕ
numbered None = None
numbered (Some block) = Some block.number

-- so of a block, where there is one
abbrev pub BlockGrows : Two → Option BlockMeaning → Type 0
BlockGrows two None = Unit {0}
BlockGrows two (Some block) = BlockFits two block

module _ (two : Two) where
  abbrev Stays : State → Type 0
  Stays st = two.e.L → IsStateWithin st

  abbrev Fits : Given → Type 0
  Fits given = two.e.L → IsGivenWithin given

  pub runs_keep : (block : BlockMeaning) → BlockFits two block → (values : List Value) → (two.e.L → AreWithin values) → (at : Spot) (st : State) → Stays st → two.R two.n st (runs block values (low two) at st) (runs block values (high two) at st)
  runs_keep block h values v at st s =
      let leave = λ (value : Value) (end : State). gives value (with_locals (take (length st.locals) end.locals) end) in
      let inside = with_locals (st.locals ++ params_with block.params values) st in
      let go = λ (env : Env) (deep : Spot). after (block.run env deep inside) leave in
      enters_keep two at st (go (low two)) (go (high two)) s (λ deep.
      follows two _ _ leave leave
      (two.has.alike {other = inside} (like _ _ _ _ _) (h.grows deep inside (λ l. with_pairs _ (s l) (pairs_append st.locals _ (s l).pairs (params_within block.params values (h.names l) (v l))))))
      (λ l w t. gives_like two l.value _ (like _ _ _ _ _) w (λ x. with_pairs _ (t x) (pairs_take (length st.locals) l.state.locals (t x).pairs))))

  set_back_keeps : (back : State → State) → ((end : State) → IsLike end (back end)) → (two.e.L → (end : State) → IsStateWithin end → IsStateWithin (back end)) → {st : State} (a b : Ran) → two.R two.n st a b → two.R two.n st (set_back back a) (set_back back b)
  set_back_keeps back is t a b h =
      let leave = λ (value : Value) (end : State). gives Nil (back end) in
      follows two a b leave leave h (λ l w s. gives_like two Nil (back l.state) (is l.state) (λ x. within_nil) (λ x. t x l.state (s x)))

  with_synth_grows : (given : Given) (block : Option BlockMeaning) → Fits given → BlockGrows two block → MeaningGrows two (with_synth_call given block)
  unfolding with_synth_call
  with_synth_grows given None g h at st s = fails_keep two WrongCount at st s
  with_synth_grows given (Some block) g h at st s =
      let go = λ (env : Env) (name : List ℕ). set_back (with_synth st.settings.synth) (runs block [] env at (with_synth name st)) in
      or_fails_keeps two (a_symbol (all_args given)) at st (go (low two)) (go (high two)) s (λ name is.
      set_back_keeps (with_synth st.settings.synth) (λ end. like _ _ _ _ _) (λ x end t. with_settings _ t (synth_within end.settings st.settings.synth t.set (s x).set.synth)) _ _
      (two.has.alike {other = with_synth name st} (like _ _ _ _ _) (runs_keep block h [] (λ x. tt) at (with_synth name st) (λ x. with_settings _ (s x) (synth_within st.settings name (s x).set (symbol_fact given name is (g x)))))))

  with_bpm_grows : (given : Given) (block : Option BlockMeaning) → Fits given → BlockGrows two block → MeaningGrows two (with_bpm_call given block)
  unfolding with_bpm_call
  with_bpm_grows given None g h at st s = fails_keep two WrongCount at st s
  with_bpm_grows given (Some block) g h at st s =
      let go = λ (env : Env) (bpm : Fraction). set_back (with_bpm st.settings.bpm) (runs block [] env at (with_bpm bpm st)) in
      or_fails_keeps two (a_tempo given) at st (go (low two)) (go (high two)) s (λ bpm is.
      set_back_keeps (with_bpm st.settings.bpm) (λ end. like _ _ _ _ _) (λ x end t. with_settings _ t (bpm_within end.settings st.settings.bpm t.set ((s x).set.bpm, (s x).set.tempo))) _ _
      (two.has.alike {other = with_bpm bpm st} (like _ _ _ _ _) (runs_keep block h [] (λ x. tt) at (with_bpm bpm st) (λ x. with_settings _ (s x) (bpm_within st.settings bpm (s x).set (tempo_fact given bpm is (g x)))))))

  with_random_seed_grows : (given : Given) (block : Option BlockMeaning) → BlockGrows two block → MeaningGrows two (with_random_seed_call given block)
  unfolding with_random_seed_call
  with_random_seed_grows given None h at st s = fails_keep two WrongCount at st s
  with_random_seed_grows given (Some block) h at st s =
      let go = λ (env : Env) (seed : ℕ). set_back (with_stream st.stream) (runs block [] env at (with_stream (random_stream_of seed) st)) in
      or_fails_keeps two (a_seed given) at st (go (low two)) (go (high two)) s (λ seed is.
      set_back_keeps (with_stream st.stream) (λ end. like _ _ _ _ _) (λ x end t. t) _ _
      (two.has.alike {other = with_stream (random_stream_of seed) st} (like _ _ _ _ _) (runs_keep block h [] (λ x. tt) at (with_stream (random_stream_of seed) st) s)))

  with_fx_grows : (given : Given) (block : Option BlockMeaning) → Fits given → BlockGrows two block → MeaningGrows two (with_fx_call given block)
  unfolding with_fx_call
  with_fx_grows given None g h at st s = fails_keep two WrongCount at st s
  with_fx_grows given (Some block) g h at st s =
      let go = λ (env : Env) (name : List ℕ). emits (λ place. fx_event place name (st.effects + 1) given.options st.settings.fx) env st (λ begun. set_back (with_fx st.settings.fx) (runs block [] env at (in_next_fx env st begun))) in
      let inside = in_next_fx (low two) st (acted st) in
      or_fails_keeps two (a_symbol (all_args given)) at st (go (low two)) (go (high two)) s (λ name is.
      two.has.less (omega arith) (two.has.effected name given.options (λ x. symbol_fact given name is (g x)) (λ x. (g x).options) s
      (set_back_keeps (with_fx st.settings.fx) (λ end. like _ _ _ _ _) (λ x end t. with_settings _ t (fx_within end.settings st.settings.fx t.set)) _ _
      (two.has.alike {other = inside} (like _ _ _ _ _) (runs_keep block h [] (λ x. tt) at inside (λ x. with_settings _ (s x) (fx_within st.settings _ (s x).set)))))))

  -- the turns that both bounds allow, and at least j
  loops_keep : (j turns turns' : ℕ) → j ≤ turns → turns ≤ turns' → j ≤ two.n → (block : BlockMeaning) → BlockFits two block → (at : Spot) (st : State) → Stays st → two.R j st (loops turns block (low two) at st) (loops turns' block (high two) at st)
  loops_keep j zero turns' p q r block h at st s = two.has.less p (two.has.bound st _)
  loops_keep j (suc u) zero p q r block h at st s = absurd (omega arith)
  loops_keep j (suc u) (suc u') p q r block h at st s =
      let next = λ (env : Env) (u : ℕ) (value : Value) (end : State). unless_idle env at end (loops u block env at) in
      two.has.less (omega arith) (two.has.spent {n = j - 1} 1 (omega arith) (follows two _ _ (next (low two) u) (next (high two) u')
      (two.has.less (omega arith) (two.has.alike {other = turn_begun st} (like _ _ _ _ _) (runs_keep block h [] (λ x. tt) at (turn_begun st) s)))
      (λ l w t. cond_keeps two l.state.moved (loops_keep (j - 1) u u' (omega arith) (omega arith) (omega arith) block h at l.state t) (fails_keep two NoSleep at l.state t))))

  loop_grows : (given : Given) (block : Option BlockMeaning) → BlockGrows two block → MeaningGrows two (loop_call given block)
  unfolding loop_call
  loop_grows given None h at st s = fails_keep two WrongCount at st s
  loop_grows given (Some block) h at st s = loops_keep two.n two.turns two.turns' two.enough two.more (omega arith) block h at st s

  turns_over_keep : (items : List Value) (block : BlockMeaning) → BlockFits two block → (two.e.L → AreWithin items) → (at : Spot) (st : State) → Stays st → (go go' : List Value → State → Ran) →
      ((values : List Value) → (two.e.L → AreWithin values) → (st : State) → Stays st → two.R two.n st (go values st) (go' values st)) → two.R two.n st (turns_over items block (low two) at st go) (turns_over items block (high two) at st go')
  turns_over_keep [] block h v at st s go go' k = k [] (λ x. tt) st s
  turns_over_keep (item ∷ items) block h v at st s go go' k =
      let next = λ (env : Env) (go : List Value → State → Ran) (value : Value) (st : State). turns_over items block env at st (λ values st. go (value ∷ values) st) in
      tick_keeps two (follows two _ _ (next (low two) go) (next (high two) go') (runs_keep block h (item ∷ []) (λ x. ((v x).0, tt)) at st s) (λ l w t.
      turns_over_keep items block h (λ x. (v x).1) at l.state t (λ values st. go (l.value ∷ values) st) (λ values st. go' (l.value ∷ values) st) (λ values vs st s. k (l.value ∷ values) (λ x. (w x, vs x)) st s)))

  times_grows : (given : Given) (block : Option BlockMeaning) → Fits given → BlockGrows two block → MeaningGrows two (times_call given block)
  unfolding times_call
  times_grows given None g h at st s = fails_keep two WrongCount at st s
  times_grows given (Some block) g h at st s =
      let go = λ (env : Env) (n : ℤ). turns_over (numbers_below n) block env at st (λ values st. gives (Whole n) st) in
      or_fails_keeps two (a_whole (all_args given)) at st (go (low two)) (go (high two)) s (λ n is.
      turns_over_keep (numbers_below n) block h (λ x. numbers_within n (whole_fits given n is (g x))) at st s (λ values st. gives (Whole n) st) (λ values st. gives (Whole n) st) (λ values vs st s.
      two.has.given _ (Whole n) st (λ x. within_whole n (whole_fits given n is (g x))) s))

  each_grows : (given : Given) (block : Option BlockMeaning) → Fits given → BlockGrows two block → MeaningGrows two (each_call given block)
  unfolding each_call
  each_grows given None g h at st s = fails_keep two WrongCount at st s
  each_grows given (Some block) g h at st s =
      let go = λ (env : Env) (items : List Value). turns_over items block env at st (λ values st. gives (Ring items) st) in
      or_fails_keeps two (a_ring (all_args given)) at st (go (low two)) (go (high two)) s (λ items is.
      turns_over_keep items block h (λ x. (ring_items given items is (g x)).1) at st s (λ values st. gives (Ring items) st) (λ values st. gives (Ring items) st) (λ values vs st s.
      two.has.given _ (Ring items) st (λ x. within_ring items (ring_items given items is (g x)).0 (ring_items given items is (g x)).1) s))

  map_grows : (given : Given) (block : Option BlockMeaning) → Fits given → BlockGrows two block → MeaningGrows two (map_call given block)
  unfolding map_call
  map_grows given None g h at st s = fails_keep two WrongCount at st s
  map_grows given (Some block) g h at st s =
      let last = λ (env : Env) (values : List Value) (st : State). or_fails (ring_within values) env at st (λ ring. gives ring st) in
      let go = λ (env : Env) (items : List Value). turns_over items block env at st (last env) in
      or_fails_keeps two (a_ring (all_args given)) at st (go (low two)) (go (high two)) s (λ items is.
      turns_over_keep items block h (λ x. (ring_items given items is (g x)).1) at st s (last (low two)) (last (high two)) (λ values vs st s.
      or_fails_keeps two (ring_within values) at st (λ ring. gives ring st) (λ ring. gives ring st) s (λ ring made. two.has.given _ ring st (λ x. ring_within_known values ring made (vs x)) s)))

  -- a read, at what its answer leads to
  pub reads_keep : {n : ℕ} (pattern : List Segment) (st : State) (go go' : Answer → State → Ran) → (two.e.L → IsPatternWithin pattern) → Stays st →
      ((answer : Answer) → (two.e.L → IsAnswerWithin answer) → (two.e.L → two.e.rules.Hears pattern answer) → two.R n (answered_state st) (go answer (answered_state st)) (go' answer (answered_state st))) →
      two.R (suc n) st (reads pattern (low two) st go) (reads pattern (high two) st go')
  reads_keep pattern st go go' p s h = two.has.asked _ two.text two.turns two.turns' two.body two.body' pattern st go go' p s h

  get_grows : (given : Given) → Fits given → MeaningGrows two (get_call given)
  unfolding get_call
  get_grows given g at st s =
      let last = λ (answer : Answer) (st : State). gives (value_found answer) st in
      let go = λ (env : Env) (pattern : List Segment). reads pattern env st last in
      or_fails_keeps two (a_pattern (all_args given)) at st (go (low two)) (go (high two)) s (λ pattern is.
      two.has.less (omega arith) (reads_keep pattern st last last (λ x. inl (pattern_fact (all_args given) pattern is (g x).args)) s (λ answer a heard.
      two.has.given two.n (value_found answer) (answered_state st) (λ x. value_found_within answer (a x)) s)))

  -- what is taken; a stop of the thread ends it
  takes_keep : {n : ℕ} (path : List (List ℕ)) (event : EventView) (st : State) → (two.e.L → IsPathWithin path) → (two.e.L → IsEventWithin event) → Stays st →
      two.R n st (takes path event (low two) st) (takes path event (high two) st)
  takes_keep path event st p v s =
      cond_keeps two (is_own_stop two.e.start.role path) (ends_keep two Stopped st s)
      (emit_keeps two (took_event (place_in two.e.start st) path event.value) (took_told two.e.L two.e.rules.Tells path event.value (place_in two.e.start st) p (λ x. (v x).value) (λ x. (s x).fraction) (λ x. two.e.taken x (place_in two.e.start st) path event.value)) s
      (two.has.given _ event.value (acted st) (λ x. (v x).value) s))

  -- a wait, and what it takes
  pub syncs_keep : (pattern : List Segment) (st : State) → (two.e.L → IsPattern pattern) → Stays st → two.R two.n st (syncs pattern (low two) st) (syncs pattern (high two) st)
  syncs_keep pattern st p s =
      let go = λ (env : Env) (path : List (List ℕ)) (event : EventView) (st : State). takes path event env st in
      two.has.less (omega arith) (two.has.waited two.n two.text two.turns two.turns' two.body two.body' pattern st (go (low two)) (go (high two)) p s (λ path event q v.
      takes_keep path event (woken event.place (answered_state st)) q v (λ x. at_time event.place.time (s x) (v x).time)))

  sync_grows : (given : Given) → Fits given → MeaningGrows two (sync_call given)
  unfolding sync_call
  sync_grows given g at st s =
      let go = λ (env : Env) (pattern : List Segment). syncs pattern env st in
      or_fails_keeps two (a_pattern (all_args given)) at st (go (low two)) (go (high two)) s (λ pattern is.
      syncs_keep pattern st (λ x. pattern_fact (all_args given) pattern is (g x).args) s)

  sleep_grows : (given : Given) → Fits given → MeaningGrows two (sleep_call given)
  unfolding sleep_call
  sleep_grows given g at st s =
      let go = λ (env : Env) (seconds : Fraction). rests seconds env st in
      or_fails_keeps two (and_then (beats_of given) (rest_of st)) at st (go (low two)) (go (high two)) s (λ seconds is.
      two.has.rested _ two.text two.turns two.turns' two.body two.body' seconds st (rest_fits given st seconds is) (λ x. rest_fact given st seconds is (g x) (s x)) s)

  nested_keeps : (at : Spot) (st : State) (go go' : State → Ran) → Stays st → (length two.e.start.place.thread < 32 → two.R two.n st (go st) (go' st)) → two.R two.n st (unless_nested (low two) at st go) (unless_nested (high two) at st go')
  nested_keeps at st go go' s h = if_keeps two (nat_lt (length two.e.start.place.thread) 32) (λ e. h (ltb-true _ _ e)) (fails_keep two TooNested at st s)

  -- a child is started, and then what comes next
  spawn_keeps : (role : Role) (handed : ℕ) (block : BlockMeaning) → BlockFits two block → (two.e.L → two.e.rules.Starts role (ref_of two.text block.number)) → (two.e.L → IsRoleWithin role) → (st : State) (go go' : State → Ran) → Stays st → two.R two.n (has_spawned st) (go (has_spawned st)) (go' (has_spawned st)) → length two.e.start.place.thread < 32 →
      two.R two.n st (spawns role handed block (low two) st go) (spawns role handed block (high two) st go')
  spawn_keeps role handed block h may r st go go' s k less = two.has.less (omega arith) (two.has.spawned two.n two.text two.turns two.turns' two.body two.body' role handed block st go go' less r h.found may s k)

  starts_at_keeps : (path : Option (List (List ℕ))) (role : Role) (handed : ℕ) (block : BlockMeaning) → BlockFits two block → (two.e.L → two.e.rules.Starts role (ref_of two.text block.number)) → ((p : List (List ℕ)) → path ≡ Some p → two.e.L → (place : Place) → two.e.rules.Tells (started_event place p)) → ((p : List (List ℕ)) → path ≡ Some p → (name : List ℕ) → p ≢ inner_of StopPath name) → ((p : List (List ℕ)) → path ≡ Some p → two.e.L → IsInner p) → (two.e.L → IsRoleWithin role) → (at : Spot) (st : State) → Stays st →
      two.R two.n st (starts_at path role handed block (low two) at st) (starts_at path role handed block (high two) at st)
  starts_at_keeps None role handed block h may told outside inner r at st s =
      let go = λ (env : Env) (st : State). spawns role handed block env st (gives Nil) in
      nested_keeps at st (go (low two)) (go (high two)) s (spawn_keeps role handed block h may r st (gives Nil) (gives Nil) s (two.has.given _ Nil (has_spawned st) (λ x. within_nil) s))
  starts_at_keeps (Some path) role handed block h may named outside inner r at st s =
      let told = λ (env : Env) (st : State). emits (λ place. started_event place path) env st (λ st. spawns role handed block env st (gives Nil)) in
      let go = λ (env : Env) (answer : Answer) (st : State). cond (is_alive answer) (gives Nil st) (unless_nested env at st (told env)) in
      two.has.less (omega arith) (reads_keep {n = two.n} (literal_of path) st (go (low two)) (go (high two)) (λ x. inr (record { path = path; inner = inner path refl x; whole = refl })) s (λ answer a heard.
      cond_keeps two (is_alive answer) (two.has.given _ Nil (answered_state st) (λ x. within_nil) s) (nested_keeps at (answered_state st) (told (low two)) (told (high two)) s (λ less.
      emit_keeps two (started_event (place_in two.e.start (answered_state st)) path) (started_told two.e.L two.e.rules.Tells path (place_in two.e.start (answered_state st)) (outside path refl) (inner path refl) (λ x. (s x).fraction) (λ x. named path refl x (place_in two.e.start (answered_state st)))) s
      (spawn_keeps role handed block h may r (acted (answered_state st)) (gives Nil) (gives Nil) s (two.has.given _ Nil (has_spawned (acted (answered_state st))) (λ x. within_nil) s) less)))))

  starts_keep : (role : Role) (handed : ℕ) (block : BlockMeaning) → BlockFits two block → (two.e.L → MayStart two.e.rules role (ref_of two.text block.number)) → (two.e.L → IsRoleWithin role) → (at : Spot) (st : State) → Stays st → two.R two.n st (starts role handed block (low two) at st) (starts role handed block (high two) at st)
  starts_keep role handed block h may r at st s = starts_at_keeps (name_path role) role handed block h (λ x. (may x).starts) (λ path is x. (may x).tells path is) (λ path is. name_path_unstopped role path is) (λ path is x. name_path_inner role path (r x) is) r at st s

  in_thread_grows : (given : Given) (block : Option BlockMeaning) → Fits given → BlockGrows two block → (name : List ℕ) → (two.e.L → MayCall two.e.rules two.text (Some InThread) name given (numbered block)) → MeaningGrows two (in_thread_call given block)
  unfolding in_thread_call
  in_thread_grows given None g h name may at st s = fails_keep two WrongCount at st s
  in_thread_grows given (Some block) g h name may at st s =
      let go = λ (env : Env) (role : Role). starts role 0 block env at st in
      or_fails_keeps two (thread_role (option_named (codes "name") given.options)) at st (go (low two)) (go (high two)) s (λ role is.
      starts_keep role 0 block h (λ x. (may x).threads refl role block.number is refl) (λ x. role_fact given role is (g x)) at st s)

  live_loop_grows : (given : Given) (block : Option BlockMeaning) → Fits given → BlockGrows two block → (name : List ℕ) → (two.e.L → MayCall two.e.rules two.text (Some LiveLoop) name given (numbered block)) → MeaningGrows two (live_loop_call given block)
  unfolding live_loop_call
  live_loop_grows given None g h name may at st s = fails_keep two WrongCount at st s
  live_loop_grows given (Some block) g h name may at st s =
      let go = λ (env : Env) (parts : LoopParts). emits (λ place. body_event place (inner_of BodyPath parts.name) (block_ref env block) st.locals at.line) env st (λ st. starts (loop_role parts) (size_if_given parts.init) block env at st) in
      or_fails_keeps two (loop_parts given) at st (go (low two)) (go (high two)) s (λ parts is.
      emit_keeps two _ (body_told two.e.L two.e.rules.Tells (inner_of BodyPath parts.name) (block_ref (low two) block) st.locals at.line (place_in two.e.start st) (body_unstopped parts.name) (λ x. inner_path BodyPath parts.name (loop_fact given parts is (g x)).0) (λ x. (s x).pairs) (λ x. (s x).fraction) (λ x. (may x).bodies refl parts block.number is refl (place_in two.e.start st) st.locals at.line)) s
      (starts_keep (loop_role parts) (size_if_given parts.init) block h (λ x. (may x).loops refl parts block.number is refl) (λ x. loop_fact given parts is (g x)) at (acted st) s))

  -- the children of `at`
  spawns_timed_keep : (timings : List (Fraction × Value)) (block : BlockMeaning) → BlockFits two block → (two.e.L → (rest : Fraction) (value : Value) (line : ℕ) → two.e.rules.Starts (Timed rest value line) (ref_of two.text block.number)) → (two.e.L → AllByRecursion IsTiming timings) → length two.e.start.place.thread < 32 → (at : Spot) (st : State) → Stays st →
      two.R two.n st (spawns_timed timings block (low two) at st) (spawns_timed timings block (high two) at st)
  spawns_timed_keep [] block h may ts less at st s = two.has.given _ Nil st (λ x. within_nil) s
  spawns_timed_keep (timing ∷ timings) block h may ts less at st s =
      let go = λ (env : Env) (st : State). spawns_timed timings block env at st in
      spawn_keeps (Timed timing.0 timing.1 at.line) (size_of timing.1) block h (λ x. may x timing.0 timing.1 at.line) (λ x. (ts x).0) st (go (low two)) (go (high two)) s
      (spawns_timed_keep timings block h may (λ x. (ts x).1) less at (has_spawned st) s) less

  starts_timed_keep : (timings : List (Fraction × Value)) (block : BlockMeaning) → BlockFits two block → (two.e.L → (rest : Fraction) (value : Value) (line : ℕ) → two.e.rules.Starts (Timed rest value line) (ref_of two.text block.number)) → (two.e.L → AllByRecursion IsTiming timings) → (at : Spot) (st : State) → Stays st →
      two.R two.n st (starts_timed timings block (low two) at st) (starts_timed timings block (high two) at st)
  starts_timed_keep [] block h may ts at st s = two.has.given _ Nil st (λ x. within_nil) s
  starts_timed_keep (timing ∷ timings) block h may ts at st s =
      let go = λ (env : Env) (st : State). spawns_timed (timing ∷ timings) block env at st in
      nested_keeps at st (go (low two)) (go (high two)) s (λ less. spawns_timed_keep (timing ∷ timings) block h may ts less at st s)

  at_grows : (given : Given) (block : Option BlockMeaning) → Fits given → BlockGrows two block → (name : List ℕ) → (two.e.L → MayCall two.e.rules two.text (Some At) name given (numbered block)) → MeaningGrows two (at_call given block)
  unfolding at_call
  at_grows given None g h name may at st s = fails_keep two WrongCount at st s
  at_grows given (Some block) g h name may at st s =
      let go = λ (env : Env) (timings : List (Fraction × Value)). starts_timed timings block env at st in
      or_fails_keeps two (timings given st) at st (go (low two)) (go (high two)) s (λ ts is.
      starts_timed_keep ts block h (λ x. (may x).timed refl block.number refl) (λ x. timings_fact given st ts is (g x) (s x)) at st s)

  density_grows : (given : Given) (block : Option BlockMeaning) → Fits given → BlockGrows two block → MeaningGrows two (density_call given block)
  unfolding density_call
  density_grows given None g h at st s = fails_keep two WrongCount at st s
  density_grows given (Some block) g h at st s =
      let last = λ (values : List Value) (st : State). gives Nil st in
      let go = λ (env : Env) (dense : ℕ × Fraction). set_back (with_bpm st.settings.bpm) (turns_over (numbers_below (pos dense.0)) block env at (with_bpm dense.1 st) last) in
      or_fails_keeps two (density_of given st.settings.bpm) at st (go (low two)) (go (high two)) s (λ dense is.
      set_back_keeps (with_bpm st.settings.bpm) (λ end. like _ _ _ _ _) (λ x end t. with_settings _ t (bpm_within end.settings st.settings.bpm t.set ((s x).set.bpm, (s x).set.tempo))) _ _
      (two.has.alike {other = with_bpm dense.1 st} (like _ _ _ _ _)
      (turns_over_keep (numbers_below (pos dense.0)) block h (λ x. below_within dense.0 (density_fact given st.settings.bpm dense.0 dense.1 is (s x).set.bpm (s x).set.tempo).0) at (with_bpm dense.1 st)
      (λ x. with_settings _ (s x) (bpm_within st.settings dense.1 (s x).set (density_fact given st.settings.bpm dense.0 dense.1 is (s x).set.bpm (s x).set.tempo).1)) last last
      (λ values vs st s. two.has.given _ Nil st (λ x. within_nil) s))))

  -- the items of a pattern, one after another
  plays_items_keep : (items : List Item) (options : Pairs) → AllByRecursion HasNotes items → (two.e.L → AllByRecursion IsItem items) → (two.e.L → ArePairsWithin options) → (at : Spot) (st : State) → Stays st →
      two.R two.n st (plays_items items options (low two) at st) (plays_items items options (high two) at st)
  plays_items_keep [] options notes is o at st s = two.has.given _ Nil st (λ x. within_nil) s
  plays_items_keep (item ∷ items) options notes is o at st s =
      let next = λ (env : Env) (value : Value) (st : State). plays_items items options env at st in
      let rest = λ (env : Env) (st : State) (seconds : Fraction). after (rests seconds env st) (next env) in
      let go = λ (env : Env) (st : State). or_fails (rest_of st item.1) env at st (rest env st) in
      tick_keeps two (emits_all_keep two (plays_notes options st.settings item.0) st (go (low two)) (go (high two)) s (notes_told two.e.L two.e.rules.Tells two.e.quiet options st.settings item.0 o (λ x. (s x).set) notes.0 (λ x. (is x).0.0)) (λ end t.
      or_fails_keeps two (rest_of end item.1) at end (rest (low two) end) (rest (high two) end) t (λ seconds e.
      follows two _ _ (next (low two)) (next (high two))
      (two.has.rested _ two.text two.turns two.turns' two.body two.body' seconds end (beats_fit end item.1 seconds e) (λ x. beats_rest end item.1 seconds e (is x).0.1.1 (t x)) t)
      (λ l w u. plays_items_keep items options notes.1 (λ x. (is x).1) o at l.state u))))

  play_pattern_grows : (given : Given) → Fits given → MeaningGrows two (play_pattern_call given)
  unfolding play_pattern_call
  play_pattern_grows given g at st s =
      let go = λ (env : Env) (items : List Item). plays_items items given.options env at st in
      or_fails_keeps two (even_items given) at st (go (low two)) (go (high two)) s (λ items is.
      plays_items_keep items given.options (even_items_notes given items is) (λ x. even_items_fact given items is (g x)) (λ x. (g x).options) at st s)

  play_pattern_timed_grows : (given : Given) → Fits given → MeaningGrows two (play_pattern_timed_call given)
  unfolding play_pattern_timed_call
  play_pattern_timed_grows given g at st s =
      let go = λ (env : Env) (items : List Item). plays_items items given.options env at st in
      or_fails_keeps two (timed_items given) at st (go (low two)) (go (high two)) s (λ items is.
      plays_items_keep items given.options (timed_items_notes given items is) (λ x. timed_items_fact given items is (g x)) (λ x. (g x).options) at st s)

  define_grows : (given : Given) (block : Option BlockMeaning) → Fits given → (name : List ℕ) → (two.e.L → MayCall two.e.rules two.text (Some Define) name given (numbered block)) → MeaningGrows two (define_call given block)
  unfolding define_call
  define_grows given None g name may at st s = fails_keep two WrongCount at st s
  define_grows given (Some block) g called may at st s =
      let go = λ (env : Env) (name : List ℕ). emits (λ place. defined_event place (inner_of DefPath name) (block_ref env block) st.locals) env st (gives Nil) in
      or_fails_keeps two (a_symbol (all_args given)) at st (go (low two)) (go (high two)) s (λ name is.
      emit_keeps two _ (defined_told two.e.L two.e.rules.Tells (inner_of DefPath name) (block_ref (low two) block) st.locals (place_in two.e.start st) (def_unstopped name) (λ x. inner_path DefPath name (symbol_fact given name is (g x))) (λ x. (s x).pairs) (λ x. (s x).fraction) (λ x. (may x).defines refl name block.number is refl (place_in two.e.start st) st.locals)) s
      (two.has.given _ Nil (acted st) (λ x. within_nil) s))

  -- the body that is found, in both environments
  pub runs_found_keep : {n : ℕ} (params : List (List ℕ)) (f g : Evaluation) → (two.e.L → AllByRecursion IsName params) → SpotGrows two.R two.e.L n f g → (locals : Pairs) → (two.e.L → ArePairsWithin locals) → (line : ℕ) (values : List Value) → (two.e.L → AreWithin values) → (at : Spot) (st : State) → Stays st →
      two.R n st (runs_found (record { body = record { params = params; run = f }; locals = locals; line = line }) values at st) (runs_found (record { body = record { params = params; run = g }; locals = locals; line = line }) values at st)
  runs_found_keep params f g names h locals p line values v at st s =
      let leave = λ (value : Value) (end : State). gives value (with_locals st.locals end) in
      let inside = with_locals (locals ++ params_with params values) st in
      follows two _ _ leave leave
      (two.has.alike {other = inside} (like _ _ _ _ _) (h at inside (λ x. with_pairs _ (s x) (pairs_append locals _ (p x) (params_within params values (names x) (v x))))))
      (λ l w t. gives_like two l.value _ (like _ _ _ _ _) w (λ x. with_pairs _ (t x) (s x).pairs))

  found_keeps : (o o' : Option Body) → BodyGrows two.R two.e.L (two.n - 1) o o' → (line : ℕ) (locals : Pairs) → (two.e.L → ArePairsWithin locals) → (given : Given) → Fits given → (at : Spot) (st : State) → Stays st →
      two.R (two.n - 1) st (or_fails (ok_or (found_with line locals o) UnknownName) (low two) at st (λ found. calls_found found given (low two) at st)) (or_fails (ok_or (found_with line locals o') UnknownName) (high two) at st (λ found. calls_found found given (high two) at st))
  found_keeps _ _ neither line locals p given fits at st s = fails_keep two UnknownName at st s
  found_keeps _ _ (both params f g names h) line locals p given fits at st s =
      let found : Evaluation → FoundBody = λ run. record { body = record { params = params; run = run }; locals = locals; line = line } in
      let go = λ (run : Evaluation) (deep : Spot). runs_found (found run) (all_args given) deep st in
      cond_keeps two (takes_given (found f) given)
      (tick_keeps two (charges_keep two (pair_sizes locals) (enters_keep two at st (go f) (go g) s (λ deep. runs_found_keep params f g names h locals p line (all_args given) (λ x. (fits x).args) deep st s))))
      (fails_keep two WrongCount at st s)

  kept_keeps : (kept : Option (BlockRef × Pairs)) (line : ℕ) → (two.e.L → IsBodyWithin kept) → ((k : BlockRef × Pairs) → kept ≡ Some k → two.e.L → two.e.rules.Runs k.0) → (given : Given) → Fits given → (at : Spot) (st : State) → Stays st →
      two.R (two.n - 1) st (or_fails (ok_or (found_at (low two) line kept) UnknownName) (low two) at st (λ found. calls_found found given (low two) at st)) (or_fails (ok_or (found_at (high two) line kept) UnknownName) (high two) at st (λ found. calls_found found given (high two) at st))
  kept_keeps None line p may given g at st s = fails_keep two UnknownName at st s
  kept_keeps (Some kept) line p may given g at st s = found_keeps (two.body kept.0) (two.body' kept.0) (two.bodies kept.0 (may kept refl)) line kept.1 p given g at st s

  called_keeps : (answer : Answer) → (two.e.L → IsAnswerWithin answer) → ((event : EventView) (k : BlockRef × Pairs) → answer ≡ Found event → event.body ≡ Some k → two.e.L → two.e.rules.Runs k.0) → (given : Given) → Fits given → (at : Spot) (st : State) → Stays st →
      two.R (two.n - 1) st (or_fails (ok_or (body_found (low two) answer) UnknownName) (low two) at st (λ found. calls_found found given (low two) at st)) (or_fails (ok_or (body_found (high two) answer) UnknownName) (high two) at st (λ found. calls_found found given (high two) at st))
  called_keeps Nothing a may given g at st s = fails_keep two UnknownName at st s
  called_keeps (Found event) a may given g at st s = kept_keeps event.body event.line (λ x. (a x).body) (λ k is. may event k refl is) given g at st s

  function_grows : (name : List ℕ) (given : Given) → (two.e.L → IsTrue (is_symbol_name name)) → Fits given → (two.e.L → MayRun two.e.rules name) → MeaningGrows two (function_call name given)
  unfolding function_call
  function_grows name given symbol g may at st s =
      let go = λ (env : Env) (answer : Answer) (st : State). or_fails (ok_or (body_found env answer) UnknownName) env at st (λ found. calls_found found given env at st) in
      two.has.less (omega arith) (reads_keep {n = two.n - 1} (literal_of (inner_of DefPath name)) st (go (low two)) (go (high two)) (λ x. inner_pattern DefPath name (symbol x)) s (λ answer a heard.
      called_keeps answer a (λ event k is body x. may x event k (subst (two.e.rules.Hears (literal_of (inner_of DefPath name))) is (heard x)) body) given g at (answered_state st) s))

  performed_grows : (which : CallName) (name : List ℕ) (given : Given) (block : Option BlockMeaning) → Fits given → BlockGrows two block → (two.e.L → MayCall two.e.rules two.text (Some which) name given (numbered block)) → MeaningGrows two (performed which given block)
  unfolding performed
  performed_grows At name given block g h may at st s = at_grows given block g h name may at st s
  performed_grows Cue name given block g h may at st s = done_keeps two (cue_call given st) at st s (λ d is. cue_deed two.e.L two.e.rules.Tells two.e.quiet given st d (λ x. (may x).cues refl) is g s)
  performed_grows CurrentBpm name given block g h may at st s = done_keeps two (current_bpm_call given st) at st s (λ d is. current_bpm_deed two.e.L two.e.rules.Tells two.e.quiet given st d is g s)
  performed_grows Define name given block g h may at st s = define_grows given block g name may at st s
  performed_grows Density name given block g h may at st s = density_grows given block g h at st s
  performed_grows Each name given block g h may at st s = each_grows given block g h at st s
  performed_grows Get name given block g h may at st s = get_grows given g at st s
  performed_grows InThread name given block g h may at st s = in_thread_grows given block g h name may at st s
  performed_grows LiveLoop name given block g h may at st s = live_loop_grows given block g h name may at st s
  performed_grows Look name given block g h may at st s = done_keeps two (look_call given st) at st s (λ d is. look_deed two.e.L two.e.rules.Tells two.e.quiet given st d is g s)
  performed_grows Loop name given block g h may at st s = loop_grows given block h at st s
  performed_grows Map name given block g h may at st s = map_grows given block g h at st s
  performed_grows Play name given block g h may at st s = done_keeps two (play_call given st) at st s (λ d is. play_deed two.e.L two.e.rules.Tells two.e.quiet given st d is g s)
  performed_grows PlayPattern name given block g h may at st s = play_pattern_grows given g at st s
  performed_grows PlayPatternTimed name given block g h may at st s = play_pattern_timed_grows given g at st s
  performed_grows Print name given block g h may at st s = done_keeps two (puts_call given st) at st s (λ d is. puts_deed two.e.L two.e.rules.Tells two.e.quiet given st d is g s)
  performed_grows Puts name given block g h may at st s = done_keeps two (puts_call given st) at st s (λ d is. puts_deed two.e.L two.e.rules.Tells two.e.quiet given st d is g s)
  performed_grows Rt name given block g h may at st s = done_keeps two (rt_call given st) at st s (λ d is. rt_deed two.e.L two.e.rules.Tells two.e.quiet given st d is g s)
  performed_grows Sample name given block g h may at st s = done_keeps two (sample_call given st) at st s (λ d is. sample_deed two.e.L two.e.rules.Tells two.e.quiet given st d is g s)
  performed_grows Set name given block g h may at st s = done_keeps two (set_call given st) at st s (λ d is. set_deed two.e.L two.e.rules.Tells two.e.quiet given st d (λ x. (may x).sets refl) is g s)
  performed_grows Sleep name given block g h may at st s = sleep_grows given g at st s
  performed_grows Stop name given block g h may at st s = ends_keep two Stopped st s
  performed_grows Sync name given block g h may at st s = sync_grows given g at st s
  performed_grows Synth name given block g h may at st s = done_keeps two (synth_call given st) at st s (λ d is. synth_deed two.e.L two.e.rules.Tells two.e.quiet given st d is g s)
  performed_grows Tick name given block g h may at st s = done_keeps two (tick_call given st) at st s (λ d is. tick_deed two.e.L two.e.rules.Tells two.e.quiet given st d is g s)
  performed_grows TickReset name given block g h may at st s = done_keeps two (tick_reset_call given st) at st s (λ d is. tick_reset_deed two.e.L two.e.rules.Tells two.e.quiet given st d is g s)
  performed_grows TickSet name given block g h may at st s = done_keeps two (tick_set_call given st) at st s (λ d is. tick_set_deed two.e.L two.e.rules.Tells two.e.quiet given st d is g s)
  performed_grows Times name given block g h may at st s = times_grows given block g h at st s
  performed_grows UseBpm name given block g h may at st s = done_keeps two (use_bpm_call given st) at st s (λ d is. use_bpm_deed two.e.L two.e.rules.Tells two.e.quiet given st d is g s)
  performed_grows UseDebug name given block g h may at st s = done_keeps two (use_debug_call given st) at st s (λ d is. use_debug_deed two.e.L two.e.rules.Tells two.e.quiet given st d is g s)
  performed_grows UseRandomSeed name given block g h may at st s = done_keeps two (use_random_seed_call given st) at st s (λ d is. use_random_seed_deed two.e.L two.e.rules.Tells two.e.quiet given st d is g s)
  performed_grows UseSynth name given block g h may at st s = done_keeps two (use_synth_call given st) at st s (λ d is. use_synth_deed two.e.L two.e.rules.Tells two.e.quiet given st d is g s)
  performed_grows UseSynthDefaults name given block g h may at st s = done_keeps two (use_synth_defaults_call given st) at st s (λ d is. use_synth_defaults_deed two.e.L two.e.rules.Tells two.e.quiet given st d is g s)
  performed_grows Vt name given block g h may at st s = done_keeps two (vt_call given st) at st s (λ d is. vt_deed two.e.L two.e.rules.Tells two.e.quiet given st d is g s)
  performed_grows Wait name given block g h may at st s = sleep_grows given g at st s
  performed_grows WithBpm name given block g h may at st s = with_bpm_grows given block g h at st s
  performed_grows WithFx name given block g h may at st s = with_fx_grows given block g h at st s
  performed_grows WithRandomSeed name given block g h may at st s = with_random_seed_grows given block h at st s
  performed_grows WithSynth name given block g h may at st s = with_synth_grows given block g h at st s
  performed_grows which name given block g h may at st s = done_keeps two (computed which given st) at st s (λ d is. computed_deed two.e.L two.e.rules.Tells two.e.quiet which given st d is g s)

  pub calls_name_grows : (which : Option CallName) (name : List ℕ) (given : Given) (block : Option BlockMeaning) → (two.e.L → IsTrue (is_symbol_name name)) → Fits given → BlockGrows two block → (two.e.L → MayCall two.e.rules two.text which name given (numbered block)) → MeaningGrows two (calls_name which name given block)
  calls_name_grows (Some which) name given block symbol g h may at st s = performed_grows which name given block g h may at st s
  calls_name_grows None name given block symbol g h may at st s = function_grows name given symbol g (λ x. (may x).runs refl) at st s
