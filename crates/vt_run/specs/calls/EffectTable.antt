-- What each call does. The calls with effects, each by its own definition; the pure and random ones by the table of their values. The project's own.
use Rattle.std.specs.Prelude.{ℕ, List, Option, Some, None, Result}
use Rattle.vt_ring.specs.CallTable.{value_of_call}
use Rattle.vt_ring.specs.Called.{Called}
use Rattle.vt_table.specs.declared.calls.CallName.{CallName}
use Rattle.vt_table.specs.declared.calls.CallName.TheVariants.{At, Cue, CurrentBpm, Define, Density, Each, Get, InThread, LiveLoop, Look, Loop, Map, Play, PlayPattern, PlayPatternTimed, Print, Puts, Rt, Sample, Set, Sleep, Stop, Sync, Synth, Tick, TickReset, TickSet, Times, UseBpm, UseDebug, UseRandomSeed, UseSynth, UseSynthDefaults, Vt, Wait, WithBpm, WithFx, WithRandomSeed, WithSynth}
use Rattle.vt_value.specs.declared.fault.FaultKind.{FaultKind}
use Rattle.vt_run.specs.declared.action.EndReason.TheVariants.{Stopped}
use Rattle.vt_run.specs.declared.state.State.{State}
use Rattle.vt_run.specs.Actions.{ends}
use Rattle.vt_run.specs.calls.Arguments.{Given, all_args}
use Rattle.vt_run.specs.calls.Deeds.{Deed, done, value_of}
use Rattle.vt_run.specs.Environment.{Meaning}
use Rattle.vt_run.specs.calls.FunctionCalls.{define_call, function_call}
use Rattle.vt_run.specs.calls.MessageCalls.{cue_call, get_call, puts_call, set_call, sync_call}
use Rattle.vt_run.specs.calls.PatternCalls.{play_pattern_call, play_pattern_timed_call}
use Rattle.vt_run.specs.calls.PlayCalls.{play_call, sample_call, synth_call}
use Rattle.vt_run.specs.Scopes.{BlockMeaning}
use Rattle.vt_run.specs.calls.SettingCalls.{use_bpm_call, use_debug_call, use_random_seed_call, use_synth_call, use_synth_defaults_call, with_bpm_call, with_fx_call, with_random_seed_call, with_stream, with_synth_call}
use Rattle.vt_ring.specs.Streams.{moved_on, words_from}
use Rattle.vt_run.specs.calls.ThreadCalls.{at_call, in_thread_call, live_loop_call}
use Rattle.vt_run.specs.calls.TickCalls.{look_call, tick_call, tick_reset_call, tick_set_call}
use Rattle.vt_run.specs.calls.TimeCalls.{current_bpm_call, rt_call, sleep_call, vt_call}
use Rattle.vt_run.specs.calls.LoopCalls.{density_call, each_call, loop_call, map_call, times_call}

abbrev pub computed_by : Called → State → Result Deed FaultKind
computed_by called st = value_of (with_stream (moved_on called.drawn st.stream) st) called.answer

-- a pure or random call: its value, and the stream after the words that it drew
abbrev pub computed : CallName → Given → State → Result Deed FaultKind
computed which given st = computed_by (value_of_call which (all_args given) given.options (words_from st.stream)) st

-- a call of the table, with what it is given and its block
unfoldable pub performed : CallName → Given → Option BlockMeaning → Meaning
performed At given block env at st = at_call given block env at st
performed Cue given block env at st = done (cue_call given st) env at st
performed CurrentBpm given block env at st = done (current_bpm_call given st) env at st
performed Define given block env at st = define_call given block env at st
performed Density given block env at st = density_call given block env at st
performed Each given block env at st = each_call given block env at st
performed Get given block env at st = get_call given env at st
performed InThread given block env at st = in_thread_call given block env at st
performed LiveLoop given block env at st = live_loop_call given block env at st
performed Look given block env at st = done (look_call given st) env at st
performed Loop given block env at st = loop_call given block env at st
performed Map given block env at st = map_call given block env at st
performed Play given block env at st = done (play_call given st) env at st
performed PlayPattern given block env at st = play_pattern_call given env at st
performed PlayPatternTimed given block env at st = play_pattern_timed_call given env at st
performed Print given block env at st = done (puts_call given st) env at st
performed Puts given block env at st = done (puts_call given st) env at st
performed Rt given block env at st = done (rt_call given st) env at st
performed Sample given block env at st = done (sample_call given st) env at st
performed Set given block env at st = done (set_call given st) env at st
performed Sleep given block env at st = sleep_call given env at st
performed Stop given block env at st = ends Stopped env st
performed Sync given block env at st = sync_call given env at st
performed Synth given block env at st = done (synth_call given st) env at st
performed Tick given block env at st = done (tick_call given st) env at st
performed TickReset given block env at st = done (tick_reset_call given st) env at st
performed TickSet given block env at st = done (tick_set_call given st) env at st
performed Times given block env at st = times_call given block env at st
performed UseBpm given block env at st = done (use_bpm_call given st) env at st
performed UseDebug given block env at st = done (use_debug_call given st) env at st
performed UseRandomSeed given block env at st = done (use_random_seed_call given st) env at st
performed UseSynth given block env at st = done (use_synth_call given st) env at st
performed UseSynthDefaults given block env at st = done (use_synth_defaults_call given st) env at st
performed Vt given block env at st = done (vt_call given st) env at st
performed Wait given block env at st = sleep_call given env at st
performed WithBpm given block env at st = with_bpm_call given block env at st
performed WithFx given block env at st = with_fx_call given block env at st
performed WithRandomSeed given block env at st = with_random_seed_call given block env at st
performed WithSynth given block env at st = with_synth_call given block env at st
performed which given block env at st = done (computed which given st) env at st

-- a call of a name: of the table, or of a function
abbrev pub calls_name : Option CallName → List ℕ → Given → Option BlockMeaning → Meaning
calls_name (Some which) name given block env at st = performed which given block env at st
calls_name None name given block env at st = function_call name given env at st
