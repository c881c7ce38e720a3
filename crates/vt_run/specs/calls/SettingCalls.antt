-- The calls that change the settings of a thread, its tempo and its random stream, for good or for a block. After the Sonic Pi tutorial, chapters 4, 5 and 6; kinds and faults are own.
use Rattle.std.specs.Prelude.{ℕ, ◌+◌, List, [], Option, Some, ok_or, Result, Ok}
use Rattle.vt_frac.specs.Fraction.{Fraction}
use Rattle.vt_rand.specs.Draw.{RandomStream, random_stream_of}
use Rattle.vt_ring.specs.Answers.{and_then}
use Rattle.vt_ring.specs.Arguments.{count_from}
use Rattle.vt_ring.specs.Called.{demand}
use Rattle.vt_ring.specs.Signatures.{a_number, a_whole, one_of}
use Rattle.vt_value.specs.declared.fault.FaultKind.{FaultKind}
use Rattle.vt_value.specs.declared.fault.FaultKind.TheVariants.{BadValue, WrongCount}
use Rattle.vt_value.specs.declared.value.Value.TheVariants.{Nil}
use Rattle.vt_event.specs.declared.references.FxId.{FxId}
use Rattle.vt_event.specs.EventsByKind.{fx_event}
use Rattle.vt_event.specs.Pairs.{Pairs}
use Rattle.vt_run.specs.declared.state.State.{State}
use Rattle.vt_run.specs.Actions.{emits, or_fails}
use Rattle.vt_run.specs.calls.Arguments.{Given, a_symbol, all_args}
use Rattle.vt_run.specs.calls.Deeds.{Deed, changed_to}
use Rattle.vt_run.specs.Environment.{Env, Meaning}
use Rattle.vt_run.specs.Scopes.{BlockMeaning, runs}
use Rattle.vt_run.specs.Evaluation.{Ran, Spot, gives, after}
use Rattle.vt_run.specs.Tempo.{is_tempo}

-- the state with another synth
abbrev pub with_synth : List ℕ → State → State
with_synth name st = record st { settings = record st.settings { synth = name } }

-- the state with another tempo
abbrev pub with_bpm : Fraction → State → State
with_bpm bpm st = record st { settings = record st.settings { bpm = bpm } }

-- the state with other defaults
abbrev pub with_synth_defaults : Pairs → State → State
with_synth_defaults options st = record st { settings = record st.settings { defaults = options } }

-- the state in another effect, or in none
abbrev pub with_fx : Option FxId → State → State
with_fx fx st = record st { settings = record st.settings { fx = fx } }

-- the state with another stream
abbrev pub with_stream : RandomStream → State → State
with_stream stream st = record st { stream = stream }

-- a tempo: a number above 0
abbrev pub a_tempo : Given → Result Fraction FaultKind
a_tempo given = and_then (a_number (all_args given)) (λ bpm. demand (is_tempo bpm) BadValue (Ok bpm))

-- a seed: a whole number of at least 0
abbrev pub a_seed : Given → Result ℕ FaultKind
a_seed given = and_then (a_whole (all_args given)) count_from

-- `use_synth :x`
unfoldable pub use_synth_call : Given → State → Result Deed FaultKind
use_synth_call given st = and_then (a_symbol (all_args given)) (λ name. Ok (changed_to (with_synth name st)))

-- `use_synth_defaults`, with any options: they replace those before
unfoldable pub use_synth_defaults_call : Given → State → Result Deed FaultKind
use_synth_defaults_call given st = Ok (changed_to (with_synth_defaults given.options st))

-- `use_bpm N`
unfoldable pub use_bpm_call : Given → State → Result Deed FaultKind
use_bpm_call given st = and_then (a_tempo given) (λ bpm. Ok (changed_to (with_bpm bpm st)))

-- `use_random_seed n`: a new stream
unfoldable pub use_random_seed_call : Given → State → Result Deed FaultKind
use_random_seed_call given st = and_then (a_seed given) (λ seed. Ok (changed_to (with_stream (random_stream_of seed) st)))

-- `use_debug V`: nothing
unfoldable pub use_debug_call : Given → State → Result Deed FaultKind
use_debug_call given st = and_then (one_of (all_args given)) (λ value. Ok (changed_to st))

-- the block of a call that must have one; a bare name without it is wrong_count
abbrev pub with_block : Option BlockMeaning → Env → Spot → State → (BlockMeaning → Ran) → Ran
with_block block env at st go = or_fails (ok_or block WrongCount) env at st go

-- a block, and then what it changed for itself is set back; the value is nil
abbrev pub set_back : (State → State) → Ran → Ran
set_back back ran = after ran (λ value end. gives Nil (back end))

-- `with_synth :x do`
unfoldable pub with_synth_call : Given → Option BlockMeaning → Meaning
with_synth_call given block env at st =
    with_block block env at st (λ block.
    or_fails (a_symbol (all_args given)) env at st (λ name.
    set_back (with_synth st.settings.synth) (runs block [] env at (with_synth name st))))

-- `with_bpm N do`
unfoldable pub with_bpm_call : Given → Option BlockMeaning → Meaning
with_bpm_call given block env at st =
    with_block block env at st (λ block.
    or_fails (a_tempo given) env at st (λ bpm.
    set_back (with_bpm st.settings.bpm) (runs block [] env at (with_bpm bpm st))))

-- `with_random_seed n do`: the old stream goes on where it stood
unfoldable pub with_random_seed_call : Given → Option BlockMeaning → Meaning
with_random_seed_call given block env at st =
    with_block block env at st (λ block.
    or_fails (a_seed given) env at st (λ seed.
    set_back (with_stream st.stream) (runs block [] env at (with_stream (random_stream_of seed) st))))

-- the thread's next effect, from 1
abbrev pub next_fx : Env → State → FxId
next_fx env st = record { thread = env.start.place.thread; number = st.effects + 1 }

-- in the thread's next effect
abbrev pub in_next_fx : Env → State → State → State
in_next_fx env before st = record (with_fx (Some (next_fx env before)) st) { effects = before.effects + 1 }

-- `with_fx :x do`, with any options: the effect is told of, and is the effect inside
unfoldable pub with_fx_call : Given → Option BlockMeaning → Meaning
with_fx_call given block env at st =
    with_block block env at st (λ block.
    or_fails (a_symbol (all_args given)) env at st (λ name.
    emits (λ place. fx_event place name (st.effects + 1) given.options st.settings.fx) env st (λ begun.
    set_back (with_fx st.settings.fx) (runs block [] env at (in_next_fx env st begun)))))
