-- What each call does, by its own definition, as ways.
use Rattle.std.proofs.Common.{◌≡◌, ℕ, List, false, Option, Result, Ok, Err, refl, ap, ◌∙◌, true≢false, subst}
use Rattle.vt_value.specs.declared.fault.FaultKind.{FaultKind}
use Rattle.vt_value.specs.declared.fault.ValueFault.{ValueFault}
use Rattle.vt_value.specs.declared.fault.ValueFault.TheVariants.{Fault, NoMemory}
use Rattle.vt_value.specs.declared.value.Value.{Value}
use Rattle.vt_event.specs.Event.{EventView}
use Rattle.vt_table.specs.Calls.{calls, number_of}
use Rattle.vt_table.specs.declared.calls.CallName.{CallName}
use Rattle.vt_table.specs.declared.calls.CallName.TheVariants.{At, Cue, CurrentBpm, Define, Density, Each, Get, InThread, LiveLoop, Look, Loop, Map, Play, PlayPattern, PlayPatternTimed, Print, Puts, Rt, Sample, Set, Sleep, Stop, Sync, Synth, Tick, TickReset, TickSet, Times, UseBpm, UseDebug, UseRandomSeed, UseSynth, UseSynthDefaults, Vt, Wait, WithBpm, WithFx, WithRandomSeed, WithSynth}
use Rattle.vt_ring.specs.CallTable.{IsPureOrRandom}
use Rattle.vt_run.specs.declared.action.EndReason.TheVariants.{Stopped}
use Rattle.vt_run.specs.declared.state.State.{State}
use Rattle.vt_run.specs.Actions.{ends}
use Rattle.vt_run.specs.calls.Arguments.{Given}
use Rattle.vt_run.specs.calls.Deeds.{Deed, done}
use Rattle.vt_run.specs.calls.EffectTable.{computed, performed}
use Rattle.vt_run.specs.calls.MessageCalls.{cue_call, puts_call, set_call}
use Rattle.vt_run.specs.calls.PlayCalls.{sample_call, synth_call}
use Rattle.vt_run.specs.calls.SettingCalls.{use_debug_call}
use Rattle.vt_run.specs.calls.TimeCalls.{rt_call}
use Rattle.vt_run.specs.Environment.{Env}
use Rattle.vt_run.specs.Evaluation.{Ran, Spot}
use Rattle.vt_run.specs.Notes.{Notes}
use Rattle.vt_run.specs.Scopes.{BlockMeaning}
use Rattle.vt_effects.specs.Results.{MayPublish, Publishes}
use Rattle.vt_eval_steps.specs.declared.run.Run.{Run}
use Rattle.vt_eval_steps.specs.Calls.{runs_block}
use Rattle.vt_eval_steps.specs.Making.{Comes}
use Rattle.vt_eval_steps.proofs.Ways.{comes_from, makes_at}

-- a call whose name is known, by its own definition
pub performed_by : {E : Type 0} (which name : CallName) (given : Given) (block : Option BlockMeaning) (env : Env) (at : Spot) (st : State) (old : Notes) (r : Result Value E) (z : Run) (ran : Ran) → which ≡ name → performed name given block env at st ≡ ran →
    Comes ran old r z → Comes (performed which given block env at st) old r z
performed_by which name given block env at st old r z ran is same way = comes_from z r (makes_at old (ap (λ which. performed which given block env at st) is ∙ same)) way

-- an event that a call publishes stands where the thread does
pub may_publish : (deed : Result Deed FaultKind) (thread : List ℕ) (st : State) (r : Result EventView ValueFault) → Publishes deed thread st r → MayPublish deed thread st r
may_publish deed thread st (Ok event) h = h
may_publish deed thread st (Err (Fault kind)) h = h
may_publish deed thread st (Err NoMemory) h = tt

pub publishes_in : (deed : Result Deed FaultKind) (thread own : List ℕ) (st : State) (r : Result EventView ValueFault) → thread ≡ own → MayPublish deed thread st r → MayPublish deed own st r
publishes_in deed thread own st r same h = subst (λ t. MayPublish deed t st r) same h

-- calls with effects that run no block, each by its own definition
pub is_cue : (given : Given) (block : Option BlockMeaning) (env : Env) (at : Spot) (st : State) → performed Cue given block env at st ≡ done (cue_call given st) env at st
unfolding performed
is_cue given block env at st = refl

pub is_print : (given : Given) (block : Option BlockMeaning) (env : Env) (at : Spot) (st : State) → performed Print given block env at st ≡ done (puts_call given st) env at st
unfolding performed
is_print given block env at st = refl

pub is_puts : (given : Given) (block : Option BlockMeaning) (env : Env) (at : Spot) (st : State) → performed Puts given block env at st ≡ done (puts_call given st) env at st
unfolding performed
is_puts given block env at st = refl

pub is_rt : (given : Given) (block : Option BlockMeaning) (env : Env) (at : Spot) (st : State) → performed Rt given block env at st ≡ done (rt_call given st) env at st
unfolding performed
is_rt given block env at st = refl

pub is_sample : (given : Given) (block : Option BlockMeaning) (env : Env) (at : Spot) (st : State) → performed Sample given block env at st ≡ done (sample_call given st) env at st
unfolding performed
is_sample given block env at st = refl

pub is_set : (given : Given) (block : Option BlockMeaning) (env : Env) (at : Spot) (st : State) → performed Set given block env at st ≡ done (set_call given st) env at st
unfolding performed
is_set given block env at st = refl

pub is_stop : (given : Given) (block : Option BlockMeaning) (env : Env) (at : Spot) (st : State) → performed Stop given block env at st ≡ ends Stopped env st
unfolding performed
is_stop given block env at st = refl

pub is_synth : (given : Given) (block : Option BlockMeaning) (env : Env) (at : Spot) (st : State) → performed Synth given block env at st ≡ done (synth_call given st) env at st
unfolding performed
is_synth given block env at st = refl

pub is_use_debug : (given : Given) (block : Option BlockMeaning) (env : Env) (at : Spot) (st : State) → performed UseDebug given block env at st ≡ done (use_debug_call given st) env at st
unfolding performed
is_use_debug given block env at st = refl

-- none of these
pub record IsOther (which : CallName) : Type 0 where
  pub is_not_at : which ≡ At → ⊥
  pub is_not_cue : which ≡ Cue → ⊥
  pub is_not_current_bpm : which ≡ CurrentBpm → ⊥
  pub is_not_define : which ≡ Define → ⊥
  pub is_not_get : which ≡ Get → ⊥
  pub is_not_in_thread : which ≡ InThread → ⊥
  pub is_not_live_loop : which ≡ LiveLoop → ⊥
  pub is_not_look : which ≡ Look → ⊥
  pub is_not_play : which ≡ Play → ⊥
  pub is_not_play_pattern : which ≡ PlayPattern → ⊥
  pub is_not_play_pattern_timed : which ≡ PlayPatternTimed → ⊥
  pub is_not_print : which ≡ Print → ⊥
  pub is_not_puts : which ≡ Puts → ⊥
  pub is_not_rt : which ≡ Rt → ⊥
  pub is_not_sample : which ≡ Sample → ⊥
  pub is_not_set : which ≡ Set → ⊥
  pub is_not_sleep : which ≡ Sleep → ⊥
  pub is_not_stop : which ≡ Stop → ⊥
  pub is_not_sync : which ≡ Sync → ⊥
  pub is_not_synth : which ≡ Synth → ⊥
  pub is_not_tick : which ≡ Tick → ⊥
  pub is_not_tick_reset : which ≡ TickReset → ⊥
  pub is_not_tick_set : which ≡ TickSet → ⊥
  pub is_not_use_bpm : which ≡ UseBpm → ⊥
  pub is_not_use_debug : which ≡ UseDebug → ⊥
  pub is_not_use_random_seed : which ≡ UseRandomSeed → ⊥
  pub is_not_use_synth : which ≡ UseSynth → ⊥
  pub is_not_use_synth_defaults : which ≡ UseSynthDefaults → ⊥
  pub is_not_vt : which ≡ Vt → ⊥
  pub is_not_wait : which ≡ Wait → ⊥

-- every other one is pure or random, and is computed
pub is_other : (which : CallName) (given : Given) (block : Option BlockMeaning) (env : Env) (at : Spot) (st : State) → runs_block which ≡ false → IsOther which →
    IsPureOrRandom (number_of which) × (performed which given block env at st ≡ done (computed which given st) env at st)
unfolding calls performed
is_other At given block env at st runs other = absurd (other.is_not_at refl)
is_other Cue given block env at st runs other = absurd (other.is_not_cue refl)
is_other CurrentBpm given block env at st runs other = absurd (other.is_not_current_bpm refl)
is_other Define given block env at st runs other = absurd (other.is_not_define refl)
is_other Density given block env at st runs other = absurd (true≢false runs)
is_other Each given block env at st runs other = absurd (true≢false runs)
is_other Get given block env at st runs other = absurd (other.is_not_get refl)
is_other InThread given block env at st runs other = absurd (other.is_not_in_thread refl)
is_other LiveLoop given block env at st runs other = absurd (other.is_not_live_loop refl)
is_other Look given block env at st runs other = absurd (other.is_not_look refl)
is_other Loop given block env at st runs other = absurd (true≢false runs)
is_other Map given block env at st runs other = absurd (true≢false runs)
is_other Play given block env at st runs other = absurd (other.is_not_play refl)
is_other PlayPattern given block env at st runs other = absurd (other.is_not_play_pattern refl)
is_other PlayPatternTimed given block env at st runs other = absurd (other.is_not_play_pattern_timed refl)
is_other Print given block env at st runs other = absurd (other.is_not_print refl)
is_other Puts given block env at st runs other = absurd (other.is_not_puts refl)
is_other Rt given block env at st runs other = absurd (other.is_not_rt refl)
is_other Sample given block env at st runs other = absurd (other.is_not_sample refl)
is_other Set given block env at st runs other = absurd (other.is_not_set refl)
is_other Sleep given block env at st runs other = absurd (other.is_not_sleep refl)
is_other Stop given block env at st runs other = absurd (other.is_not_stop refl)
is_other Sync given block env at st runs other = absurd (other.is_not_sync refl)
is_other Synth given block env at st runs other = absurd (other.is_not_synth refl)
is_other Tick given block env at st runs other = absurd (other.is_not_tick refl)
is_other TickReset given block env at st runs other = absurd (other.is_not_tick_reset refl)
is_other TickSet given block env at st runs other = absurd (other.is_not_tick_set refl)
is_other Times given block env at st runs other = absurd (true≢false runs)
is_other UseBpm given block env at st runs other = absurd (other.is_not_use_bpm refl)
is_other UseDebug given block env at st runs other = absurd (other.is_not_use_debug refl)
is_other UseRandomSeed given block env at st runs other = absurd (other.is_not_use_random_seed refl)
is_other UseSynth given block env at st runs other = absurd (other.is_not_use_synth refl)
is_other UseSynthDefaults given block env at st runs other = absurd (other.is_not_use_synth_defaults refl)
is_other Vt given block env at st runs other = absurd (other.is_not_vt refl)
is_other Wait given block env at st runs other = absurd (other.is_not_wait refl)
is_other WithBpm given block env at st runs other = absurd (true≢false runs)
is_other WithFx given block env at st runs other = absurd (true≢false runs)
is_other WithRandomSeed given block env at st runs other = absurd (true≢false runs)
is_other WithSynth given block env at st runs other = absurd (true≢false runs)
is_other which given block env at st runs other = (refl, refl)
