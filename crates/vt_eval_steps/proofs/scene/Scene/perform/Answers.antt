use Rattle.std.proofs.Common.{ap, ◌∙◌}
use Rattle.std.specs.Option.{option_copied}
use Rattle.vt_table.specs.declared.calls.CallName.TheVariants as calls
use Rattle.vt_run.specs.calls.EffectTable.{performed}
use Rattle.vt_run.specs.calls.MessageCalls.{cue_call, puts_call, set_call}
use Rattle.vt_run.specs.calls.PlayCalls.{sample_call, synth_call}
use Rattle.vt_run.specs.calls.SettingCalls.{use_debug_call}
use Rattle.vt_run.specs.calls.TimeCalls.{rt_call}
use Rattle.vt_eval_steps.specs.Lists.{block_given}
use Rattle.vt_eval_steps.specs.Scenes.{env_at}
use Rattle.vt_eval_steps.proofs.Performed.{is_other, may_publish, performed_by, publishes_in, is_cue, is_print, is_puts, is_rt, is_sample, is_set, is_stop, is_synth, is_use_debug}
use Rattle.vt_eval_steps.proofs.Ways.{comes_from, makes_at, makes_trans}
use Rattle.vt_eval_steps.proofs.scene.Scene.perform.Goals as goal

pub returns-in-Cue : goal.returns-in-Cue
returns-in-Cue c =
    performed_by c.args.which calls.Cue c.args.given.now (block_given (option_copied c.args.block)) (env_at c.args.self.now) c.args.at c.args.run.now.state c.args.run.now.notes c.published.result c.published.new.run _ c.in-Cue.is (is_cue c.args.given.now (block_given (option_copied c.args.block)) (env_at c.args.self.now) c.args.at c.args.run.now.state)
    (c.published.ensures (cue_call c.args.given.now c.args.run.now.state) (publishes_in (cue_call c.args.given.now c.args.run.now.state) c.thread-thread.result.now c.args.self.now.start.now.place.thread c.args.run.now.state c.cue.result c.thread-thread.ensures c.cue.ensures))

pub returns-in-Print : goal.returns-in-Print
returns-in-Print c =
    performed_by c.args.which calls.Print c.args.given.now (block_given (option_copied c.args.block)) (env_at c.args.self.now) c.args.at c.args.run.now.state c.args.run.now.notes c.published-in-Print.result c.published-in-Print.new.run _ c.in-Print.is (is_print c.args.given.now (block_given (option_copied c.args.block)) (env_at c.args.self.now) c.args.at c.args.run.now.state)
    (c.published-in-Print.ensures (puts_call c.args.given.now c.args.run.now.state) (publishes_in (puts_call c.args.given.now c.args.run.now.state) c.thread-thread.result.now c.args.self.now.start.now.place.thread c.args.run.now.state c.puts.result c.thread-thread.ensures (may_publish (puts_call c.args.given.now c.args.run.now.state) c.thread-thread.result.now c.args.run.now.state c.puts.result c.puts.ensures)))

pub returns-in-Puts : goal.returns-in-Puts
returns-in-Puts c =
    performed_by c.args.which calls.Puts c.args.given.now (block_given (option_copied c.args.block)) (env_at c.args.self.now) c.args.at c.args.run.now.state c.args.run.now.notes c.published-in-Puts.result c.published-in-Puts.new.run _ c.in-Puts.is (is_puts c.args.given.now (block_given (option_copied c.args.block)) (env_at c.args.self.now) c.args.at c.args.run.now.state)
    (c.published-in-Puts.ensures (puts_call c.args.given.now c.args.run.now.state) (publishes_in (puts_call c.args.given.now c.args.run.now.state) c.thread-thread.result.now c.args.self.now.start.now.place.thread c.args.run.now.state c.puts-in-Puts.result c.thread-thread.ensures (may_publish (puts_call c.args.given.now c.args.run.now.state) c.thread-thread.result.now c.args.run.now.state c.puts-in-Puts.result c.puts-in-Puts.ensures)))

pub returns-in-Rt : goal.returns-in-Rt
returns-in-Rt c =
    performed_by c.args.which calls.Rt c.args.given.now (block_given (option_copied c.args.block)) (env_at c.args.self.now) c.args.at c.args.run.now.state c.args.run.now.notes c.valued.result c.valued.new.run _ c.in-Rt.is (is_rt c.args.given.now (block_given (option_copied c.args.block)) (env_at c.args.self.now) c.args.at c.args.run.now.state)
    (c.valued.ensures (rt_call c.args.given.now c.args.run.now.state) c.rt.ensures)

pub returns-in-Sample : goal.returns-in-Sample
returns-in-Sample c =
    performed_by c.args.which calls.Sample c.args.given.now (block_given (option_copied c.args.block)) (env_at c.args.self.now) c.args.at c.args.run.now.state c.args.run.now.notes c.published-in-Sample.result c.published-in-Sample.new.run _ c.in-Sample.is (is_sample c.args.given.now (block_given (option_copied c.args.block)) (env_at c.args.self.now) c.args.at c.args.run.now.state)
    (c.published-in-Sample.ensures (sample_call c.args.given.now c.args.run.now.state) (publishes_in (sample_call c.args.given.now c.args.run.now.state) c.thread-thread.result.now c.args.self.now.start.now.place.thread c.args.run.now.state c.sample.result c.thread-thread.ensures (may_publish (sample_call c.args.given.now c.args.run.now.state) c.thread-thread.result.now c.args.run.now.state c.sample.result c.sample.ensures)))

pub returns-in-Set : goal.returns-in-Set
returns-in-Set c =
    performed_by c.args.which calls.Set c.args.given.now (block_given (option_copied c.args.block)) (env_at c.args.self.now) c.args.at c.args.run.now.state c.args.run.now.notes c.published-in-Set.result c.published-in-Set.new.run _ c.in-Set.is (is_set c.args.given.now (block_given (option_copied c.args.block)) (env_at c.args.self.now) c.args.at c.args.run.now.state)
    (c.published-in-Set.ensures (set_call c.args.given.now c.args.run.now.state) (publishes_in (set_call c.args.given.now c.args.run.now.state) c.thread-thread.result.now c.args.self.now.start.now.place.thread c.args.run.now.state c.set.result c.thread-thread.ensures c.set.ensures))

pub returns-in_ok-end-in-Stop : goal.returns-in_ok-end-in-Stop
returns-in_ok-end-in-Stop c =
    makes_trans (makes_at c.args.run.now.notes (ap (λ which. performed which c.args.given.now (block_given (option_copied c.args.block)) (env_at c.args.self.now) c.args.at c.args.run.now.state) c.in-Stop.is ∙ is_stop c.args.given.now (block_given (option_copied c.args.block)) (env_at c.args.self.now) c.args.at c.args.run.now.state)) (c.in_ok-end-in-Stop.ensures _)

pub returns-in-Synth : goal.returns-in-Synth
returns-in-Synth c =
    performed_by c.args.which calls.Synth c.args.given.now (block_given (option_copied c.args.block)) (env_at c.args.self.now) c.args.at c.args.run.now.state c.args.run.now.notes c.published-in-Synth.result c.published-in-Synth.new.run _ c.in-Synth.is (is_synth c.args.given.now (block_given (option_copied c.args.block)) (env_at c.args.self.now) c.args.at c.args.run.now.state)
    (c.published-in-Synth.ensures (synth_call c.args.given.now c.args.run.now.state) (publishes_in (synth_call c.args.given.now c.args.run.now.state) c.thread-thread.result.now c.args.self.now.start.now.place.thread c.args.run.now.state c.synth.result c.thread-thread.ensures (may_publish (synth_call c.args.given.now c.args.run.now.state) c.thread-thread.result.now c.args.run.now.state c.synth.result c.synth.ensures)))

pub returns-in-UseDebug : goal.returns-in-UseDebug
returns-in-UseDebug c =
    performed_by c.args.which calls.UseDebug c.args.given.now (block_given (option_copied c.args.block)) (env_at c.args.self.now) c.args.at c.args.run.now.state c.args.run.now.notes c.valued-in-UseDebug.result c.valued-in-UseDebug.new.run _ c.in-UseDebug.is (is_use_debug c.args.given.now (block_given (option_copied c.args.block)) (env_at c.args.self.now) c.args.at c.args.run.now.state)
    (c.valued-in-UseDebug.ensures (use_debug_call c.args.given.now c.args.run.now.state) (c.use_debug.ensures c.args.run.now.state))

pub compute-requires : goal.compute-requires
compute-requires c =
    (is_other c.args.which c.args.given.now (block_given (option_copied c.args.block)) (env_at c.args.self.now) c.args.at c.args.run.now.state c.requires (record { is_not_at = c.in_default.not-At; is_not_cue = c.in_default.not-Cue; is_not_current_bpm = c.in_default.not-CurrentBpm; is_not_define = c.in_default.not-Define; is_not_get = c.in_default.not-Get; is_not_in_thread = c.in_default.not-InThread; is_not_live_loop = c.in_default.not-LiveLoop; is_not_look = c.in_default.not-Look; is_not_play = c.in_default.not-Play; is_not_play_pattern = c.in_default.not-PlayPattern; is_not_play_pattern_timed = c.in_default.not-PlayPatternTimed; is_not_print = c.in_default.not-Print; is_not_puts = c.in_default.not-Puts; is_not_rt = c.in_default.not-Rt; is_not_sample = c.in_default.not-Sample; is_not_set = c.in_default.not-Set; is_not_sleep = c.in_default.not-Sleep; is_not_stop = c.in_default.not-Stop; is_not_sync = c.in_default.not-Sync; is_not_synth = c.in_default.not-Synth; is_not_tick = c.in_default.not-Tick; is_not_tick_reset = c.in_default.not-TickReset; is_not_tick_set = c.in_default.not-TickSet; is_not_use_bpm = c.in_default.not-UseBpm; is_not_use_debug = c.in_default.not-UseDebug; is_not_use_random_seed = c.in_default.not-UseRandomSeed; is_not_use_synth = c.in_default.not-UseSynth; is_not_use_synth_defaults = c.in_default.not-UseSynthDefaults; is_not_vt = c.in_default.not-Vt; is_not_wait = c.in_default.not-Wait })).0

pub returns-in_default : goal.returns-in_default
returns-in_default c =
    comes_from c.compute.new.run c.compute.result (makes_at c.args.run.now.notes (is_other c.args.which c.args.given.now (block_given (option_copied c.args.block)) (env_at c.args.self.now) c.args.at c.args.run.now.state c.requires (record { is_not_at = c.in_default.not-At; is_not_cue = c.in_default.not-Cue; is_not_current_bpm = c.in_default.not-CurrentBpm; is_not_define = c.in_default.not-Define; is_not_get = c.in_default.not-Get; is_not_in_thread = c.in_default.not-InThread; is_not_live_loop = c.in_default.not-LiveLoop; is_not_look = c.in_default.not-Look; is_not_play = c.in_default.not-Play; is_not_play_pattern = c.in_default.not-PlayPattern; is_not_play_pattern_timed = c.in_default.not-PlayPatternTimed; is_not_print = c.in_default.not-Print; is_not_puts = c.in_default.not-Puts; is_not_rt = c.in_default.not-Rt; is_not_sample = c.in_default.not-Sample; is_not_set = c.in_default.not-Set; is_not_sleep = c.in_default.not-Sleep; is_not_stop = c.in_default.not-Stop; is_not_sync = c.in_default.not-Sync; is_not_synth = c.in_default.not-Synth; is_not_tick = c.in_default.not-Tick; is_not_tick_reset = c.in_default.not-TickReset; is_not_tick_set = c.in_default.not-TickSet; is_not_use_bpm = c.in_default.not-UseBpm; is_not_use_debug = c.in_default.not-UseDebug; is_not_use_random_seed = c.in_default.not-UseRandomSeed; is_not_use_synth = c.in_default.not-UseSynth; is_not_use_synth_defaults = c.in_default.not-UseSynthDefaults; is_not_vt = c.in_default.not-Vt; is_not_wait = c.in_default.not-Wait })).1) c.compute.ensures
