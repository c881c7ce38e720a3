use Rattle.std.proofs.Common.{ap, sym, ◌∙◌}
use Rattle.vt_run.specs.calls.Arguments.{a_symbol}
use Rattle.vt_run.specs.calls.Arguments.{all_args}
use Rattle.vt_run.specs.calls.SettingCalls.{with_synth, with_synth_call}
use Rattle.vt_eval_steps.specs.Scenes.{env_at}
use Rattle.vt_eval_steps.proofs.Acts.{fails_where}
use Rattle.vt_eval_steps.proofs.Begun.{synth_begins}
use Rattle.vt_eval_steps.proofs.scene.Scene.with_synth.Goals as goal

pub returns-in_ok-fault-in-Err : goal.returns-in_ok-fault-in-Err
unfolding with_synth_call
returns-in_ok-fault-in-Err c = λ block to.
    fails_where (a_symbol (all_args c.args.given.now)) c.in-Err.kind (env_at c.args.self.now) c.args.at c.args.run.now.state _ c.args.run.now.notes c.fault.new.run.notes (ap a_symbol (sym c.all_args.ensures) ∙ c.in-Err.ensures.err) c.in_ok-fault-in-Err.ensures to

pub returns-in_ok-synth-in-Ok : goal.returns-in_ok-synth-in-Ok
returns-in_ok-synth-in-Ok c = λ block.
    synth_begins c.args.given.now block c.in-Ok.name.now c.replace.result (env_at c.args.self.now) c.args.at c.args.run.now.state (with_synth c.replace.new.dest c.args.run.now.state) c.args.run.now.notes
    (ap a_symbol (sym c.all_args.ensures) ∙ c.in-Ok.ensures.ok) c.replace.ensures.value (ap (λ name. with_synth name c.args.run.now.state) (c.replace.ensures.after ∙ c.in_ok-synth-in-Ok.ensures ∙ c.as_bytes.ensures.value))
