use Rattle.std.proofs.Common.{ap, sym, ◌∙◌}
use Rattle.vt_run.specs.calls.SettingCalls.{a_tempo}
use Rattle.vt_run.specs.calls.Arguments.{all_args}
use Rattle.vt_run.specs.calls.SettingCalls.{with_bpm_call}
use Rattle.vt_eval_steps.specs.Scenes.{env_at}
use Rattle.vt_eval_steps.proofs.Acts.{fails_where}
use Rattle.vt_eval_steps.proofs.scene.Scene.with_bpm.Goals as goal

pub returns-in_ok-fault-in-Err : goal.returns-in_ok-fault-in-Err
unfolding with_bpm_call
returns-in_ok-fault-in-Err c = λ block to.
    fails_where (a_tempo c.args.given.now) c.in-Err.kind (env_at c.args.self.now) c.args.at c.args.run.now.state _ c.args.run.now.notes c.fault.new.run.notes (sym c.a_tempo.ensures ∙ c.in-Err.is) c.in_ok-fault-in-Err.ensures to
