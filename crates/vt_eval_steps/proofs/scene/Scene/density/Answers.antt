use Rattle.std.proofs.Common.{ap, sym, ◌∙◌}
use Rattle.vt_run.specs.calls.LoopCalls.{density_call, density_of}
use Rattle.vt_run.specs.calls.SettingCalls.{with_bpm}
use Rattle.vt_eval_steps.specs.Scenes.{env_at}
use Rattle.vt_eval_steps.proofs.Acts.{fails_where}
use Rattle.vt_eval_steps.proofs.Begun.{density_begins}
use Rattle.vt_eval_steps.proofs.scene.Scene.density.Goals as goal

pub returns-in_ok-fault-in-Err : goal.returns-in_ok-fault-in-Err
unfolding density_call
returns-in_ok-fault-in-Err c = λ block to.
    fails_where (density_of c.args.given.now c.args.run.now.state.settings.bpm) c.in-Err.kind (env_at c.args.self.now) c.args.at c.args.run.now.state _ c.args.run.now.notes c.fault.new.run.notes (sym c.density_of.ensures ∙ c.in-Err.is) c.in_ok-fault-in-Err.ensures to

pub returns-in-Ok : goal.returns-in-Ok
returns-in-Ok c = λ block.
    density_begins c.args.given.now block c.in-Ok.faster.0 c.in-Ok.faster.1 c.replace-bpm.result (env_at c.args.self.now) c.args.at c.args.run.now.state (with_bpm c.replace-bpm.new.dest c.args.run.now.state) c.args.run.now.notes
    (sym c.density_of.ensures ∙ c.in-Ok.is) c.replace-bpm.ensures.value (ap (λ bpm. with_bpm bpm c.args.run.now.state) c.replace-bpm.ensures.after)
