use Rattle.std.proofs.Common.{◌+◌, ap, sym, subst, ◌∙◌}
use Rattle.vt_event.specs.EventsByKind.{fx_event}
use Rattle.vt_event.specs.Pairs.{Pairs}
use Rattle.vt_run.specs.Actions.{emits}
use Rattle.vt_run.specs.Evaluation.{Ran}
use Rattle.vt_run.specs.declared.state.State.{State}
use Rattle.vt_eval_steps.specs.Making.{Makes}
use Rattle.vt_run.specs.calls.Arguments.{a_symbol}
use Rattle.vt_run.specs.calls.Arguments.{all_args}
use Rattle.vt_run.specs.calls.SettingCalls.{in_next_fx, with_fx_call}
use Rattle.vt_eval_steps.specs.Scenes.{env_at}
use Rattle.vt_eval_steps.proofs.Acts.{fails_where}
use Rattle.vt_eval_steps.proofs.Begun.{fx_begins}
use Rattle.vt_eval_steps.proofs.scene.Scene.with_fx.Goals as goal

pub returns-in_ok-fault-in-Err : goal.returns-in_ok-fault-in-Err
unfolding with_fx_call
returns-in_ok-fault-in-Err c = λ block to.
    fails_where (a_symbol (all_args c.args.given.now)) c.in-Err.kind (env_at c.args.self.now) c.args.at c.args.run.now.state _ c.args.run.now.notes c.fault.new.run.notes (ap a_symbol (sym c.all_args.ensures) ∙ c.in-Err.ensures.err) c.in_ok-fault-in-Err.ensures to

pub returns-in_ok-fx-in-Ok : goal.returns-in_ok-fx-in-Ok
returns-in_ok-fx-in-Ok c = λ block.
    let env = env_at c.args.self.now in
    let st = c.args.run.now.state in
    let way = subst (λ (options : Pairs). (go : State → Ran) → Makes (emits (λ place. fx_event place c.in-Ok.name.now (st.effects + 1) options st.settings.fx) env st (λ begun. go (in_next_fx env st begun))) c.args.run.now.notes (go c.begin_fx.new.run.state) c.begin_fx.new.run.notes) c.options.ensures c.in_ok-fx-in-Ok.ensures.makes in
    fx_begins c.args.given.now block c.in-Ok.name.now c.in_ok-fx-in-Ok.fx env c.args.at st c.begin_fx.new.run.state c.args.run.now.notes c.begin_fx.new.run.notes
    (ap a_symbol (sym c.all_args.ensures) ∙ c.in-Ok.ensures.ok) c.in_ok-fx-in-Ok.ensures.before way
