use Rattle.std.proofs.Common.{◌+◌, ap, ◌∙◌}
use Rattle.vt_event.specs.EventsByKind.{fx_event}
use Rattle.vt_run.specs.calls.SettingCalls.{in_next_fx}
use Rattle.vt_eval_steps.specs.Scenes.{env_at}
use Rattle.vt_eval_steps.proofs.Acts.{event_at}
use Rattle.vt_eval_steps.proofs.Parts.{fx_is}
use Rattle.vt_eval_steps.proofs.Ways.{makes_at, makes_trans}
use Rattle.vt_eval_steps.proofs.scene.Scene.begin_numbered.Goals as goal

pub returns-clause-makes : goal.returns-clause-makes
returns-clause-makes c = λ go.
    let env = env_at c.args.self.now in
    let st = c.args.run.now.state in
    let told = event_at (λ place. fx_event place c.args.name.now (st.effects + 1) c.args.options.now st.settings.fx) c.thread.result.now env st _ c.in_ok-event.ensures c.thread.ensures in
    makes_trans (c.in_ok-emit.ensures.makes (λ place. fx_event place c.args.name.now (st.effects + 1) c.args.options.now st.settings.fx) told (λ begun. go (in_next_fx env st begun)))
    (makes_at c.emit.new.run.notes (ap go (fx_is env st c.emit.new.run.state c.in_ok-thread.thread c.args.number c.replace.new.dest c.replace.ensures.after (c.in_ok-thread.ensures ∙ c.thread-2.ensures) c.requires)))
