use Rattle.std.proofs.Common.{◌≡◌, Some, sym, ap, ◌∙◌, subst}
use Rattle.vt_event.specs.EventsByKind.{ended_event}
use Rattle.vt_run.specs.Actions.{tells_end}
use Rattle.vt_eval_steps.specs.Making.{Makes}
use Rattle.vt_eval_steps.specs.Scenes.{env_at}
use Rattle.vt_eval_steps.proofs.Acts.{event_at}
use Rattle.vt_eval_steps.proofs.Ways.{on_ok}
use Rattle.vt_eval_steps.proofs.scene.Scene.tell_end.Goals as goal

pub returns-in_ok-event-in-Some : goal.returns-in_ok-event-in-Some
returns-in_ok-event-in-Some c =
    let env = env_at c.args.self.now in
    let st = c.args.run.now.state in
    let told = event_at (λ place. ended_event place c.in-Some.path) c.thread.result.now env st _ c.in_ok-event-in-Some.ensures c.thread.ensures in
    on_ok c.emit.result c.emit.ensures.makes (λ way go.
    subst (λ p. Makes (tells_end p env st go) c.args.run.now.notes (go c.emit.new.run.state) c.emit.new.run.notes) (sym c.in-Some.is ∙ c.in_ok-name_path.ensures) (way (λ place. ended_event place c.in-Some.path) told go))
