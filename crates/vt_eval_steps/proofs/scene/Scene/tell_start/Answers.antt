use Rattle.std.proofs.Common.{◌≡◌, Some, sym, subst}
use Rattle.vt_event.specs.EventsByKind.{started_event}
use Rattle.vt_eval_steps.specs.Making.{Makes}
use Rattle.vt_eval_steps.specs.private.Beginning.{tells_start}
use Rattle.vt_eval_steps.specs.Scenes.{env_at}
use Rattle.vt_eval_steps.proofs.Acts.{event_at}
use Rattle.vt_eval_steps.proofs.Ways.{on_ok}
use Rattle.vt_eval_steps.proofs.scene.Scene.tell_start.Goals as goal

pub returns-in_ok-event-in-Some-clause-makes : goal.returns-in_ok-event-in-Some-clause-makes
returns-in_ok-event-in-Some-clause-makes c =
    let told = event_at (λ place. started_event place c.in-Some.path) c.thread.result.now (env_at c.args.self.now) c.args.run.now.state _ c.in_ok-event-in-Some.ensures c.thread.ensures in
    on_ok c.emit.result c.emit.ensures.makes (λ way go.
    subst (λ p. Makes (tells_start p (env_at c.args.self.now) c.args.run.now.state go) c.args.run.now.notes (go c.emit.new.run.state) c.emit.new.run.notes) (sym c.in-Some.is) (way (λ place. started_event place c.in-Some.path) told go))
