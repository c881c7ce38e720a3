use Rattle.std.proofs.Common.{ap, ◌∙◌}
use Rattle.vt_event.specs.EventsByKind.{fault_event}
use Rattle.vt_run.specs.Actions.{place_of}
use Rattle.vt_eval_steps.specs.Scenes.{env_at}
use Rattle.vt_eval_steps.proofs.Acts.{event_at, fails_by}
use Rattle.vt_eval_steps.proofs.Ways.{on_ok}
use Rattle.vt_eval_steps.proofs.scene.Scene.fault.Goals as goal

pub returns : goal.returns
returns c =
    let env = env_at c.args.self.now in
    let st = c.args.run.now.state in
    let told = event_at (λ place. fault_event place c.args.kind c.line.result) c.thread.result.now env st _ c.in_ok-event.ensures c.thread.ensures ∙ ap (λ n. fault_event (place_of env st) c.args.kind n) c.line.ensures in
    on_ok c.end.result c.end.ensures (λ ended.
    fails_by c.args.kind env c.args.at st c.emit.new.run.state c.args.run.now.notes c.emit.new.run.notes c.end.new.run.notes
    (c.in_ok-emit.ensures.makes (λ place. fault_event place c.args.kind c.args.at.line) told)
    ended)
