use Rattle.std.proofs.Common.{◌≡◌, true, false, cond, ap, sym, ◌∙◌}
use Rattle.vt_event.specs.EventsByKind.{took_event}
use Rattle.vt_run.specs.Actions.{emits, ends, is_own_stop, place_of}
use Rattle.vt_run.specs.Evaluation.{gives}
use Rattle.vt_run.specs.declared.action.EndReason.TheVariants.{Stopped}
use Rattle.vt_eval_steps.specs.Scenes.{env_at}
use Rattle.vt_eval_steps.proofs.Acts.{event_at}
use Rattle.vt_eval_steps.proofs.Ways.{comes_copied, comes_from, makes_at, makes_trans}
use Rattle.vt_eval_steps.proofs.scene.Scene.take.Goals as goal

pub returns-then-branch : goal.returns-then-branch
returns-then-branch c = λ event same.
    let env = env_at c.args.self.now in
    let st = c.args.run.now.state in
    let path = c.args.path.now in
    let own = sym c.in_ok-is_own_stop.ensures ∙ c.if-branch.true in
    makes_trans (makes_at c.args.run.now.notes (ap (λ own. cond own (ends Stopped env st) (emits (λ place. took_event place path event.value) env st (gives event.value))) own)) (c.in_ok-end.ensures _)

pub returns : goal.returns
returns c = λ event same.
    let env = env_at c.args.self.now in
    let st = c.args.run.now.state in
    let path = c.args.path.now in
    let own = sym c.in_ok-is_own_stop.ensures ∙ c.if-branch.false in
    let told = event_at (λ place. took_event place path c.args.value.now) c.thread.result.now env st _ c.in_ok-event.ensures c.thread.ensures ∙ ap (λ v. took_event (place_of env st) path v) (sym same) in
    comes_from c.emit.new.run c.copy.result
    (makes_trans (makes_at c.args.run.now.notes (ap (λ own. cond own (ends Stopped env st) (emits (λ place. took_event place path event.value) env st (gives event.value))) own))
    (c.in_ok-emit.ensures.makes (λ place. took_event place path event.value) told (gives event.value)))
    (comes_copied event.value c.args.value.now (sym same) c.copy.result c.emit.new.run c.copy.ensures)
