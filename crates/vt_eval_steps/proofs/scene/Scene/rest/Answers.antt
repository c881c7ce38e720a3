use Rattle.std.proofs.Common.{◌≡◌, ap, sym, ◌∙◌}
use Rattle.vt_run.specs.Actions.{is_past, time_after}
use Rattle.vt_run.specs.Evaluation.{gives}
use Rattle.vt_run.specs.declared.state.State.{State}
use Rattle.vt_value.specs.declared.value.Value.TheVariants.{Nil}
use Rattle.vt_eval_steps.specs.Scenes.{env_at}
use Rattle.vt_eval_steps.proofs.Acts.{place_at}
use Rattle.vt_eval_steps.proofs.Parts.{rests_on, rests_past}
use Rattle.vt_eval_steps.proofs.Ways.{makes_at, makes_trans}
use Rattle.vt_eval_steps.proofs.scene.Scene.rest.Goals as goal

pub returns-then-is_past : goal.returns-then-is_past
returns-then-is_past c =
    let env = env_at c.args.self.now in
    let st = c.args.run.now.state in
    let here = place_at c.thread.result.now env st _ c.in_ok-place.ensures c.thread.ensures in
    let past = ap (λ (s : State). is_past env.start.until (time_after c.args.seconds s)) c.in_ok-act.ensures.state ∙ ap (λ t. is_past env.start.until t) (sym c.time_after-time.ensures) ∙ sym c.is_past.ensures ∙ c.if-is_past.true in
    rests_past c.args.seconds env st c.act.new.run.state _ c.args.run.now.notes c.act.new.run.notes c.finish.new.self _ here (c.in_ok-act.ensures.makes 1 cc) past c.finish.ensures.value

pub returns : goal.returns
returns c =
    let env = env_at c.args.self.now in
    let st = c.args.run.now.state in
    let here = place_at c.thread.result.now env st _ c.in_ok-place.ensures c.thread.ensures in
    let past = ap (λ (s : State). is_past env.start.until (time_after c.args.seconds s)) c.in_ok-act.ensures.state ∙ ap (λ t. is_past env.start.until t) (sym c.time_after-time.ensures) ∙ sym c.is_past.ensures ∙ c.if-is_past.false in
    makes_trans (rests_on c.args.seconds env st c.act.new.run.state _ c.args.run.now.notes c.act.new.run.notes here (c.in_ok-act.ensures.makes 1 cc) past)
    (makes_at c.act.new.run.notes (ap (λ st. gives Nil st) (sym c.end_rest.ensures)))
