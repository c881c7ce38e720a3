use Rattle.std.proofs.Common.{◌≡◌, ◌≤◌, sym, subst, ◌∙◌, true≢false}
use Rattle.vt_run.specs.calls.SettingCalls.{in_next_fx}
use Rattle.vt_eval_steps.specs.Scenes.{env_at}
use Rattle.vt_eval_steps.proofs.Acts.{not_small}
use Rattle.vt_eval_steps.proofs.Parts.{fx_exceeds}
use Rattle.vt_eval_steps.proofs.Ways.{if_any, makes_over}
use Rattle.vt_eval_steps.proofs.scene.Scene.begin_fx.Goals as goal

pub returns-then-is_over-clause-makes : goal.returns-then-is_over-clause-makes
returns-then-is_over-clause-makes c = if_any c.copy_fx.result (λ go. makes_over c.args.run.now.notes (c.is_over.ensures.0 c.if-is_over.true) _ _)

pub returns-in-None-clause-makes : goal.returns-in-None-clause-makes
returns-in-None-clause-makes c = if_any c.copy_fx-in-None.result (λ go.
    fx_exceeds c.args.name.now c.args.options.now (env_at c.args.self.now) c.args.run.now.state (λ begun. go (in_next_fx (env_at c.args.self.now) c.args.run.now.state begun)) c.args.run.now.notes _ _
    (λ is_over. true≢false (sym (c.is_over.ensures.1 is_over) ∙ c.if-is_over.false))
    (subst (λ n. n ≤ 4096) c.count.ensures.value c.count.ensures.few)
    c.keep_step.ensures
    (not_small c.args.run.now.state.effects c.in-None.ensures))
