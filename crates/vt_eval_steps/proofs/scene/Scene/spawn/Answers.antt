use Rattle.std.proofs.Common.{◌≡◌, ◌≤◌, ap, sym, subst, ◌∙◌, true≢false, refl}
use Rattle.vt_eval_steps.specs.Scenes.{env_at}
use Rattle.vt_eval_steps.proofs.Acts.{not_small, place_at}
use Rattle.vt_eval_steps.proofs.Parts.{spawned_is, spawns_by, spawns_exceed}
use Rattle.vt_eval_steps.proofs.Ways.{makes_over, on_ok}
use Rattle.vt_eval_steps.proofs.scene.Scene.spawn.Goals as goal

pub returns-then-is_over : goal.returns-then-is_over
returns-then-is_over c = λ handed body go cap number. makes_over c.args.run.now.notes (c.is_over.ensures.0 c.if-is_over.true) _ _

pub returns-in_ok-start-in-Some : goal.returns-in_ok-start-in-Some
returns-in_ok-start-in-Some c =
    let env = env_at c.args.self.now in
    let st = c.args.run.now.state in
    on_ok c.act.result c.act.ensures.makes (λ way handed body go cap number.
    spawns_by c.args.role handed c.args.cost body env st _ c.act.new.run.state _ _ c.args.run.now.notes _ c.act.new.run.notes
    (place_at c.thread.result.now env st _ c.in_ok-place-in-Some.ensures c.thread.ensures)
    (c.in_ok-start-in-Some.ensures.start body number c.in-Some.ensures.1)
    (spawned_is st c.child.new.run.state c.in-Some.number c.in_ok-start-in-Some.ensures.state c.in-Some.ensures.1)
    c.child.ensures.notes
    way cap go)

pub returns-in-None : goal.returns-in-None
returns-in-None c = λ handed body go cap number.
    spawns_exceed c.args.role handed body (env_at c.args.self.now) c.args.run.now.state go c.args.run.now.notes _ _
    (λ is_over. true≢false (sym (c.is_over.ensures.1 is_over) ∙ c.if-is_over.false))
    (subst (λ n. n ≤ 4096) c.count.ensures.value c.count.ensures.few)
    (not_small c.args.run.now.state.children c.in-None.ensures)
