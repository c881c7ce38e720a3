use Rattle.std.proofs.Common.{ap, sym, subst, ◌∙◌}
use Rattle.std.specs.Option.{option_copied}
use Rattle.vt_event.specs.declared.references.BlockRef.{BlockRef}
use Rattle.vt_event.specs.EventsByKind.{body_event}
use Rattle.vt_path.specs.declared.inner_path.InnerKind.TheVariants.{Body as BodyPath}
use Rattle.vt_path.specs.Inner.{inner_of}
use Rattle.vt_ring.specs.Answers.{MayGive}
use Rattle.vt_run.specs.Actions.{place_of}
use Rattle.vt_run.specs.Costs.{size_if_given, spawn_cost}
use Rattle.vt_run.specs.Notes.{capped}
use Rattle.vt_run.specs.TreeMeaning.{block_meaning}
use Rattle.vt_run.specs.calls.ThreadCalls.{block_ref, live_loop_call, loop_parts, loop_role, starts}
use Rattle.vt_run.specs.declared.state.State.{State}
use Rattle.vt_eval_steps.specs.Lists.{block_given}
use Rattle.vt_eval_steps.specs.Making.{Comes}
use Rattle.vt_eval_steps.specs.Scenes.{env_at}
use Rattle.vt_eval_steps.proofs.Acts.{event_at}
use Rattle.vt_eval_steps.proofs.Blocks.{number_of, ref_of}
use Rattle.vt_eval_steps.proofs.Starts.{comes_of, comes_with}
use Rattle.vt_eval_steps.proofs.Ways.{comes_from}
use Rattle.vt_eval_steps.proofs.scene.Scene.live_loop_call.Goals as goal

pub returns-in_ok-emit-in-Ok : goal.returns-in_ok-emit-in-Ok
unfolding live_loop_call
returns-in_ok-emit-in-Ok c =
    let env = env_at c.args.self.now in
    let st = c.args.run.now.state in
    let old = c.args.run.now.notes in
    let body = block_meaning c.in-Some.block.now in
    let parts = c.in-Ok.parts in
    let handed = size_if_given parts.init in
    let told =
    event_at (λ place. body_event place (inner_of BodyPath c.name.result.now) c.block_ref-body.result st.locals c.line.result) c.thread.result.now env st _ c.in_ok-event-in-Ok.ensures c.thread.ensures
    ∙ ap (λ name. body_event (place_of env st) (inner_of BodyPath name) c.block_ref-body.result st.locals c.line.result) c.name.ensures
    ∙ ap (λ (ref : BlockRef). body_event (place_of env st) (inner_of BodyPath parts.name) ref st.locals c.line.result) (ref_of c.args.self.now.text c.in-Some.block.now c.block_ref-body.result c.block_ref-body.ensures)
    ∙ ap (λ line. body_event (place_of env st) (inner_of BodyPath parts.name) (block_ref env body) st.locals line) c.line.ensures in
    let cap =
    ap (λ (s : State). capped (spawn_cost s.locals handed)) c.in_ok-emit-in-Ok.ensures.state
    ∙ ap (λ init. capped (spawn_cost st.locals (size_if_given init))) (sym c.init.ensures)
    ∙ sym c.spawn_cost-cost.ensures.cost in
    comes_with (block_given (option_copied c.args.block)) body env c.args.at st _ old c.start.result c.start.new.run (ap (λ block. block_given (option_copied block)) c.in-Some.is)
    (comes_of (loop_parts c.args.given.now) parts env c.args.at st _ old c.start.result c.start.new.run (subst (MayGive (loop_parts c.args.given.now)) c.in-Ok.is c.loop_parts.ensures)
    (comes_from c.start.new.run c.start.result
    (c.in_ok-emit-in-Ok.ensures.makes (λ place. body_event place (inner_of BodyPath parts.name) (block_ref env body) st.locals c.args.at.line) told (λ st. starts (loop_role parts) handed body env c.args.at st))
    (subst (λ role. Comes (starts role handed body env c.args.at c.emit.new.run.state) c.emit.new.run.notes c.start.result c.start.new.run) c.into_role.ensures
    (c.start.ensures handed body cap (number_of c.in-Some.block.now)))))
