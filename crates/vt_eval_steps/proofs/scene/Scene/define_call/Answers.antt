use Rattle.std.proofs.Common.{ap, sym, ◌∙◌}
use Rattle.std.specs.Option.{option_copied}
use Rattle.vt_event.specs.declared.references.BlockRef.{BlockRef}
use Rattle.vt_event.specs.EventsByKind.{defined_event}
use Rattle.vt_path.specs.declared.inner_path.InnerKind.TheVariants.{Def as DefPath}
use Rattle.vt_path.specs.Inner.{inner_of}
use Rattle.vt_run.specs.Actions.{place_of}
use Rattle.vt_run.specs.Evaluation.{gives}
use Rattle.vt_run.specs.TreeMeaning.{block_meaning}
use Rattle.vt_run.specs.calls.Arguments.{a_symbol, all_args}
use Rattle.vt_run.specs.calls.FunctionCalls.{define_call}
use Rattle.vt_run.specs.calls.ThreadCalls.{block_ref}
use Rattle.vt_value.specs.declared.value.Value.TheVariants.{Nil}
use Rattle.vt_eval_steps.specs.Lists.{block_given}
use Rattle.vt_eval_steps.specs.Scenes.{env_at}
use Rattle.vt_eval_steps.proofs.Acts.{event_at}
use Rattle.vt_eval_steps.proofs.Blocks.{ref_of}
use Rattle.vt_eval_steps.proofs.Starts.{makes_of, makes_with}
use Rattle.vt_eval_steps.proofs.scene.Scene.define_call.Goals as goal

pub returns-in_ok-emit-in-Ok : goal.returns-in_ok-emit-in-Ok
unfolding define_call
returns-in_ok-emit-in-Ok c =
    let env = env_at c.args.self.now in
    let st = c.args.run.now.state in
    let old = c.args.run.now.notes in
    let body = block_meaning c.in-Some.block.now in
    let path = inner_of DefPath c.in-Ok.name.now in
    let told =
    event_at (λ place. defined_event place path c.block_ref-block.result st.locals) c.thread.result.now env st _ c.in_ok-event-in-Ok.ensures c.thread.ensures
    ∙ ap (λ (ref : BlockRef). defined_event (place_of env st) path ref st.locals) (ref_of c.args.self.now.text c.in-Some.block.now c.block_ref-block.result c.block_ref-block.ensures) in
    makes_with (block_given (option_copied c.args.block)) body env c.args.at st _ old c.emit.new.run.notes _ (ap (λ block. block_given (option_copied block)) c.in-Some.is)
    (makes_of (a_symbol (all_args c.args.given.now)) c.in-Ok.name.now env c.args.at st _ old c.emit.new.run.notes _ (ap a_symbol (sym c.all_args.ensures) ∙ c.in-Ok.ensures.ok)
    (c.in_ok-emit-in-Ok.ensures.makes (λ place. defined_event place path (block_ref env body) st.locals) told (gives Nil)))
