use Rattle.std.proofs.Common.{ap, sym}
use Rattle.std.specs.Option.{option_copied}
use Rattle.std.specs.Prelude.{codes}
use Rattle.vt_ring.specs.Signatures.{option_named}
use Rattle.vt_run.specs.TreeMeaning.{block_meaning}
use Rattle.vt_run.specs.calls.ThreadCalls.{in_thread_call, thread_role}
use Rattle.vt_eval_steps.specs.Lists.{block_given}
use Rattle.vt_eval_steps.specs.Scenes.{env_at}
use Rattle.vt_eval_steps.proofs.Blocks.{number_of}
use Rattle.vt_eval_steps.proofs.Starts.{comes_of, comes_with}
use Rattle.vt_eval_steps.proofs.scene.Scene.in_thread_call.Goals as goal

pub returns-in-Ok : goal.returns-in-Ok
unfolding in_thread_call
returns-in-Ok c =
    let env = env_at c.args.self.now in
    let st = c.args.run.now.state in
    let body = block_meaning c.in-Some.block.now in
    comes_with (block_given (option_copied c.args.block)) body env c.args.at st _ c.args.run.now.notes c.start.result c.start.new.run (ap (λ block. block_given (option_copied block)) c.in-Some.is)
    (comes_of (thread_role (option_named (codes "name") c.args.given.now.options)) c.in-Ok.role env c.args.at st _ c.args.run.now.notes c.start.result c.start.new.run c.in-Ok.ensures
    (c.start.ensures 0 body (sym c.spawn_cost-cost.ensures.cost) (number_of c.in-Some.block.now)))
