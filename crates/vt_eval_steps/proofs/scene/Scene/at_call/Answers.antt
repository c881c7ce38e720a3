use Rattle.std.proofs.Common.{ap}
use Rattle.std.specs.Option.{option_copied}
use Rattle.vt_run.specs.TreeMeaning.{block_meaning}
use Rattle.vt_run.specs.calls.ThreadCalls.{at_call, timings}
use Rattle.vt_eval_steps.specs.Lists.{block_given}
use Rattle.vt_eval_steps.specs.Scenes.{env_at}
use Rattle.vt_eval_steps.proofs.Blocks.{number_of}
use Rattle.vt_eval_steps.proofs.Starts.{comes_of, comes_with}
use Rattle.vt_eval_steps.proofs.scene.Scene.at_call.Goals as goal

pub returns-in-Ok : goal.returns-in-Ok
unfolding at_call
returns-in-Ok c =
    let env = env_at c.args.self.now in
    let st = c.args.run.now.state in
    let body = block_meaning c.in-Some.block.now in
    comes_with (block_given (option_copied c.args.block)) body env c.args.at st _ c.args.run.now.notes c.start_timed.result c.start_timed.new.run (ap (λ block. block_given (option_copied block)) c.in-Some.is)
    (comes_of (timings c.args.given.now st) c.in-Ok.timings env c.args.at st _ c.args.run.now.notes c.start_timed.result c.start_timed.new.run c.in-Ok.ensures.ok
    (c.start_timed.ensures body (number_of c.in-Some.block.now)))
