use Rattle.std.proofs.Common.{ap, sym, ◌∙◌}
use Rattle.vt_ring.specs.Signatures.{a_ring}
use Rattle.vt_run.specs.calls.Arguments.{all_args}
use Rattle.vt_run.specs.calls.LoopCalls.{each_call}
use Rattle.vt_eval_steps.specs.Scenes.{env_at}
use Rattle.vt_eval_steps.proofs.Acts.{fails_where}
use Rattle.vt_eval_steps.proofs.scene.Scene.each.Goals as goal

pub returns-in_ok-fault-in-Err : goal.returns-in_ok-fault-in-Err
unfolding each_call
returns-in_ok-fault-in-Err c = λ block to.
    fails_where (a_ring (all_args c.args.given.now)) c.in-Err.kind (env_at c.args.self.now) c.args.at c.args.run.now.state _ c.args.run.now.notes c.fault.new.run.notes (ap a_ring (sym c.all_args.ensures) ∙ c.in-Err.ensures.err) c.in_ok-fault-in-Err.ensures to
