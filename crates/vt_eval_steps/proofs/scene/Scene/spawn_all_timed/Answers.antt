use Rattle.vt_eval_steps.specs.Scenes.{env_at}
use Rattle.vt_eval_steps.proofs.Parts.{timed_on}
use Rattle.vt_eval_steps.proofs.Ways.{makes_trans}
use Rattle.vt_eval_steps.proofs.scene.Scene.spawn_all_timed.Goals as goal

pub loop-timing-preserved : goal.loop-timing-preserved
loop-timing-preserved c = λ body number.
    makes_trans (c.loop-timing.invariant body number)
    (timed_on c.in-Some.timing.0 c.in-Some.timing.1.now c.loop-timing.left c.next.new.self body (env_at c.args.self.now) c.args.at c.loop-timing.run.state c.spawn_timed.new.run.state c.loop-timing.run.notes c.spawn_timed.new.run.notes c.in-Some.ensures (λ go. c.in_ok-spawn_timed.ensures body go number))
