use Rattle.std.proofs.Common.{◌≡◌, length}
use Rattle.vt_run.specs.Scopes.{BlockMeaning}
use Rattle.vt_run.specs.calls.ThreadCalls.{spawns_timed}
use Rattle.vt_eval_steps.specs.Making.{Makes}
use Rattle.vt_eval_steps.specs.Scenes.{env_at}
use Rattle.vt_eval_steps.proofs.scene.Scene.spawn_all_timed.Given as goal

abbrev pub invariant-loop-timing : goal.invariant-loop-timing
invariant-loop-timing l = (body : BlockMeaning) → body.number ≡ l.block → Makes (spawns_timed l.fn.timings body (env_at l.self) l.at l.fn.run.state) l.fn.run.notes (spawns_timed l.left body (env_at l.self) l.at l.run.state) l.run.notes

abbrev pub decreases-loop-timing : goal.decreases-loop-timing
decreases-loop-timing l = length l.left
