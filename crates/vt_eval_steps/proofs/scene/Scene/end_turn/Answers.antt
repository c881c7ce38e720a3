use Rattle.std.proofs.Common.{◌≡◌, ap, sym, ◌∙◌, subst}
use Rattle.vt_eval_steps.specs.Scenes.{env_at}
use Rattle.vt_eval_steps.specs.Turns.{turn_ends, turns_run}
use Rattle.vt_eval_steps.specs.declared.run.Run.{Run}
use Rattle.vt_eval_steps.specs.Making.{Makes}
use Rattle.vt_eval_steps.proofs.Turned.{idle_ends, moved_ends}
use Rattle.vt_eval_steps.proofs.Ways.{makes_at}
use Rattle.vt_eval_steps.proofs.scene.Scene.end_turn.Goals as goal
use Rattle.vt_eval_steps.proofs.scene.Scene.end_turn.Goals.{then-not-run+in_ok-fault-in-Loop, else-not-run}

pub returns-after-not-run-clause-makes : goal.returns-after-not-run-clause-makes
returns-after-not-run-clause-makes c = λ block. elim c.if-not-run.branch [
  | then-not-run+in_ok-fault-in-Loop w ↦ idle_ends c.args.turns.now c.in-Loop.left c.args.value block (env_at c.args.self.now) c.args.at c.args.run.now.state c.args.run.now.notes _ _ c.in-Loop.is (cc w.if-not-run.true) (λ to. subst (λ (r : Run). Makes _ c.args.run.now.notes to r.notes) (sym w.run-is) (w.in_ok-fault-in-Loop.ensures to))
  | else-not-run w ↦ subst (λ (r : Run). Makes (turn_ends c.args.turns.now c.args.value block (env_at c.args.self.now) c.args.at c.args.run.now.state) c.args.run.now.notes (turns_run c.args.turns.now block (env_at c.args.self.now) c.args.at r.state) r.notes) (sym w.run-is) (makes_at c.args.run.now.notes (moved_ends c.args.turns.now c.in-Loop.left c.args.value block (env_at c.args.self.now) c.args.at c.args.run.now.state c.in-Loop.is (cc w.if-not-run.false)))
]
