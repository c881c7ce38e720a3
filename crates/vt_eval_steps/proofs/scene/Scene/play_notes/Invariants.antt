use Rattle.std.proofs.Common.{◌≡◌, length, map}
use Rattle.vt_run.specs.Actions.{emits_all}
use Rattle.vt_run.specs.Evaluation.{Ran}
use Rattle.vt_run.specs.calls.PlayCalls.{plays_note}
use Rattle.vt_run.specs.declared.state.State.{State}
use Rattle.vt_eval_steps.specs.Making.{Makes}
use Rattle.vt_eval_steps.specs.Scenes.{env_at}
use Rattle.vt_eval_steps.proofs.scene.Scene.play_notes.Given as goal

abbrev pub invariant-loop-note : goal.invariant-loop-note
invariant-loop-note l = record {
  settings : l.run.state.settings ≡ l.fn.run.state.settings;
  way : (go : State → Ran) → Makes (emits_all (map (plays_note l.options l.fn.run.state.settings) l.notes) (env_at l.self) l.fn.run.state go) l.fn.run.notes (emits_all (map (plays_note l.options l.fn.run.state.settings) l.left) (env_at l.self) l.run.state go) l.run.notes;
}

abbrev pub decreases-loop-note : goal.decreases-loop-note
decreases-loop-note l = length l.left
