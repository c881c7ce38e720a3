use Rattle.std.proofs.Common.{◌≡◌, List, map, length}
use Rattle.vt_run.specs.calls.PatternCalls.{Item}
use Rattle.vt_given.specs.Patterns.{sounding_item}
use Rattle.vt_eval_steps.specs.Scenes.{env_at}
use Rattle.vt_eval_steps.proofs.Played.{LeftOf}
use Rattle.vt_eval_steps.proofs.scene.Scene.play_items.Given as goal

abbrev pub invariant-loop-notes : goal.invariant-loop-notes
invariant-loop-notes l = (all : List Item) → map sounding_item all ≡ l.fn.items → LeftOf all l.options (env_at l.self) l.at l.fn.run.state l.fn.run.notes l.left l.run.state l.run.notes

abbrev pub decreases-loop-notes : goal.decreases-loop-notes
decreases-loop-notes l = length l.left
