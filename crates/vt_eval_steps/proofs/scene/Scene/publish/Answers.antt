use Rattle.std.proofs.Common.{ap}
use Rattle.vt_run.specs.Evaluation.{gives}
use Rattle.vt_value.specs.declared.value.Value.TheVariants.{Nil}
use Rattle.vt_effects.specs.Results.{at_place}
use Rattle.vt_eval_steps.proofs.scene.Scene.publish.Goals as goal

pub returns : goal.returns
returns c = c.in_ok-emit.ensures.makes (at_place c.args.event) (ap (λ place. at_place c.args.event place) c.requires) (gives Nil)
