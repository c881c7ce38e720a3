use Rattle.std.proofs.Common.{◌≡◌, subst}
use Rattle.std.specs.Prelude.{IfOk}
use Rattle.vt_effects.specs.Results.{place_in}
use Rattle.vt_eval_steps.proofs.scene.Scene.published.Goals as goal

pub publish-requires : goal.publish-requires
publish-requires c = subst (λ answer. IfOk answer (λ event. event.place ≡ place_in c.args.self.now.start.now.place.thread c.args.run.now.state)) c.in-Ok.is c.requires
