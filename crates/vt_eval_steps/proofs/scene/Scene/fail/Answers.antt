use Rattle.vt_eval_steps.proofs.scene.Scene.fail.Goals as goal

pub returns : goal.returns
returns c = c.in_ok-fault.ensures _
