use Rattle.vt_eval_steps.proofs.Ways.{makes_charge}
use Rattle.vt_eval_steps.proofs.run.Run.charge.Goals as goal

pub returns-in_ok-step-clause-makes : goal.returns-in_ok-step-clause-makes
returns-in_ok-step-clause-makes c = λ exact cap ran. makes_charge exact c.args.size c.args.self.now.notes c.step.new.self c.if-size-gt0.true cap c.in_ok-step.ensures.value ran
