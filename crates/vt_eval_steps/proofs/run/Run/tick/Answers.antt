use Rattle.std.proofs.Common.{None}
use Rattle.vt_eval_steps.proofs.Ways.{makes_step, on_ok}
use Rattle.vt_eval_steps.proofs.run.Run.tick.Goals as goal

pub returns-clause-makes : goal.returns-clause-makes
returns-clause-makes c = on_ok c.step.result c.step.ensures.value (λ same ran. makes_step (record { cost = 1; action = None }) c.args.self.now.notes c.step.new.self same tt ran)
