use Rattle.std.proofs.Common.{subst}
use Rattle.std.specs.Option.{option_copied}
use Rattle.vt_run.specs.Actions.{takes, waits}
use Rattle.vt_eval_steps.specs.Making.{WokenOn}
use Rattle.vt_eval_steps.specs.Scenes.{env_at}
use Rattle.vt_eval_steps.proofs.Ways.{comes_from}
use Rattle.vt_eval_steps.proofs.scene.Scene.sync.Goals as goal

pub returns-in-Some : goal.returns-in-Some
returns-in-Some c =
    let env = env_at c.args.self.now in
    let way = subst (λ found. WokenOn (option_copied found) (waits c.args.pattern env c.args.run.now.state) c.args.run.now.notes c.wait.new.run.state c.wait.new.run.notes) c.in-Some.is c.in_ok-wait.ensures in
    comes_from c.wake.new.run c.wake.result (way (λ path event st. takes path event env st)) c.wake.ensures
