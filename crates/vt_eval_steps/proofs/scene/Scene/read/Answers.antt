use Rattle.std.proofs.Common.{ap, refl}
use Rattle.std.specs.Option.{option_copied}
use Rattle.vt_run.specs.Actions.{place_of}
use Rattle.vt_run.specs.declared.action.Action.TheVariants.{Read}
use Rattle.vt_eval_steps.specs.Scenes.{env_at}
use Rattle.vt_eval_steps.proofs.Acts.{asks_by, comes_on, place_at}
use Rattle.vt_eval_steps.proofs.scene.Scene.read.Goals as goal

pub returns-clause-answer : goal.returns-clause-answer
returns-clause-answer c =
    let env = env_at c.args.self.now in
    let st = c.args.run.now.state in
    let here = place_at c.thread.result.now env st _ c.in_ok-place.ensures c.thread.ensures in
    comes_on (option_copied c.answer.result) _ _ c.args.run.now.notes c.act.new.run.notes _ _
    (asks_by _ (Read (place_of env st) c.args.pattern) c.args.self.now.answers.now st c.act.new.run.state c.args.run.now.notes c.act.new.run.notes (ap (λ p. Read p c.args.pattern) here) (c.in_ok-act.ensures.makes 1 cc))
    c.answer.ensures.answer
