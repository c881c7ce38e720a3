use Rattle.std.proofs.Common.{◌≡◌, None, ap}
use Rattle.std.specs.Prelude.{slice_get}
use Rattle.std.proofs.lemmas.Option.{slice_get_past}
use Rattle.vt_run.specs.Actions.{answered}
use Rattle.vt_eval_steps.proofs.Ways.{makes_at, makes_halt, makes_trans}
use Rattle.vt_eval_steps.proofs.scene.Scene.answer.Goals as goal

pub returns-in-None-clause-answer : goal.returns-in-None-clause-answer
returns-in-None-clause-answer c = λ go to.
    let answers = c.args.self.now.answers.now in
    let st = c.args.run.now.state in
    let none : slice_get answers st.used ≡ None = slice_get_past answers st.used c.in-None.ensures.lookup.3 in
    makes_trans (makes_at c.args.run.now.notes (ap (λ given. answered given st go) none)) (makes_halt c.args.run.now.notes c.finish.new.self c.finish.ensures.value to)
