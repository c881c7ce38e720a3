use Rattle.std.proofs.Common.{◌≡◌, ap, ◌∙◌}
use Rattle.vt_event.specs.Event.{EventView}
use Rattle.vt_run.specs.Actions.{wakes_by}
use Rattle.vt_run.specs.declared.action.Answer.{Answer}
use Rattle.vt_run.specs.declared.state.State.{State}
use Rattle.vt_eval_steps.specs.Scenes.{env_at}
use Rattle.vt_eval_steps.proofs.Acts.{place_at, waits_by}
use Rattle.vt_eval_steps.proofs.Ways.{makes_at, makes_halt, makes_trans}
use Rattle.vt_eval_steps.proofs.scene.Scene.wait.Goals as goal

pub returns-in-None : goal.returns-in-None
returns-in-None c = λ go to.
    let env = env_at c.args.self.now in
    let st = c.args.run.now.state in
    let here = place_at c.thread.result.now env st _ c.in_ok-place.ensures c.thread.ensures in
    let asked = waits_by c.args.pattern c.in_ok-stop.stop env st c.act.new.run.state c.in_ok-place.place c.args.run.now.notes c.act.new.run.notes here c.in_ok-stop.ensures (c.in_ok-act.ensures.makes 1 cc) in
    let next = λ (answer : Answer) (st : State). wakes_by answer st go in
    makes_trans (asked next) (c.in-None.ensures.answer next to)

pub returns-in-Some-Nothing : goal.returns-in-Some-Nothing
returns-in-Some-Nothing c = λ go to.
    let env = env_at c.args.self.now in
    let st = c.args.run.now.state in
    let here = place_at c.thread.result.now env st _ c.in_ok-place.ensures c.thread.ensures in
    let asked = waits_by c.args.pattern c.in_ok-stop.stop env st c.act.new.run.state c.in_ok-place.place c.args.run.now.notes c.act.new.run.notes here c.in_ok-stop.ensures (c.in_ok-act.ensures.makes 1 cc) in
    let next = λ (answer : Answer) (st : State). wakes_by answer st go in
    makes_trans (asked next)
    (makes_trans (c.in-Some-Nothing.ensures.answer next)
    (makes_trans (makes_at c.answer.new.run.notes (ap (λ answer. wakes_by answer c.answer.new.run.state go) c.in-Some-Nothing.field-0-is))
    (makes_halt c.answer.new.run.notes c.finish.new.self c.finish.ensures.value to)))

pub returns-in-Some-Found : goal.returns-in-Some-Found
returns-in-Some-Found c = λ go.
    let env = env_at c.args.self.now in
    let st = c.args.run.now.state in
    let here = place_at c.thread.result.now env st _ c.in_ok-place.ensures c.thread.ensures in
    let asked = waits_by c.args.pattern c.in_ok-stop.stop env st c.act.new.run.state c.in_ok-place.place c.args.run.now.notes c.act.new.run.notes here c.in_ok-stop.ensures (c.in_ok-act.ensures.makes 1 cc) in
    let next = λ (answer : Answer) (st : State). wakes_by answer st go in
    makes_trans (asked next)
    (makes_trans (c.in-Some-Found.ensures.answer next)
    (makes_at c.answer.new.run.notes (ap (λ answer. wakes_by answer c.answer.new.run.state go) c.in-Some-Found.field-0-is)))
