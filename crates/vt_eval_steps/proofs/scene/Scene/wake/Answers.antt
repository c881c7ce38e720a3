use Rattle.std.proofs.Common.{◌≡◌, ◌≤◌, ◌+◌, ◌^◌, ℕ, List, Some, None, ap, sym, subst, ◌∙◌, true≢false}
use Rattle.std.specs.Option.{option_copied}
use Rattle.vt_event.specs.declared.place.Place.{Place}
use Rattle.vt_event.specs.Event.{EventView}
use Rattle.vt_run.specs.Actions.{takes, wakes_with, woken}
use Rattle.vt_run.specs.declared.state.State.{State}
use Rattle.vt_eval_steps.specs.Scenes.{env_at}
use Rattle.vt_eval_steps.proofs.Acts.{not_small, takes_exceeds, woken_is}
use Rattle.vt_eval_steps.proofs.Ways.{comes_from, makes_at, makes_halt, makes_over, makes_trans}
use Rattle.vt_eval_steps.proofs.scene.Scene.wake.Goals as goal

pub returns-then-is_over : goal.returns-then-is_over
returns-then-is_over c = makes_over c.args.run.now.notes (c.is_over.ensures.0 c.if-is_over.true) _ _

pub returns-in-None : goal.returns-in-None
returns-in-None c =
    let next = λ (path : List (List ℕ)) (event : EventView) (st : State). takes path event (env_at c.args.self.now) st in
    let none = sym c.path.ensures.value ∙ ap option_copied c.in-None.is in
    makes_trans (makes_at c.args.run.now.notes (ap (λ path. wakes_with path c.args.event.now c.args.run.now.state next) none)) (makes_halt c.args.run.now.notes c.finish.new.self c.finish.ensures.value _)

pub returns-in-Some-checked_add : goal.returns-in-Some-checked_add
returns-in-Some-checked_add c =
    let env = env_at c.args.self.now in
    let st = c.args.run.now.state in
    let event = c.args.event.now in
    let next = λ (path : List (List ℕ)) (event : EventView) (st : State). takes path event env st in
    let some = sym c.path.ensures.value ∙ ap option_copied c.in-Some.is in
    comes_from c.take.new.run c.take.result
    (makes_trans (makes_at c.args.run.now.notes (ap (λ path. wakes_with path event st next) some))
    (makes_at c.args.run.now.notes (ap (λ st. takes c.in-Some.path.now event env st) (sym (woken_is st c.place-place.result.now event.place c.in-Some-checked_add.micro c.place-place.ensures c.in-Some-checked_add.ensures.1)))))
    (c.take.ensures event (sym c.value.ensures))

pub returns-in-None-checked_add : goal.returns-in-None-checked_add
returns-in-None-checked_add c =
    let env = env_at c.args.self.now in
    let st = c.args.run.now.state in
    let event = c.args.event.now in
    let next = λ (path : List (List ℕ)) (event : EventView) (st : State). takes path event env st in
    let some = sym c.path.ensures.value ∙ ap option_copied c.in-Some.is in
    makes_trans (makes_at c.args.run.now.notes (ap (λ path. wakes_with path event st next) some))
    (takes_exceeds c.in-Some.path.now event env (woken event.place st) c.args.run.now.notes _ _
    (λ is_over. true≢false (sym (c.is_over.ensures.1 is_over) ∙ c.if-is_over.false))
    (subst (λ n. n ≤ 4096) c.count.ensures.value c.count.ensures.few)
    (subst (λ (p : Place). 2 ^ 32 ≤ p.micro + 1) c.place-place.ensures (not_small c.place-place.result.now.micro c.in-None-checked_add.ensures)))
