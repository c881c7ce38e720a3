use Rattle.std.proofs.Common.{◌≡◌, List, map, ap, sym, ◌∙◌, subst}
use Rattle.vt_run.specs.Actions.{emits_all, or_fails, rests}
use Rattle.vt_run.specs.Evaluation.{Ran}
use Rattle.vt_run.specs.calls.PlayCalls.{plays_note}
use Rattle.vt_run.specs.declared.state.State.{State}
use Rattle.vt_value.specs.declared.value.Value.{Value}
use Rattle.vt_eval_steps.specs.Making.{Makes}
use Rattle.vt_eval_steps.specs.Scenes.{env_at}
use Rattle.vt_eval_steps.proofs.Played.{item_on}
use Rattle.vt_eval_steps.proofs.Ways.{comes_from, makes_at, makes_trans}
use Rattle.vt_eval_steps.proofs.scene.Scene.play_item.Goals as goal

pub returns-in-Ok : goal.returns-in-Ok
returns-in-Ok c = λ item same.
    let env = env_at c.args.self.now in
    let end = c.play_notes.new.run.state in
    let played = subst (λ (notes : List Value). (go : State → Ran) → Makes (emits_all (map (plays_note c.args.options.now c.tick.new.self.state.settings) notes) env c.tick.new.self.state go) c.tick.new.self.notes (go end) c.play_notes.new.run.notes) c.as_slice.ensures c.in_ok-play_notes.ensures in
    comes_from c.rest.new.run c.rest.result
    (makes_trans (item_on c.args.notes.now c.args.beats c.args.options.now env c.args.at c.args.run.now.state c.tick.new.self.state end c.args.run.now.notes c.tick.new.self.notes c.play_notes.new.run.notes c.in_ok-tick.ensures.state c.in_ok-tick.ensures.makes played item same)
    (makes_at c.play_notes.new.run.notes (ap (λ r. or_fails r env c.args.at end (λ seconds. rests seconds env end)) (sym c.rest_of.ensures ∙ c.in-Ok.is))))
    c.rest.ensures

pub returns-in-Err : goal.returns-in-Err
returns-in-Err c = λ item same.
    let env = env_at c.args.self.now in
    let end = c.play_notes.new.run.state in
    let played = subst (λ (notes : List Value). (go : State → Ran) → Makes (emits_all (map (plays_note c.args.options.now c.tick.new.self.state.settings) notes) env c.tick.new.self.state go) c.tick.new.self.notes (go end) c.play_notes.new.run.notes) c.as_slice.ensures c.in_ok-play_notes.ensures in
    comes_from c.fail.new.run c.fail.result
    (makes_trans (item_on c.args.notes.now c.args.beats c.args.options.now env c.args.at c.args.run.now.state c.tick.new.self.state end c.args.run.now.notes c.tick.new.self.notes c.play_notes.new.run.notes c.in_ok-tick.ensures.state c.in_ok-tick.ensures.makes played item same)
    (makes_at c.play_notes.new.run.notes (ap (λ r. or_fails r env c.args.at end (λ seconds. rests seconds env end)) (sym c.rest_of.ensures ∙ c.in-Err.is))))
    c.fail.ensures
