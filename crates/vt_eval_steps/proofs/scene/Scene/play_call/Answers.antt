use Rattle.std.proofs.Common.{◌≡◌, List, map, ap, sym, ◌∙◌, subst}
use Rattle.vt_run.specs.Actions.{emits_all}
use Rattle.vt_run.specs.Evaluation.{gives}
use Rattle.vt_run.specs.calls.PlayCalls.{play_call, plays_note}
use Rattle.vt_value.specs.declared.value.Value.{Value}
use Rattle.vt_value.specs.declared.value.Value.TheVariants.{Nil}
use Rattle.vt_eval_steps.specs.Making.{Makes}
use Rattle.vt_eval_steps.specs.Scenes.{env_at}
use Rattle.vt_eval_steps.proofs.Played.{done_by, plays_fault}
use Rattle.vt_eval_steps.proofs.scene.Scene.play_call.Goals as goal

pub returns-in_ok-play_notes-in-Ok : goal.returns-in_ok-play_notes-in-Ok
returns-in_ok-play_notes-in-Ok c =
    let env = env_at c.args.self.now in
    let st = c.args.run.now.state in
    done_by (play_call c.args.given.now st) (record { events = map (plays_note c.args.given.now.options st.settings) c.in-Ok.notes; value = Nil; state = st }) env c.args.at st c.args.run.now.notes c.play_notes.new.run.notes _ (c.in-Ok.ensures st)
    (subst (λ (notes : List Value). Makes (emits_all (map (plays_note c.args.given.now.options st.settings) notes) env st (gives Nil)) c.args.run.now.notes (gives Nil c.play_notes.new.run.state) c.play_notes.new.run.notes) c.as_slice.ensures
    (subst (λ options. Makes (emits_all (map (plays_note options st.settings) c.as_slice.result.now) env st (gives Nil)) c.args.run.now.notes (gives Nil c.play_notes.new.run.state) c.play_notes.new.run.notes) c.options.ensures
    (c.in_ok-play_notes-in-Ok.ensures (gives Nil))))

pub returns-in-Err : goal.returns-in-Err
returns-in-Err c =
    plays_fault (play_call c.args.given.now c.args.run.now.state) c.args.given.now.options c.in-Err.fault (env_at c.args.self.now) c.args.at c.args.run.now.state c.args.run.now.notes c.fail_by.result c.fail_by.new.run
    (c.in-Err.ensures c.args.run.now.state) c.fail_by.ensures.fault c.fail_by.ensures.memory
