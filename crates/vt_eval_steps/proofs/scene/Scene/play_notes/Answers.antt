use Rattle.std.proofs.Common.{◌≡◌, [], map, ap, ◌∙◌}
use Rattle.std.proofs.lemmas.List.{nil_from_length}
use Rattle.vt_run.specs.Actions.{emits_all, place_of}
use Rattle.vt_run.specs.calls.PlayCalls.{plays_note}
use Rattle.vt_run.specs.declared.state.State.{State}
use Rattle.vt_eval_steps.specs.Scenes.{env_at}
use Rattle.vt_eval_steps.proofs.Acts.{event_at}
use Rattle.vt_eval_steps.proofs.Ways.{makes_at, makes_trans}
use Rattle.vt_eval_steps.proofs.scene.Scene.play_notes.Goals as goal

pub loop-note-preserved : goal.loop-note-preserved
loop-note-preserved c =
    let env = env_at c.args.self.now in
    let st = c.loop-note.run.state in
    let options = c.args.options.now in
    let first = c.args.run.now.state.settings in
    let note = c.in-Some.note.now in
    let told = event_at (plays_note options st.settings note) c.thread.result.now env st _ c.in_ok-event.ensures c.thread.ensures ∙ ap (λ settings. plays_note options settings note (place_of env st)) c.loop-note.invariant.settings in
    record {
      settings = ap (λ (s : State). s.settings) c.in_ok-emit.ensures.state ∙ c.loop-note.invariant.settings;
      way = λ go. makes_trans (c.loop-note.invariant.way go)
          (makes_trans (makes_at c.loop-note.run.notes (ap (λ left. emits_all (map (plays_note options first) left) env st go) c.in-Some.ensures.cases.0))
          (c.in_ok-emit.ensures.makes (plays_note options first note) told (λ st. emits_all (map (plays_note options first) c.in-Some.rest.now) env st go)));
    }

pub returns : goal.returns
returns c = λ go.
    let none : c.loop-note.left.now ≡ [] = nil_from_length c.loop-note.left.now c.in_default.ensures.cases in
    makes_trans (c.loop-note.invariant.way go)
    (makes_at c.loop-note.run.notes (ap (λ left. emits_all (map (plays_note c.args.options.now c.args.run.now.state.settings) left) (env_at c.args.self.now) c.loop-note.run.state go) none))
