use Rattle.std.proofs.Common.{◌≡◌, List, [], ◌∷◌, Option, subst}
use Rattle.std.specs.Prelude.{MatchOption}
use Rattle.vt_frac.specs.Fraction.{Fraction}
use Rattle.vt_value.specs.declared.value.Value.{Value}
use Rattle.vt_eval_steps.specs.Scenes.{env_at}
use Rattle.vt_eval_steps.proofs.Played.{left_next, left_none, none_of}
use Rattle.vt_eval_steps.proofs.scene.Scene.play_items.Goals as goal

pub loop-notes-preserved : goal.loop-notes-preserved
loop-notes-preserved c = λ all same.
    let is = subst (λ (found : Option (List Value × Fraction)). MatchOption found (c.loop-notes.left ≡ []) (λ next. c.loop-notes.left ≡ next ∷ c.next.new.self)) c.in-Some.is c.in_ok-notes.ensures.ok in
    left_next all c.args.options.now (env_at c.args.self.now) c.args.at c.args.run.now.state c.args.run.now.notes c.loop-notes.left c.next.new.self _ _ c.loop-notes.run.state c.loop-notes.run.notes c.in_ok-play_item.field-0 c.play_item.new.run is c.in_ok-play_item.ensures (c.loop-notes.invariant all same)

pub returns : goal.returns
returns c = λ all same.
    left_none all c.args.options.now (env_at c.args.self.now) c.args.at c.args.run.now.state c.args.run.now.notes c.loop-notes.left c.loop-notes.run.state c.loop-notes.run.notes
    (none_of c.in_ok-notes.field-0 c.loop-notes.left c.next.new.self c.in_ok-notes.ensures.ok c.in_default.not-Some) (c.loop-notes.invariant all same)
