use Rattle.std.proofs.Common.{ap, sym, subst, ◌∙◌}
use Rattle.std.specs.Option.{option_copied}
use Rattle.vt_run.specs.Actions.{reads}
use Rattle.vt_run.specs.Costs.{spawn_cost}
use Rattle.vt_run.specs.Notes.{capped}
use Rattle.vt_run.specs.declared.state.State.{State}
use Rattle.vt_eval_steps.specs.Making.{ComesOn}
use Rattle.vt_eval_steps.specs.Scenes.{env_at}
use Rattle.vt_eval_steps.proofs.Starts.{starts_again, starts_unnamed}
use Rattle.vt_eval_steps.proofs.scene.Scene.start.Goals as goal

pub returns-in-None : goal.returns-in-None
returns-in-None c = λ handed body cap number.
    starts_unnamed c.args.role handed body (env_at c.args.self.now) c.args.at c.args.run.now.state c.args.run.now.notes c.start_unless_nested.result c.start_unless_nested.new.run (sym c.in_ok-name_path.ensures ∙ c.in-None.is)
    (c.start_unless_nested.ensures handed body cap number)

pub returns-else-is_alive : goal.returns-else-is_alive
returns-else-is_alive c = λ handed body cap number.
    let env = env_at c.args.self.now in
    let st = c.args.run.now.state in
    let way = subst (λ found. ComesOn (option_copied found) (reads c.in_ok-pattern-in-Some.pattern env st) c.args.run.now.notes c.read.new.run.state c.read.new.run.notes) c.in-Some-2.is c.in_ok-read-in-Some.ensures.answer in
    starts_again c.args.role c.in-Some.path c.in_ok-pattern-in-Some.pattern handed body env c.args.at st c.read.new.run.state c.in-Some-2.answer.now c.args.run.now.notes c.read.new.run.notes c.start_unless_nested-in-Some-2.result c.start_unless_nested-in-Some-2.new.run
    (sym c.in_ok-name_path.ensures ∙ c.in-Some.is) c.in_ok-pattern-in-Some.ensures.value way (sym c.is_alive.ensures ∙ c.if-is_alive.false)
    (c.start_unless_nested-in-Some-2.ensures handed body (ap (λ (s : State). capped (spawn_cost s.locals handed)) c.in_ok-read-in-Some.ensures.state ∙ cap) number)
