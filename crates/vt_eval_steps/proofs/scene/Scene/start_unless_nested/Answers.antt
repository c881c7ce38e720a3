use Rattle.std.proofs.Common.{◌≡◌, true, false, cond, length, ap, sym, ◌∙◌}
use Rattle.std.specs.Prelude.{nat_lt}
use Rattle.vt_run.specs.Actions.{fails}
use Rattle.vt_run.specs.Costs.{spawn_cost}
use Rattle.vt_run.specs.Evaluation.{gives}
use Rattle.vt_run.specs.Notes.{capped}
use Rattle.vt_run.specs.calls.ThreadCalls.{spawns}
use Rattle.vt_run.specs.declared.state.State.{State}
use Rattle.vt_value.specs.declared.fault.FaultKind.TheVariants.{TooNested}
use Rattle.vt_value.specs.declared.value.Value.TheVariants.{Nil}
use Rattle.vt_eval_steps.specs.Scenes.{env_at}
use Rattle.vt_eval_steps.specs.private.Beginning.{tells_start}
use Rattle.vt_eval_steps.proofs.Parts.{below_of}
use Rattle.vt_eval_steps.proofs.Ways.{comes_from, makes_at, makes_trans}
use Rattle.vt_eval_steps.proofs.scene.Scene.start_unless_nested.Goals as goal

pub spawn-requires-clause-nested : goal.spawn-requires-clause-nested
spawn-requires-clause-nested c =
    below_of (length c.args.self.now.start.now.place.thread) 32 (ap (λ t. nat_lt (length t) 32) (sym c.thread.ensures) ∙ sym c.may_start.ensures ∙ c.if-may_start.true)

pub returns-then-may_start : goal.returns-then-may_start
returns-then-may_start c = λ handed body cap number.
    let env = env_at c.args.self.now in
    let st = c.args.run.now.state in
    let few = ap (λ t. nat_lt (length t) 32) (sym c.thread.ensures) ∙ sym c.may_start.ensures ∙ c.if-may_start.true in
    makes_trans (makes_at c.args.run.now.notes (ap (λ few. cond few (tells_start c.args.path env st (λ st. spawns c.args.role handed body env st (gives Nil))) (fails TooNested env c.args.at st)) few))
    (makes_trans (c.in_ok-tell_start.ensures.makes (λ st. spawns c.args.role handed body env st (gives Nil)))
    (c.in_ok-spawn.ensures handed body (gives Nil) (ap (λ (s : State). capped (spawn_cost s.locals handed)) c.in_ok-tell_start.ensures.state ∙ cap) number))

pub returns : goal.returns
returns c = λ handed body cap number.
    let env = env_at c.args.self.now in
    let st = c.args.run.now.state in
    let few = ap (λ t. nat_lt (length t) 32) (sym c.thread.ensures) ∙ sym c.may_start.ensures ∙ c.if-may_start.false in
    comes_from c.fail.new.run c.fail.result
    (makes_at c.args.run.now.notes (ap (λ few. cond few (tells_start c.args.path env st (λ st. spawns c.args.role handed body env st (gives Nil))) (fails TooNested env c.args.at st)) few))
    c.fail.ensures
