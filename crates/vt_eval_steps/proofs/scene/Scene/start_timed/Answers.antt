use Rattle.std.proofs.Common.{ap, sym, ◌∙◌}
use Rattle.std.specs.Prelude.{length, nat_lt}
use Rattle.vt_eval_steps.specs.Scenes.{env_at}
use Rattle.vt_eval_steps.proofs.Parts.{timed_on}
use Rattle.vt_eval_steps.proofs.Starts.{timed_starts}
use Rattle.vt_eval_steps.proofs.Ways.{comes_from, makes_at, makes_trans}
use Rattle.vt_eval_steps.proofs.scene.Scene.start_timed.Goals as goal

pub returns-then-may_start : goal.returns-then-may_start
returns-then-may_start c = λ body number.
    let env = env_at c.args.self.now in
    let st = c.args.run.now.state in
    let few = ap (λ t. nat_lt (length t) 32) (sym c.thread.ensures) ∙ sym c.may_start.ensures ∙ c.if-may_start.true in
    comes_from c.spawn_all_timed.new.run c.spawn_all_timed.result
    (makes_trans (makes_at c.args.run.now.notes (timed_starts c.args.timings c.next.new.self c.in-Some.timing.0 c.in-Some.timing.1.now body env c.args.at st c.in-Some.ensures few))
    (timed_on c.in-Some.timing.0 c.in-Some.timing.1.now c.args.timings c.next.new.self body env c.args.at st c.spawn_timed.new.run.state c.args.run.now.notes c.spawn_timed.new.run.notes c.in-Some.ensures (λ go. c.in_ok-spawn_timed-in-Some.ensures body go number)))
    (c.spawn_all_timed.ensures body number)
