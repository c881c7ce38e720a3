use Rattle.std.proofs.Common.{◌≡◌, ◌≤◌, ◌<◌, ◌+◌, ◌-◌, ◌^◌, Some, sym, ap, ◌∙◌, subst, arith, true≢false}
use Rattle.vt_run.specs.Actions.{acted}
use Rattle.vt_run.specs.Evaluation.{Ran, does}
use Rattle.vt_run.specs.Standing.{action_place}
use Rattle.vt_run.specs.declared.state.State.{State}
use Rattle.vt_eval_steps.specs.Making.{Makes}
use Rattle.vt_eval_steps.specs.Numbers.{Step}
use Rattle.vt_eval_steps.proofs.Acts.{not_small}
use Rattle.vt_eval_steps.proofs.Ways.{makes_capped, makes_exceeds, makes_over}
use Rattle.vt_eval_steps.proofs.acting.act.Goals as goal

pub returns-then-is_over-clause-makes : goal.returns-then-is_over-clause-makes
returns-then-is_over-clause-makes c = λ exact cap go. makes_over c.args.run.now.notes (c.is_over.ensures.0 c.if-is_over.true) (does exact c.args.action (go (acted c.args.run.now.state))) (go c.args.run.now.state)

pub returns-in_ok-step-in-Some-clause-makes : goal.returns-in_ok-step-in-Some-clause-makes
returns-in_ok-step-in-Some-clause-makes c = λ exact cap go.
    let st = c.args.run.now.state in
    let way = makes_capped c.args.cost exact (Some c.args.action) c.args.run.now.notes c.step.new.self c.in_ok-step-in-Some.ensures.value cap c.requires.fits (go (acted st)) in
    let next = c.in-Some.ensures in
    subst (λ n. Makes (does exact c.args.action (go (acted st))) c.args.run.now.notes (go (record st { step = n })) c.step.new.self) (sym next.1) way

pub returns-in-None-clause-makes : goal.returns-in-None-clause-makes
returns-in-None-clause-makes c = λ exact cap go.
    let great : 2 ^ 32 ≤ c.args.run.now.state.step + 1 = not_small c.args.run.now.state.step c.in-None.ensures in
    makes_exceeds exact c.args.action _ c.args.run.now.notes _ _ (λ is_over. true≢false (sym (c.is_over.ensures.1 is_over) ∙ c.if-is_over.false))
    (subst (λ n. n ≤ 4096) c.count.ensures.value c.count.ensures.few)
    (Step (omega (arith, c.requires.placed, great)))
