use Rattle.std.proofs.Common.{◌≡◌, ◌∙◌, sym, rules, arith}
use Rattle.vt_prim.proofs.ClimbLemmas.{round_ok, round_err}
use Rattle.vt_prim.specs.private.Adding.{answer_of, value_of}
use Rattle.vt_prim.proofs.climbing.climbed_times.Goals as goal

pub returns-in_err-top : goal.returns-in_err-top
returns-in_err-top c =
    let e = round_err (value_of c.loop-left.top) c.in_err-top.field-0.0 c.loop-left.left c.args.steps.now (omega arith) c.in_err-top.ensures ∙ c.loop-left.invariant in
    rw (← e) (search rules)

pub loop-left-preserved : goal.loop-left-preserved
loop-left-preserved c =
    round_ok (value_of c.loop-left.top) (value_of c.in_ok-top.top) c.loop-left.left c.args.steps.now (omega arith) c.in_ok-top.ensures ∙ c.loop-left.invariant
