use Rattle.std.proofs.Common.{[], sym, ap, ◌∙◌}
use Rattle.std.proofs.lemmas.Result.{err_from_is_err_and}
use Rattle.std.specs.Result.{result_err}
use Rattle.vt_ring.specs.Building.{in_pairs, runs_of}
use Rattle.vt_ring.proofs.KnitLemmas.{fault_of, fault_more, fault_met, fault_end, fault_none, fault_some}
use Rattle.vt_value.specs.declared.fault.FaultKind.TheVariants.{BadValue}
use Rattle.vt_ring.proofs.knitting.first_fault.Goals as goal

pub returns-in_err-n : goal.returns-in_err-n
returns-in_err-n c =
    let p = err_from_is_err_and c.from_residual.result c.from_residual.ensures.1 in
    let runs = runs_of (in_pairs c.args.args.now) in
    rw (p.1, p.2) (fault_some runs c.in_err-n.field-0.0 (fault_met c.loop-left.left.now c._value-item.result c.count-item.result c.loop-left.is_bad c.in_err-n.field-0.0 (result_err runs) c.in-len2-up.len_at_least c._value-item.is c.count-item.is (sym c.in_err-n.ensures) c.loop-left.invariant))

pub loop-left-preserved : goal.loop-left-preserved
loop-left-preserved c = fault_more c.loop-left.left.now c._value-item.result c.count-item.result c.in_ok-n.n c.loop-left.is_bad c.is_below_zero-is_bad.result (result_err (runs_of (in_pairs c.args.args.now))) c.in-len2-up.len_at_least c._value-item.is c.count-item.is (sym c.in_ok-n.ensures) c.is_below_zero-is_bad.ensures c.loop-left.invariant

pub returns-then-is_bad : goal.returns-then-is_bad
returns-then-is_bad c =
    let runs = runs_of (in_pairs c.args.args.now) in
    fault_some runs BadValue (ap (λ b. fault_of b []) (sym c.if-is_bad.true) ∙ fault_end c.loop-left.left.now c.loop-left.is_bad (result_err runs) c.in_default.len_below c.loop-left.invariant)

pub returns-else-is_bad : goal.returns-else-is_bad
returns-else-is_bad c =
    let runs = runs_of (in_pairs c.args.args.now) in
    fault_none runs (ap (λ b. fault_of b []) (sym c.if-is_bad.false) ∙ fault_end c.loop-left.left.now c.loop-left.is_bad (result_err runs) c.in_default.len_below c.loop-left.invariant)
