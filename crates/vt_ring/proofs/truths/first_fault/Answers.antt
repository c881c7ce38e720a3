use Rattle.std.proofs.Common.{sym}
use Rattle.std.proofs.lemmas.Result.{err_from_is_err_and}
use Rattle.vt_ring.specs.Arguments.{whole_argument}
use Rattle.vt_ring.proofs.SeriesLemmas.{item_good, item_fault}
use Rattle.vt_ring.proofs.truths.first_fault.Goals as goal

pub returns-in_err-whole_argument : goal.returns-in_err-whole_argument
returns-in_err-whole_argument c =
    let p = err_from_is_err_and c.from_residual.result c.from_residual.ensures.1 in
    rw (p.1, p.2) (item_fault whole_argument c.args.args.now c.loop-arg.arg-index c.arg-item.result c.in_err-whole_argument.field-0.0 c.loop-arg-test.true c.arg-item.is c.loop-arg.invariant (sym c.in_err-whole_argument.ensures))

pub loop-arg-preserved : goal.loop-arg-preserved
loop-arg-preserved c = item_good whole_argument c.args.args.now c.loop-arg.arg-index c.arg-item.result c.in_ok-whole_argument.field-0 c.loop-arg-test.true c.arg-item.is c.loop-arg.invariant (sym c.in_ok-whole_argument.ensures)
