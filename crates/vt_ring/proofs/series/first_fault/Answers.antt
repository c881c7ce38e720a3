use Rattle.std.proofs.Common.{sym}
use Rattle.std.proofs.lemmas.Result.{err_from_is_err_and}
use Rattle.vt_ring.specs.private.Series.{series_number}
use Rattle.vt_ring.proofs.SeriesLemmas.{index_good, index_fault}
use Rattle.vt_ring.proofs.series.first_fault.Goals as goal

pub returns-in_err-number : goal.returns-in_err-number
returns-in_err-number c =
    let p = err_from_is_err_and c.from_residual.result c.from_residual.ensures.1 in
    rw (p.1, p.2) (index_fault (series_number c.args.series.now) c.loop-i.i c.args.count c.in_err-number.field-0.0 c.loop-i-test.true c.loop-i.invariant (sym c.in_err-number.ensures))

pub loop-i-preserved : goal.loop-i-preserved
loop-i-preserved c = index_good (series_number c.args.series.now) c.loop-i.i c.in_ok-number.field-0 c.loop-i.invariant (sym c.in_ok-number.ensures)
