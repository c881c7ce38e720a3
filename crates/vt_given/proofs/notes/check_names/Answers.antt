use Rattle.std.proofs.Common.{sym}
use Rattle.std.proofs.lemmas.Result.{err_from_is_err_and}
use Rattle.vt_ring.proofs.SeriesLemmas.{item_good, item_fault}
use Rattle.vt_given.specs.Notes.{note_or_fault}
use Rattle.vt_given.proofs.notes.check_names.Goals as goal

pub returns-in_err-note_or_fault : goal.returns-in_err-note_or_fault
returns-in_err-note_or_fault c =
    let p = err_from_is_err_and c.from_residual.result c.from_residual.ensures.1 in
    rw (p.1, p.2) (item_fault note_or_fault c.args.values.now c.loop-value.value-index c.value-item.result c.in_err-note_or_fault.field-0.0 c.loop-value-test.true c.value-item.is c.loop-value.invariant (sym c.in_err-note_or_fault.ensures))

pub loop-value-preserved : goal.loop-value-preserved
loop-value-preserved c = item_good note_or_fault c.args.values.now c.loop-value.value-index c.value-item.result c.in_ok-note_or_fault.field-0 c.loop-value-test.true c.value-item.is c.loop-value.invariant (sym c.in_ok-note_or_fault.ensures)
