use Rattle.std.proofs.Common.{sym}
use Rattle.std.proofs.lemmas.Result.{err_from_is_err_and}
use Rattle.vt_ring.proofs.SeriesLemmas.{item_good, item_fault}
use Rattle.vt_run.specs.calls.PlayCalls.{note_to_play}
use Rattle.vt_given.proofs.notes.check_kinds.Goals as goal

pub returns-in_err-note_to_play : goal.returns-in_err-note_to_play
returns-in_err-note_to_play c =
    let p = err_from_is_err_and c.from_residual.result c.from_residual.ensures.1 in
    rw (p.1, p.2) (item_fault note_to_play c.args.values.now c.loop-value.value-index c.value-item.result c.in_err-note_to_play.field-0.0 c.loop-value-test.true c.value-item.is c.loop-value.invariant (sym c.in_err-note_to_play.ensures))

pub loop-value-preserved : goal.loop-value-preserved
loop-value-preserved c = item_good note_to_play c.args.values.now c.loop-value.value-index c.value-item.result c.in_ok-note_to_play.field-0 c.loop-value-test.true c.value-item.is c.loop-value.invariant (sym c.in_ok-note_to_play.ensures)
