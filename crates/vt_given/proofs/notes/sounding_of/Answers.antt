use Rattle.std.proofs.Common.{Ok, sym, ap, ◌∙◌}
use Rattle.std.proofs.lemmas.Result.{err_from_is_err_and}
use Rattle.vt_ring.specs.Answers.{and_then}
use Rattle.vt_ring.proofs.SeriesLemmas.{item_fault}
use Rattle.vt_given.specs.Notes.{sounding}
use Rattle.vt_given.specs.Notes.{note_or_fault}
use Rattle.vt_given.proofs.SoundingLemmas.{sounding_good, sounding_more}
use Rattle.vt_given.proofs.notes.sounding_of.Goals as goal

pub returns-in_err-note : goal.returns-in_err-note
returns-in_err-note c =
    let p = err_from_is_err_and c.from_residual.result c.from_residual.ensures.1 in
    let values = c.args.values.now in
    rw (p.1, p.2) (ap (λ answer. and_then answer (λ notes. Ok (sounding notes)))
    (item_fault note_or_fault values c.loop-value.value-index c.value-item.result c.in_err-note.field-0.0 c.loop-value-test.true c.value-item.is (sounding_good _ c.loop-value.notes c.loop-value.invariant) (sym c.in_err-note.ensures)))

pub loop-value-preserved : goal.loop-value-preserved
loop-value-preserved c =
    sounding_more c.args.values.now c.loop-value.value-index c.value-item.result c.loop-value.notes c.in_ok-note.note c.loop-value-test.true c.value-item.is c.loop-value.invariant (sym c.in_ok-note.ensures)
    ∙ ap (λ notes. Ok notes) (sym c.in_ok-push.ensures)
