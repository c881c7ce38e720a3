use Rattle.std.proofs.Common.{◌++◌, ◌∷◌, [], map, Ok, sym, ap, ◌∙◌}
use Rattle.std.proofs.lemmas.Result.{err_from_is_err_and}
use Rattle.vt_ring.specs.Answers.{and_then}
use Rattle.vt_ring.specs.Building.{number_value}
use Rattle.vt_ring.specs.private.Series.{series_number, series_numbers}
use Rattle.vt_ring.proofs.AnswerLemmas.{mapped_good}
use Rattle.vt_ring.proofs.SeriesLemmas.{index_mapped, index_fault}
use Rattle.vt_ring.proofs.series.good_values.Goals as goal

pub returns-in_err-number : goal.returns-in_err-number
returns-in_err-number c =
    let p = err_from_is_err_and c.from_residual.result c.from_residual.ensures.1 in
    let series = c.args.series.now in
    rw (p.1, p.2) (ap (λ answer. and_then answer (λ numbers. Ok (map (number_value c.args.wholes) numbers)))
    (index_fault (series_number series) c.loop-i.i c.args.count c.in_err-number.field-0.0 c.loop-i-test.true (mapped_good (number_value c.args.wholes) (series_numbers series c.loop-i.i) c.loop-i.items c.loop-i.invariant) (sym c.in_err-number.ensures)))

pub loop-i-preserved : goal.loop-i-preserved
loop-i-preserved c =
    index_mapped (number_value c.args.wholes) (series_number c.args.series.now) c.loop-i.i c.loop-i.items c.in_ok-number.number c.loop-i.invariant (sym c.in_ok-number.ensures)
    ∙ ap (λ items. Ok items) (ap (λ value. c.loop-i.items ++ value ∷ []) (sym c.number_value.ensures) ∙ sym c.in_ok-push.ensures.ok)
