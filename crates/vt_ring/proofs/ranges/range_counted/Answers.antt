use Rattle.std.proofs.Common.{ap, ◌∙◌, sym, arith}
use Rattle.vt_ring.specs.Building.{range_counted}
use Rattle.vt_ring.specs.private.Series.{range_series, series_values}
use Rattle.vt_ring.proofs.AnswerLemmas.{gives_same}
use Rattle.vt_ring.proofs.SeriesLemmas.{range_values}
use Rattle.vt_ring.proofs.ranges.range_counted.Goals as goal

pub returns : goal.returns
returns c =
    let a = c.args in
    gives_same (range_counted a.start a.way a.step a.whole a.count) (series_values c.series-series.result a.count a.whole) c.values.result
    (range_values a.start a.way a.step a.whole a.count (omega (arith, c.if-count.false)) ∙ ap (λ series. series_values series a.count a.whole) (sym (c.series-series.ensures.value ∙ ap (range_series a.start a.step) c.is_negative.ensures)))
    c.values.ensures
