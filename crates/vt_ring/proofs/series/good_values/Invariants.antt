use Rattle.std.proofs.Common.{◌≡◌, Ok}
use Rattle.vt_ring.specs.private.Series.{series_values}
use Rattle.vt_ring.proofs.series.good_values.Given as goal

abbrev pub invariant-loop-i : goal.invariant-loop-i
invariant-loop-i l = series_values l.series l.i l.wholes ≡ Ok l.items
