use Rattle.std.proofs.Common.{IsOk}
use Rattle.vt_ring.specs.private.Series.{series_numbers}
use Rattle.vt_ring.proofs.series.first_fault.Given as goal

abbrev pub invariant-loop-i : goal.invariant-loop-i
invariant-loop-i l = IsOk (series_numbers l.series l.i)
