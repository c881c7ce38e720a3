use Rattle.std.proofs.Common.{◌≡◌}
use Rattle.vt_frac.specs.Divisor.{gcd}
use Rattle.vt_frac.proofs.frac.lowest.common_divisor.Given as goal

abbrev pub invariant-loop-less : goal.invariant-loop-less
invariant-loop-less l = gcd l.greater l.less ≡ gcd l.fn.a l.fn.b

abbrev pub decreases-loop-less : goal.decreases-loop-less
decreases-loop-less l = l.less
