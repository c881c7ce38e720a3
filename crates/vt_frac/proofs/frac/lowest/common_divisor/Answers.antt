use Rattle.std.proofs.Common.{◌<◌, ◌∙◌, sym, ap, arith}
use Rattle.vt_frac.specs.Divisor.{gcd}
use Rattle.vt_frac.proofs.GcdLemmas.{gcd-zero, gcd-step}
use Rattle.vt_frac.proofs.frac.lowest.common_divisor.Goals as goal

pub loop-less-preserved : goal.loop-less-preserved
loop-less-preserved c =
    let positive : 0 < c.loop-less.less = omega (arith, c.loop-less-test.true) in
    sym (gcd-step _ _ positive) ∙ c.loop-less.invariant

pub returns : goal.returns
returns c = sym (gcd-zero _) ∙ sym (ap (gcd c.loop-less.greater) c.loop-less-test.false) ∙ c.loop-less.invariant
