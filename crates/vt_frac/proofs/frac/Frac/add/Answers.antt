use Rattle.std.proofs.Common.{◌∙◌, ap, arith}
use Rattle.std.proofs.lemmas.Int.{ints}
use Rattle.vt_frac.specs.Fraction.{fitted}
use Rattle.vt_frac.proofs.FractionLemmas.{sum_is}
use Rattle.vt_frac.proofs.frac.Frac.add.Goals as goal

pub returns : goal.returns
returns c =
    c.lowest.ensures ∙ ap fitted (sum_is c.args.self.now c.args.other _ _ _ _ c.cross.ensures.product c.cross-2.ensures.product (omega (arith, ints)) c.denominators.ensures.product)
