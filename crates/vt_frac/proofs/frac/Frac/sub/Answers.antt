use Rattle.std.proofs.Common.{◌∙◌, ap, arith}
use Rattle.std.proofs.lemmas.Int.{ints}
use Rattle.vt_frac.specs.Fraction.{fitted}
use Rattle.vt_frac.proofs.ArithmeticLemmas.{difference_is}
use Rattle.vt_frac.proofs.frac.Frac.sub.Goals as goal

pub returns : goal.returns
returns c =
    c.lowest.ensures ∙ ap fitted (difference_is c.args.self.now c.args.other _ _ _ _ c.cross.ensures.product c.cross-2.ensures.product (omega (arith, ints)) c.denominators.ensures.product)
