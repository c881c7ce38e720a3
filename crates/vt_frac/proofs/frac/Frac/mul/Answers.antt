use Rattle.std.proofs.Common.{◌≡◌, ◌∙◌, ap, arith, to_z, of_z}
use Rattle.std.specs.Int.{w128}
use Rattle.std.proofs.lemmas.Int.{ints}
use Rattle.vt_frac.specs.Fraction.{fitted}
use Rattle.vt_frac.proofs.ArithmeticLemmas.{product_made}
use Rattle.vt_frac.proofs.frac.Frac.mul.Goals as goal

pub returns : goal.returns
returns c =
    let back : to_z w128 (of_z w128 c.numerators.result) ≡ c.numerators.result = omega (arith, ints) in
    c.lowest.ensures ∙ ap fitted (product_made c.args.self.now c.args.other _ _ (back ∙ c.numerators.ensures) c.denominators.ensures.product)
