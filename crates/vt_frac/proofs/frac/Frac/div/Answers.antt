use Rattle.std.proofs.Common.{◌≡◌, ◌∙◌, arith, to_z, of_z}
use Rattle.std.specs.Int.{w128}
use Rattle.std.proofs.lemmas.Int.{ints}
use Rattle.vt_frac.proofs.ArithmeticLemmas.{quotient_made}
use Rattle.vt_frac.proofs.frac.Frac.div.Goals as goal

pub returns-clause-value : goal.returns-clause-value
returns-clause-value c =
    let left : to_z w128 (of_z w128 c.cross.result) ≡ c.cross.result = omega (arith, ints) in
    let right : to_z w128 (of_z w128 c.cross-2.result) ≡ c.cross-2.result = omega (arith, ints) in
    c.ratio.ensures.value ∙ quotient_made c.args.self.now c.args.other _ _ c.cross.ensures.fractions.0.positive (left ∙ c.cross.ensures.product) (right ∙ c.cross-2.ensures.product)
