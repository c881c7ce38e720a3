use Rattle.std.proofs.Common.{◌≡◌, ◌∙◌, ap, sym, refl, arith, pos, to_z, of_z}
use Rattle.std.specs.Prelude.{◌*ℤ◌, ◌-ℤ◌}
use Rattle.std.specs.Int.{w128}
use Rattle.std.proofs.lemmas.Int.{ints}
use Rattle.vt_frac.specs.Arithmetic.{floor_of}
use Rattle.vt_frac.specs.Fraction.{fitted, reduced}
use Rattle.vt_frac.proofs.FractionLemmas.{fitted-not_zero}
use Rattle.vt_frac.proofs.ArithmeticLemmas.{remainder_is, zero_from_product, nonzero_from_product, divided}
use Rattle.vt_frac.proofs.frac.Frac.rem.Goals as goal

pub returns-then-divisor-eq0-clause-value : goal.returns-then-divisor-eq0-clause-value
returns-then-divisor-eq0-clause-value c =
    let none : c.cross-divisor.result ≡ pos 0 = omega (arith, ints) in
    let zero = zero_from_product c.args.other.numer c.args.self.now.denom c.cross-divisor.ensures.fractions.1.positive (sym c.cross-divisor.ensures.product ∙ none) in
    rw zero refl

pub returns-then-divisor-eq0-clause-zero : goal.returns-then-divisor-eq0-clause-zero
returns-then-divisor-eq0-clause-zero c =
    let none : c.cross-divisor.result ≡ pos 0 = omega (arith, ints) in
    (λ e. zero_from_product c.args.other.numer c.args.self.now.denom c.cross-divisor.ensures.fractions.1.positive (sym c.cross-divisor.ensures.product ∙ none), λ e. refl)

pub returns-clause-value : goal.returns-clause-value
returns-clause-value c =
    let some = λ (e : c.cross-divisor.result ≡ pos 0). let bits : of_z w128 c.cross-divisor.result ≡ 0 = omega (arith, ints) in c.if-divisor-eq0.false bits in
    let divisor : to_z w128 (of_z w128 c.cross-divisor.result) ≡ c.cross-divisor.result = omega (arith, ints) in
    let left : to_z w128 (of_z w128 c.cross.result) ≡ c.cross.result = omega (arith, ints) in
    let rest : to_z w128 (of_z w128 c.rest.result) ≡ c.rest.result = omega (arith, ints) in
    let rest_is : to_z w128 (of_z w128 c.rest.result) ≡ c.cross.result -ℤ floor_of (reduced c.cross.result c.cross-divisor.result) *ℤ c.cross-divisor.result = rest ∙ c.rest.ensures ∙ rw (divisor, left) refl in
    c.lowest.ensures
    ∙ ap fitted (remainder_is c.args.self.now c.args.other _ _ _ _ c.cross.ensures.fractions.0.positive c.cross.ensures.fractions.1.positive c.cross.ensures.product c.cross-divisor.ensures.product rest_is c.denominators.ensures.product)
    ∙ divided c.args.other.numer c.cross-divisor.result c.args.self.now.denom _ c.cross-divisor.ensures.product some

pub returns-clause-zero : goal.returns-clause-zero
returns-clause-zero c =
    let some = λ (e : c.cross-divisor.result ≡ pos 0). let bits : of_z w128 c.cross-divisor.result ≡ 0 = omega (arith, ints) in c.if-divisor-eq0.false bits in
    (λ e. absurd (fitted-not_zero _ (sym c.lowest.ensures ∙ e)), λ e. absurd (nonzero_from_product _ _ _ c.cross-divisor.ensures.product some e))
