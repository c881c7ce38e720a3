use Rattle.std.proofs.Common.{rules, ◌/◌, ℤ, arith, inl, inr, ap, ◌∙◌, w64, FitsSigned}
use Rattle.std.specs.Prelude.{unsigned_abs}
use Rattle.std.specs.Int.{w128}
use Rattle.std.proofs.lemmas.Int.{to_z-of_z}
use Rattle.vt_frac.specs.Fraction.{with_sign}
use Rattle.vt_frac.proofs.GcdLemmas.{gcd-pos}
use Rattle.vt_frac.proofs.FractionLemmas.{over_fits, over_overflows, over_IsFraction}
use Rattle.vt_frac.proofs.frac.lowest.lowest.Goals as goal
use Rattle.vt_frac.proofs.frac.lowest.lowest.Goals.{then-above-gt-LARGEST-via-then-above-gt-LARGEST, then-above-gt-LARGEST-via-else-above-gt-LARGEST+then-below-gt-LARGEST}

pub nonzero_div-above : goal.nonzero_div-above
nonzero_div-above c = rw c.common_divisor-divisor.ensures (gcd-pos _ _ c.requires)

pub nonzero_div-below : goal.nonzero_div-below
nonzero_div-below c = rw c.common_divisor-divisor.ensures (gcd-pos _ _ c.requires)

pub returns-then-above-gt-LARGEST : goal.returns-then-above-gt-LARGEST
returns-then-above-gt-LARGEST c =
    let size_is = c.unsigned_abs-size.ensures.value ∙ ap unsigned_abs (to_z-of_z w128 c.args.n c.ranges.n) in
    over_overflows c.args.n c.args.d _ _ c.requires size_is c.common_divisor-divisor.ensures
    (elim c.then-above-gt-LARGEST.branch [
      | then-above-gt-LARGEST-via-then-above-gt-LARGEST w ↦ inl (omega (arith, w.if-above-gt-LARGEST.true))
      | then-above-gt-LARGEST-via-else-above-gt-LARGEST+then-below-gt-LARGEST w ↦ inr (omega (arith, w.if-below-gt-LARGEST.true))
    ])

pub invariant_of-result : goal.invariant_of-result
invariant_of-result c =
    let back = to_z-of_z w128 c.args.n c.ranges.n in
    let size_is = c.unsigned_abs-size.ensures.value ∙ ap unsigned_abs back in
    let fits : FitsSigned w64 c.signed.result = search rules in
    let numer_is = to_z-of_z w64 c.signed.result fits ∙ c.signed.ensures ∙ ap (λ (z : ℤ). with_sign z (c.unsigned_abs-size.result / c.common_divisor-divisor.result)) back in
    over_IsFraction c.args.n _ c.args.d _ _ c.requires size_is c.common_divisor-divisor.ensures numer_is (omega (arith, c.if-above-gt-LARGEST.false)) (omega (arith, c.if-below-gt-LARGEST.false))

pub returns : goal.returns
returns c =
    let back = to_z-of_z w128 c.args.n c.ranges.n in
    let size_is = c.unsigned_abs-size.ensures.value ∙ ap unsigned_abs back in
    let fits : FitsSigned w64 c.signed.result = search rules in
    let numer_is = to_z-of_z w64 c.signed.result fits ∙ c.signed.ensures ∙ ap (λ (z : ℤ). with_sign z (c.unsigned_abs-size.result / c.common_divisor-divisor.result)) back in
    over_fits c.args.n _ c.args.d _ _ c.requires size_is c.common_divisor-divisor.ensures numer_is (omega (arith, c.if-above-gt-LARGEST.false)) (omega (arith, c.if-below-gt-LARGEST.false))
