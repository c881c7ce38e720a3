use Rattle.std.proofs.Common.{◌∙◌, sym, ap, arith}
use Rattle.std.specs.Int.{w128}
use Rattle.std.specs.Prelude.{unsigned_abs}
use Rattle.std.proofs.lemmas.Int.{ints, to_z-of_z}
use Rattle.vt_frac.proofs.FractionLemmas.{reduced-below, reduced-above, fitted-not_zero}
use Rattle.vt_frac.proofs.frac.lowest.ratio.Goals as goal

pub returns-then-d-lt0-clause-value : goal.returns-then-d-lt0-clause-value
returns-then-d-lt0-clause-value c =
    let size_is = c.unsigned_abs-size.ensures.value ∙ ap unsigned_abs (to_z-of_z w128 c.args.d c.ranges.d) in
    c.lowest.ensures ∙ reduced-below c.args.n c.args.d _ _ (omega (arith, ints)) (omega (arith, ints)) size_is

pub returns-then-d-lt0-clause-zero : goal.returns-then-d-lt0-clause-zero
returns-then-d-lt0-clause-zero c =
    (λ e. absurd (fitted-not_zero _ (sym c.lowest.ensures ∙ e)), λ e. absurd (omega (arith, ints)))

pub returns-else-d-lt0-clause-value : goal.returns-else-d-lt0-clause-value
returns-else-d-lt0-clause-value c =
    let size_is = c.unsigned_abs-size.ensures.value ∙ ap unsigned_abs (to_z-of_z w128 c.args.d c.ranges.d) in
    c.lowest-else-d-lt0.ensures ∙ reduced-above c.args.n c.args.d _ _ (omega (arith, ints)) (λ e. omega (arith, ints)) (omega (arith, ints)) size_is

pub returns-else-d-lt0-clause-zero : goal.returns-else-d-lt0-clause-zero
returns-else-d-lt0-clause-zero c =
    (λ e. absurd (fitted-not_zero _ (sym c.lowest-else-d-lt0.ensures ∙ e)), λ e. absurd (omega (arith, ints)))
