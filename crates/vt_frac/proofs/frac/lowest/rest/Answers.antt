use Rattle.std.proofs.Common.{refl, ◌≡◌, ◌∙◌, ap, arith, pos, to_z, of_z}
use Rattle.std.specs.Prelude.{neg_ℤ, ◌-ℤ◌}
use Rattle.std.specs.Int.{int_rem_euclid, w128}
use Rattle.std.proofs.lemmas.Int.{ints, to_z-of_z}
use Rattle.vt_frac.proofs.ArithmeticLemmas.{rest-above, rest-below}
use Rattle.vt_frac.proofs.frac.lowest.rest.Goals as goal

pub returns-then-negative : goal.returns-then-negative
returns-then-negative c =
    let n : to_z w128 (of_z w128 (pos 0 -ℤ to_z w128 (of_z w128 c.args.n))) ≡ neg_ℤ c.args.n = omega (arith, ints) in
    let d : to_z w128 (of_z w128 (pos 0 -ℤ to_z w128 (of_z w128 c.args.d))) ≡ neg_ℤ c.args.d = omega (arith, ints) in
    let rest : c.rem_euclid.result ≡ int_rem_euclid (neg_ℤ c.args.n) (neg_ℤ c.args.d) = c.rem_euclid.ensures.value ∙ rw (n, d) refl in
    let turned : to_z w128 (of_z w128 (pos 0 -ℤ to_z w128 (of_z w128 c.rem_euclid.result))) ≡ neg_ℤ c.rem_euclid.result = omega (arith, ints) in
    turned ∙ ap neg_ℤ rest ∙ rest-below c.args.n c.args.d (omega (arith, ints))

pub returns-else-negative : goal.returns-else-negative
returns-else-negative c =
    let n = to_z-of_z w128 c.args.n c.ranges.n in
    let d = to_z-of_z w128 c.args.d c.ranges.d in
    let rest : c.rem_euclid-else-negative.result ≡ int_rem_euclid c.args.n c.args.d = c.rem_euclid-else-negative.ensures.value ∙ rw (n, d) refl in
    let back : to_z w128 (of_z w128 c.rem_euclid-else-negative.result) ≡ c.rem_euclid-else-negative.result = omega (arith, ints) in
    back ∙ rest ∙ rest-above c.args.n c.args.d (omega (arith, ints, c.requires.nonzero))
