use Rattle.std.proofs.Common.{◌≡◌, ◌∙◌, ap, arith, ℤ, pos, ◌<ℤ◌, to_z, of_z, w64}
use Rattle.std.specs.Prelude.{neg_ℤ, ◌-ℤ◌}
use Rattle.std.specs.Int.{int_rem_euclid}
use Rattle.std.proofs.lemmas.Int.{ints}
use Rattle.vt_value.proofs.FloorLemmas.{rem_above, rem_below}
use Rattle.vt_value.proofs.arithmetic.rest.Goals as goal

pub returns-then-divisor-lt0 : goal.returns-then-divisor-lt0
returns-then-divisor-lt0 c =
    let m : to_z w64 (of_z w64 (pos 0 -ℤ to_z w64 (of_z w64 c.get-dividend.result))) ≡ neg_ℤ c.args.m = omega (arith, ints, c.get-dividend.ensures.value) in
    let n : to_z w64 (of_z w64 (pos 0 -ℤ to_z w64 (of_z w64 c.get-divisor.result))) ≡ neg_ℤ c.args.n = omega (arith, ints, c.get-divisor.ensures.value) in
    let rest : c.rem_euclid.result ≡ int_rem_euclid (neg_ℤ c.args.m) (neg_ℤ c.args.n) = c.rem_euclid.ensures.value ∙ ap (λ (z : ℤ). int_rem_euclid z (to_z w64 (of_z w64 (pos 0 -ℤ to_z w64 (of_z w64 c.get-divisor.result))))) m ∙ ap (int_rem_euclid (neg_ℤ c.args.m)) n in
    let turned : to_z w64 (of_z w64 (pos 0 -ℤ to_z w64 (of_z w64 c.rem_euclid.result))) ≡ neg_ℤ c.rem_euclid.result = omega (arith, ints) in
    let below : c.args.n <ℤ pos 0 = omega (arith, ints, c.get-divisor.ensures.value) in
    turned ∙ ap neg_ℤ rest ∙ rem_below c.args.m c.args.n below

pub returns-else-divisor-lt0 : goal.returns-else-divisor-lt0
returns-else-divisor-lt0 c =
    let m : to_z w64 (of_z w64 c.get-dividend.result) ≡ c.args.m = omega (arith, ints, c.get-dividend.ensures.value) in
    let n : to_z w64 (of_z w64 c.get-divisor.result) ≡ c.args.n = omega (arith, ints, c.get-divisor.ensures.value) in
    let suffix : to_z w64 (of_z w64 c.rem_euclid-else-divisor-lt0.result) ≡ c.rem_euclid-else-divisor-lt0.result = omega (arith, ints) in
    let above : pos 0 <ℤ c.args.n = omega (arith, ints, c.get-divisor.ensures.value, c.requires) in
    suffix ∙ c.rem_euclid-else-divisor-lt0.ensures.value ∙ ap (λ (z : ℤ). int_rem_euclid z (to_z w64 (of_z w64 c.get-divisor.result))) m ∙ ap (int_rem_euclid c.args.m) n ∙ rem_above c.args.m c.args.n above
