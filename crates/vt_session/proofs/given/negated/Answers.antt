use Rattle.std.proofs.Common.{◌≡◌, ◌∙◌, pos, ◌-ℤ◌, Ok, Err, sym, ap, arith, to_z, of_z, w64}
use Rattle.std.specs.Prelude.{neg_ℤ}
use Rattle.std.proofs.lemmas.Int.{ints}
use Rattle.vt_frac.specs.Fraction.{fitted, reduced, unless_zero}
use Rattle.vt_session.specs.Given.{negated}
use Rattle.vt_session.proofs.ValueLemmas.{negated_is}
use Rattle.vt_session.proofs.given.negated.Goals as goal

pub unreachable-requires : goal.unreachable-requires
unreachable-requires c =
    let f = c.numer.ensures.fraction in
    let top : to_z w64 (of_z w64 (pos 0 -ℤ to_z w64 (of_z w64 c.numer.result))) ≡ neg_ℤ c.args.number.now.numer = omega (arith, ints, c.numer.ensures.value, f.numer_fits) in
    let under : to_z w64 (of_z w64 c.denom.result) ≡ pos c.args.number.now.denom = omega (arith, ints, c.denom.ensures.value, f.denom_fits) in
    let made : Err c.in-Err.field-0 ≡ Ok (negated c.args.number.now) =
    sym c.in-Err.is ∙ c.new.ensures.value
    ∙ ap (λ z. unless_zero z (fitted (reduced (to_z w64 (of_z w64 (pos 0 -ℤ to_z w64 (of_z w64 c.numer.result)))) z))) under
    ∙ ap (λ z. unless_zero (pos c.args.number.now.denom) (fitted (reduced z (pos c.args.number.now.denom)))) top
    ∙ negated_is c.args.number.now f in
    cc

pub returns : goal.returns
returns c =
    let f = c.numer.ensures.fraction in
    let top : to_z w64 (of_z w64 (pos 0 -ℤ to_z w64 (of_z w64 c.numer.result))) ≡ neg_ℤ c.args.number.now.numer = omega (arith, ints, c.numer.ensures.value, f.numer_fits) in
    let under : to_z w64 (of_z w64 c.denom.result) ≡ pos c.args.number.now.denom = omega (arith, ints, c.denom.ensures.value, f.denom_fits) in
    let made : Ok c.in-Ok.negative ≡ Ok (negated c.args.number.now) =
    sym c.in-Ok.is ∙ c.new.ensures.value
    ∙ ap (λ z. unless_zero z (fitted (reduced (to_z w64 (of_z w64 (pos 0 -ℤ to_z w64 (of_z w64 c.numer.result)))) z))) under
    ∙ ap (λ z. unless_zero (pos c.args.number.now.denom) (fitted (reduced z (pos c.args.number.now.denom)))) top
    ∙ negated_is c.args.number.now f in
    cc
