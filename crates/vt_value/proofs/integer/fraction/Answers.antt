use Rattle.std.proofs.Common.{◌≡◌, ◌∙◌, sym, ap, arith, pos, Ok, Err, to_z, of_z, w64}
use Rattle.std.proofs.lemmas.Int.{ints}
use Rattle.vt_frac.specs.Fraction.{whole, fitted, reduced}
use Rattle.vt_value.proofs.Fractions.{whole_of_new}
use Rattle.vt_value.proofs.integer.fraction.Goals as goal

pub unreachable-requires : goal.unreachable-requires
unreachable-requires c =
    let suffix : to_z w64 (of_z w64 c.get.result) ≡ c.args.number = omega (arith, ints, c.get.ensures.value) in
    let made : Err c.in-Err.field-0 ≡ Ok (whole c.args.number) = sym c.in-Err.is ∙ c.new.ensures.value ∙ ap (λ z. fitted (reduced z (pos 1))) suffix ∙ whole_of_new c.args.number c.get.ensures.within in
    cc

pub returns : goal.returns
returns c =
    let suffix : to_z w64 (of_z w64 c.get.result) ≡ c.args.number = omega (arith, ints, c.get.ensures.value) in
    let made : Ok c.in-Ok.fraction ≡ Ok (whole c.args.number) = sym c.in-Ok.is ∙ c.new.ensures.value ∙ ap (λ z. fitted (reduced z (pos 1))) suffix ∙ whole_of_new c.args.number c.get.ensures.within in
    cc
