use Rattle.std.proofs.Common.{◌≡◌, ◌∙◌, sym, ap, arith, pos, Ok, Err, to_z, w64}
use Rattle.std.proofs.lemmas.Int.{ints}
use Rattle.vt_frac.specs.Fraction.{whole, fitted, reduced}
use Rattle.vt_value.proofs.Fractions.{whole_of_new}
use Rattle.vt_ring.proofs.exact.whole.Goals as goal

pub unreachable-requires : goal.unreachable-requires
unreachable-requires c =
    let back : to_z w64 c.args.n ≡ pos c.args.n = omega (arith, ints) in
    let made : Err c.in-Err.field-0 ≡ Ok (whole (pos c.args.n)) = sym c.in-Err.is ∙ c.new.ensures.value ∙ ap (λ z. fitted (reduced z (pos 1))) back ∙ whole_of_new (pos c.args.n) c.requires in
    cc

pub returns : goal.returns
returns c =
    let back : to_z w64 c.args.n ≡ pos c.args.n = omega (arith, ints) in
    let made : Ok c.in-Ok.fraction ≡ Ok (whole (pos c.args.n)) = sym c.in-Ok.is ∙ c.new.ensures.value ∙ ap (λ z. fitted (reduced z (pos 1))) back ∙ whole_of_new (pos c.args.n) c.requires in
    cc
