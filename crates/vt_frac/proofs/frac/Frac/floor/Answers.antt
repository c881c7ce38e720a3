use Rattle.std.proofs.Common.{refl, rules, ◌≡◌, ◌∙◌, arith, to_z, of_z, w64, FitsSigned}
use Rattle.std.proofs.lemmas.Int.{ints, to_z-of_z, to_z_pos}
use Rattle.vt_frac.specs.Arithmetic.{floor_of}
use Rattle.vt_frac.proofs.frac.Frac.floor.Goals as goal

pub returns-clause-value : goal.returns-clause-value
unfolding floor_of
returns-clause-value c =
    let fits : FitsSigned w64 c.self.inside.numer = search rules in
    let numer = to_z-of_z w64 c.self.inside.numer fits in
    let denom = to_z_pos w64 c.self.inside.denom c.self.invariant.denom_fits in
    let back : to_z w64 (of_z w64 c.div_euclid.result) ≡ c.div_euclid.result = omega (arith, ints) in
    rw (← c.self.view_is) (back ∙ c.div_euclid.ensures ∙ rw (numer, denom) refl)
