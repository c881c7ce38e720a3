-- The two texts of a fraction.
use Rattle.std.proofs.Common.{◌≡◌, ◌<◌, [], ◌∷◌, ◌++◌, arith, refl, append_assoc, ◌∙◌, nat_lt, true}
use Rattle.std.specs.Prelude.{decimal}
use Rattle.std.specs.Fmt.{signed_decimal}
use Rattle.std.proofs.lemmas.Bool.Decides.{nat_tests}
use Rattle.vt_frac.specs.Fraction.{Fraction}
use Rattle.vt_frac.specs.Text.{fraction_text}

pub text-whole : (f : Fraction) → f.denom ≡ 1 → signed_decimal f.numer ≡ fraction_text f
unfolding fraction_text
text-whole f h = rw h refl

pub text-parts : (f : Fraction) → 1 < f.denom → (signed_decimal f.numer ++ 47 ∷ []) ++ decimal f.denom ≡ fraction_text f
unfolding fraction_text
text-parts f h =
    let large : nat_lt 1 f.denom ≡ true = grind (arith, nat_tests) in
    append_assoc (signed_decimal f.numer) (47 ∷ []) (decimal f.denom) ∙ rw large refl
