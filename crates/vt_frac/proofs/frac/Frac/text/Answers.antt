use Rattle.std.proofs.Common.{rules, ◌≡◌, ◌∙◌, ◌<◌, ◌++◌, List, ℕ, [], ◌∷◌, ap, arith, w64, FitsSigned}
use Rattle.std.specs.Prelude.{decimal}
use Rattle.std.specs.Fmt.{signed_decimal}
use Rattle.std.proofs.lemmas.Int.{to_z-of_z}
use Rattle.vt_frac.proofs.TextLemmas.{text-whole, text-parts}
use Rattle.vt_frac.proofs.frac.Frac.text.Goals as goal

pub returns-then-self-eq1 : goal.returns-then-self-eq1
returns-then-self-eq1 c =
    let fits : FitsSigned w64 c.self.inside.numer = search rules in
    rw (← c.self.view_is) (c.in_ok-text.ensures.items ∙ c.as_bytes.ensures.value ∙ c.format.ensures.text ∙ ap signed_decimal (to_z-of_z w64 _ fits) ∙ text-whole _ c.if-self-eq1.true)

pub returns : goal.returns
returns c =
    let large : 1 < c.self.inside.denom = omega (arith, c.self.invariant.positive) in
    let fits : FitsSigned w64 c.self.inside.numer = search rules in
    let numer : c.in_ok-text.text.items ≡ signed_decimal c.self.inside.numer = c.in_ok-text.ensures.items ∙ c.as_bytes.ensures.value ∙ c.format.ensures.text ∙ ap signed_decimal (to_z-of_z w64 _ fits) in
    let slash : c.push.new.self.items ≡ signed_decimal c.self.inside.numer ++ 47 ∷ [] = c.in_ok-push.ensures.items ∙ ap (λ (t : List ℕ). t ++ 47 ∷ []) numer in
    let denom : c.as_bytes-2.result.now ≡ decimal c.self.inside.denom = c.as_bytes-2.ensures.value ∙ c.format-2.ensures.text in
    rw (← c.self.view_is) (c.in_ok-extend_from_slice.ensures.items ∙ rw (slash, denom) (text-parts _ large))
