use Rattle.std.proofs.Common.{ℕ, List, [], ◌∷◌, ◌++◌, set, ap, ◌∙◌}
use Rattle.vt_event.specs.Pairs.{Pairs}
use Rattle.vt_effects.proofs.ScopeLemmas.{assigned_at, assigned_new}
use Rattle.vt_effects.proofs.scopes.assign.Goals as goal

pub returns-in-Some : goal.returns-in-Some
returns-in-Some c =
    let old = c.into_vec-items.ensures ∙ c.replace.ensures.value in
    c.from_vec.ensures ∙ ap (λ (xs : Pairs). set xs c.in-Some.at (c.in_ok-of.field-0, c.args.value)) old
    ∙ ap (λ (n : List ℕ). set c.args.locals.now c.in-Some.at (n, c.args.value)) c.in_ok-of.ensures
    ∙ assigned_at c.args.name.now c.args.value c.args.locals.now c.as_slice.result.now c.in-Some.at (c.as_slice.ensures.value ∙ old) c.in-Some.ensures

pub returns-in_ok-push-in-None : goal.returns-in_ok-push-in-None
returns-in_ok-push-in-None c =
    let old = c.into_vec-items.ensures ∙ c.replace.ensures.value in
    c.from_vec-in-None.ensures ∙ c.in_ok-push-in-None.ensures.items ∙ ap (λ (xs : Pairs). xs ++ (c.in_ok-of.field-0, c.args.value) ∷ []) old
    ∙ ap (λ (n : List ℕ). c.args.locals.now ++ (n, c.args.value) ∷ []) c.in_ok-of.ensures
    ∙ assigned_new c.args.name.now c.args.value c.args.locals.now c.as_slice.result.now (c.as_slice.ensures.value ∙ old) c.in-None.ensures
