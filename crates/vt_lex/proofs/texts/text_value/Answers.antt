use Rattle.std.proofs.Common.{◌≡◌, subst, ◌∙◌, List, ℕ, IfOk}
use Rattle.std.proofs.lemmas.List.{take_rest}
use Rattle.vt_lex.proofs.Bodies.{values_start, values_closing, values_bad, values_byte}
use Rattle.vt_lex.proofs.texts.text_value.Goals as goal

pub units-init : goal.units-init
units-init c = rw c.new-values.ensures.items (values_start c.args.form.now c.requires)

pub returns-in-Closing : goal.returns-in-Closing
returns-in-Closing c =
    let whole = values_closing _ _ _ _ _ (take_rest c.args.form.now c.units.at) c.units.invariant c.in-Closing.ensures.unit in
    subst (λ (vs : List ℕ). IfOk c.of.result (λ name. name ≡ vs)) (c.as_slice.ensures.value ∙ whole) c.of.ensures

pub units-preserved : goal.units-preserved
units-preserved c =
    rw c.in_ok-push-in-Byte.ensures.items
    (values_byte _ _ _ _ _ (take_rest c.args.form.now c.units.at) c.units.invariant _ _ c.in-Byte.ensures.within c.in-Byte.ensures.unit)

pub unreachable-requires : goal.unreachable-requires
unreachable-requires c = values_bad _ _ _ _ _ (take_rest c.args.form.now c.units.at) c.units.invariant c.in-Bad.ensures.unit
