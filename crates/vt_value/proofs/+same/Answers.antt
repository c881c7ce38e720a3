use Rattle.std.proofs.Common.{◌∙◌, sym, ap, arith, length, Bool, ◌&&◌}
use Rattle.vt_value.specs.Same.{same_as, all_same_as}
use Rattle.vt_value.proofs.Layers.{weight-parts}
use Rattle.vt_value.proofs.SameLemmas.{same-parts, same-uneven, all_same-lengths, and_false, and_true}
use Rattle.vt_value.proofs.+same.Goals as goal

pub same::all_same-returns-then-left-right : goal.same::all_same-returns-then-left-right
same::all_same-returns-then-left-right t c = sym (all_same-lengths c.args.left.now c.args.right.now c.if-left-right.true)

pub value::Value::same-returns-in_default-by_item : goal.value::Value::same-returns-in_default-by_item
value::Value::same-returns-in_default-by_item t c =
    let parts = c.in-Some.parts in
    sym (same-uneven c.loop-parts.left.now c.loop-parts.right.now parts.item.now parts.prefix.now parts.suffix.now (sym c.items.ensures ∙ c.in-Some.ensures) (omega (arith, ap length c.items-in-Some.ensures, c.in_default-by_item.ensures.parts))) ∙ c.loop-parts.invariant.0

pub value::Value::same-all_same-requires : goal.value::Value::same-all_same-requires
value::Value::same-all_same-requires t c =
    let parts = c.in-Some.parts in
    (omega (arith, c.decreases, weight-parts c.loop-parts.left.now parts.item.now parts.prefix.now parts.suffix.now (sym c.items.ensures ∙ c.in-Some.ensures), c.loop-parts.invariant.1), tt)

pub value::Value::same-returns-then-not-all_same : goal.value::Value::same-returns-then-not-all_same
value::Value::same-returns-then-not-all_same t c =
    let parts = c.in-Some.parts in
    let across = c.in-Some-by_item.across in
    let step = same-parts c.loop-parts.left.now c.loop-parts.right.now parts.item.now across.item.now parts.prefix.now parts.suffix.now across.prefix.now across.suffix.now (sym c.items.ensures ∙ c.in-Some.ensures) (sym c.items-in-Some.ensures ∙ c.in-Some-by_item.ensures.parts.0) (sym c.in-Some-by_item.ensures.parts.1) in
    sym (sym c.loop-parts.invariant.0 ∙ step ∙ ap (λ (b : Bool). b && (same_as parts.item.now across.item.now && all_same_as parts.suffix.now across.suffix.now)) (sym c.all_same.ensures ∙ c.if-not-all_same.true))

pub value::Value::same-all_same-requires-in-Some : goal.value::Value::same-all_same-requires-in-Some
value::Value::same-all_same-requires-in-Some t c =
    let parts = c.in-Some.parts in
    (omega (arith, c.decreases, weight-parts c.loop-parts.left.now parts.item.now parts.prefix.now parts.suffix.now (sym c.items.ensures ∙ c.in-Some.ensures), c.loop-parts.invariant.1), tt)

pub value::Value::same-returns-then-not-all_same-2 : goal.value::Value::same-returns-then-not-all_same-2
value::Value::same-returns-then-not-all_same-2 t c =
    let parts = c.in-Some.parts in
    let across = c.in-Some-by_item.across in
    let step = same-parts c.loop-parts.left.now c.loop-parts.right.now parts.item.now across.item.now parts.prefix.now parts.suffix.now across.prefix.now across.suffix.now (sym c.items.ensures ∙ c.in-Some.ensures) (sym c.items-in-Some.ensures ∙ c.in-Some-by_item.ensures.parts.0) (sym c.in-Some-by_item.ensures.parts.1) in
    sym (sym c.loop-parts.invariant.0 ∙ step
    ∙ ap (λ (b : Bool). all_same_as parts.prefix.now across.prefix.now && (same_as parts.item.now across.item.now && b)) (sym c.all_same-in-Some.ensures ∙ c.if-not-all_same-2.true)
    ∙ ap (λ (b : Bool). all_same_as parts.prefix.now across.prefix.now && b) (and_false (same_as parts.item.now across.item.now))
    ∙ and_false (all_same_as parts.prefix.now across.prefix.now))

pub value::Value::same-loop-parts-smaller : goal.value::Value::same-loop-parts-smaller
value::Value::same-loop-parts-smaller t c =
    let parts = c.in-Some.parts in
    omega (arith, weight-parts c.loop-parts.left.now parts.item.now parts.prefix.now parts.suffix.now (sym c.items.ensures ∙ c.in-Some.ensures))

pub value::Value::same-loop-parts-preserved : goal.value::Value::same-loop-parts-preserved
value::Value::same-loop-parts-preserved t c =
    let parts = c.in-Some.parts in
    let across = c.in-Some-by_item.across in
    let items = sym c.items.ensures ∙ c.in-Some.ensures in
    let step = same-parts c.loop-parts.left.now c.loop-parts.right.now parts.item.now across.item.now parts.prefix.now parts.suffix.now across.prefix.now across.suffix.now items (sym c.items-in-Some.ensures ∙ c.in-Some-by_item.ensures.parts.0) (sym c.in-Some-by_item.ensures.parts.1) in (
      sym (sym c.loop-parts.invariant.0 ∙ step
          ∙ ap (λ (b : Bool). b && (same_as parts.item.now across.item.now && all_same_as parts.suffix.now across.suffix.now)) (sym c.all_same.ensures ∙ c.if-not-all_same.false)
          ∙ ap (λ (b : Bool). same_as parts.item.now across.item.now && b) (sym c.all_same-in-Some.ensures ∙ c.if-not-all_same-2.false)
          ∙ and_true (same_as parts.item.now across.item.now)),
      omega (arith, weight-parts c.loop-parts.left.now parts.item.now parts.prefix.now parts.suffix.now items, c.loop-parts.invariant.1),
    )
