use Rattle.std.proofs.Common.{◌∙◌, sym, ap, arith}
use Rattle.vt_value.specs.Sizes.{sizes_of}
use Rattle.vt_value.proofs.Layers.{size-parts, weight-parts, nothing_left}
use Rattle.vt_value.proofs.+size.Goals as goal

pub size::sizes-returns : goal.size::sizes-returns
size::sizes-returns t c = omega (arith, c.loop-value.invariant.0, c.loop-value.invariant.2, ap sizes_of (nothing_left c.args.values.now c.loop-value.value-index c.loop-value-test.false))

pub value::Value::size-sizes-requires : goal.value::Value::size-sizes-requires
value::Value::size-sizes-requires t c =
    let parts = c.in-Some.parts in
    (omega (arith, c.decreases, weight-parts c.loop-parts.value.now parts.item.now parts.prefix.now parts.suffix.now (sym c.items.ensures ∙ c.in-Some.ensures), c.loop-parts.invariant.1), tt)

pub value::Value::size-sizes-requires-in-Some : goal.value::Value::size-sizes-requires-in-Some
value::Value::size-sizes-requires-in-Some t c =
    let parts = c.in-Some.parts in
    (omega (arith, c.decreases, weight-parts c.loop-parts.value.now parts.item.now parts.prefix.now parts.suffix.now (sym c.items.ensures ∙ c.in-Some.ensures), c.loop-parts.invariant.1), tt)

pub value::Value::size-loop-parts-smaller : goal.value::Value::size-loop-parts-smaller
value::Value::size-loop-parts-smaller t c =
    let parts = c.in-Some.parts in
    omega (arith, weight-parts c.loop-parts.value.now parts.item.now parts.prefix.now parts.suffix.now (sym c.items.ensures ∙ c.in-Some.ensures))

pub value::Value::size-loop-parts-preserved : goal.value::Value::size-loop-parts-preserved
value::Value::size-loop-parts-preserved t c =
    let parts = c.in-Some.parts in
    let items = sym c.items.ensures ∙ c.in-Some.ensures in
    let sizes = size-parts c.loop-parts.value.now parts.item.now parts.prefix.now parts.suffix.now items in
    let weights = weight-parts c.loop-parts.value.now parts.item.now parts.prefix.now parts.suffix.now items in
    (omega (arith, sizes, c.loop-parts.invariant.0), omega (arith, weights, c.loop-parts.invariant.1))
