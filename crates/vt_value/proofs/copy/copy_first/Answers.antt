use Rattle.std.proofs.Common.{◌∙◌, refl, sym, ap, arith, List}
use Rattle.vt_value.specs.declared.copy.OpenRing.{OpenRing}
use Rattle.vt_value.specs.private.Walks.{assembled, open_weight}
use Rattle.vt_value.specs.private.Weights.{weights_of}
use Rattle.vt_value.proofs.Layers.{weight-items}
use Rattle.vt_value.proofs.WalkLemmas.{opening, open_weight-append}
use Rattle.vt_value.proofs.copy.copy_first.Goals as goal

pub loop-first-preserved : goal.loop-first-preserved
loop-first-preserved c =
    let ring : OpenRing = record { made = c.new-made.result; rest = c.in-Some.rest } in
    let items = sym c.items.ensures ∙ c.in-Some.ensures.cases.0 in (
      ap (λ (xs : List OpenRing). assembled xs c.in-Some.first.now) c.in_ok-push.ensures.items ∙ opening c.loop-first.rings.items ring c.loop-first.at.now c.in-Some.first.now c.in-Some.rest.now items c.new-made.ensures.items refl ∙ c.loop-first.invariant.0,
      omega (arith, ap open_weight c.in_ok-push.ensures.items, open_weight-append c.loop-first.rings.items ring, weight-items c.loop-first.at.now, ap weights_of items, c.loop-first.invariant.1),
    )
