use Rattle.std.proofs.Common.{◌∙◌, sym, ap, arith, ℕ, List, [], ◌∷◌, ◌++◌}
use Rattle.vt_value.specs.declared.write.Left.{Left}
use Rattle.vt_value.specs.Text.{value_text}
use Rattle.vt_value.specs.private.Walks.{left_text, left_weight, rest_text}
use Rattle.vt_value.specs.private.Weights.{weights_of}
use Rattle.vt_value.proofs.Layers.{weight-items}
use Rattle.vt_value.proofs.TextLemmas.{left_text-append, left_weight-append, text-first, opened_text}
use Rattle.vt_value.proofs.write.write_first.Goals as goal

pub loop-first-preserved : goal.loop-first-preserved
loop-first-preserved c =
    let ring : Left = record { rest = c.in-Some.rest } in
    let items = sym c.items.ensures ∙ c.in-Some.ensures.cases.0 in
    let first = c.in-Some.first.now in
    let so_far = c.loop-first.text.items in
    let left = left_text c.loop-first.rings.items in (
      ap (λ (xs : List ℕ). xs ++ value_text first ++ left_text c.push-in-Some.new.self.items) c.in_ok-push.ensures.items
          ∙ ap (λ (xs : List Left). so_far ++ 91 ∷ [] ++ value_text first ++ left_text xs) c.in_ok-push-2.ensures.items
          ∙ ap (λ (xs : List ℕ). so_far ++ 91 ∷ [] ++ value_text first ++ xs) (left_text-append c.loop-first.rings.items ring)
          ∙ opened_text so_far (value_text first) (rest_text c.in-Some.rest.now) left (value_text c.loop-first.at.now) (text-first c.loop-first.at.now first c.in-Some.rest.now items)
          ∙ c.loop-first.invariant.0,
      omega (arith, ap left_weight c.in_ok-push-2.ensures.items, left_weight-append c.loop-first.rings.items ring, weight-items c.loop-first.at.now, ap weights_of items, c.loop-first.invariant.1),
    )
