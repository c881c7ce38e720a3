use Rattle.std.proofs.Common.{◌≡◌, ◌∙◌, sym, ap, arith, ℕ, List, [], ◌∷◌, ◌++◌}
use Rattle.std.proofs.lemmas.List.{nil_from_length}
use Rattle.std.specs.Prelude.{codes}
use Rattle.vt_value.specs.declared.write.Left.{Left}
use Rattle.vt_value.specs.declared.value.Value.{Value}
use Rattle.vt_value.specs.Text.{value_text}
use Rattle.vt_value.specs.private.Walks.{left_text, left_weight, rest_text}
use Rattle.vt_value.specs.private.Weights.{weights_of}
use Rattle.vt_value.proofs.TextLemmas.{left_text-append, left_weight-append, rest_text-next, closed_text, goes_on_text}
use Rattle.vt_value.proofs.write.write_on.Goals as goal

pub loop-ring-preserved : goal.loop-ring-preserved
loop-ring-preserved c =
    let last : c.in-Some.ring.rest.now ≡ [] = nil_from_length c.in-Some.ring.rest.now c.in-None.ensures.cases in
    let so_far = c.loop-ring.text.items in
    let left = left_text c.pop.new.self.items in
    let before : left_text c.loop-ring.rings.items ≡ 93 ∷ [] ++ left = ap left_text c.in-Some.ensures.items ∙ left_text-append c.pop.new.self.items c.in-Some.ring ∙ ap (λ (xs : List Value). rest_text xs ++ left) last in (
      ap (λ (xs : List ℕ). xs ++ left) c.in_ok-push-in-None.ensures.items
          ∙ closed_text so_far left
          ∙ ap (λ (xs : List ℕ). so_far ++ xs) (sym before)
          ∙ c.loop-ring.invariant.0,
      omega (arith, ap left_weight c.in-Some.ensures.items, left_weight-append c.pop.new.self.items c.in-Some.ring, c.loop-ring.invariant.1),
    )

pub returns-in-Some-split_first-clause-same : goal.returns-in-Some-split_first-clause-same
returns-in-Some-split_first-clause-same c =
    let ring : Left = record { rest = c.in-Some-split_first.rest } in
    let so_far = c.loop-ring.text.items in
    let left = left_text c.pop.new.self.items in
    let next = value_text c.in-Some-split_first.next.now in
    let rest = rest_text c.in-Some-split_first.rest.now in
    let before : left_text c.loop-ring.rings.items ≡ codes ", " ++ (next ++ rest) ++ left = ap left_text c.in-Some.ensures.items ∙ left_text-append c.pop.new.self.items c.in-Some.ring ∙ ap (λ (xs : List Value). rest_text xs ++ left) c.in-Some-split_first.ensures.cases.0 ∙ ap (λ (xs : List ℕ). xs ++ left) (rest_text-next c.in-Some-split_first.next.now c.in-Some-split_first.rest.now) in
    ap (λ (xs : List ℕ). xs ++ (next ++ left_text c.push-in-Some-split_first.new.self.items)) c.in_ok-extend_from_slice-in-Some-split_first.ensures.items
    ∙ ap (λ (xs : List Left). so_far ++ codes ", " ++ (next ++ left_text xs)) c.in_ok-push-in-Some-split_first.ensures.items
    ∙ ap (λ (xs : List ℕ). so_far ++ codes ", " ++ (next ++ xs)) (left_text-append c.pop.new.self.items ring)
    ∙ goes_on_text so_far (codes ", ") next rest left
    ∙ ap (λ (xs : List ℕ). so_far ++ xs) (sym before)
    ∙ c.loop-ring.invariant.0

pub returns-in-Some-split_first-clause-less : goal.returns-in-Some-split_first-clause-less
returns-in-Some-split_first-clause-less c =
    let ring : Left = record { rest = c.in-Some-split_first.rest } in
    omega (arith, ap left_weight c.in_ok-push-in-Some-split_first.ensures.items, left_weight-append c.pop.new.self.items ring, ap left_weight c.in-Some.ensures.items, left_weight-append c.pop.new.self.items c.in-Some.ring, ap weights_of c.in-Some-split_first.ensures.cases.0, c.loop-ring.invariant.1)
