use Rattle.std.proofs.Common.{◌≡◌, ◌∙◌, sym, ap, arith, List, []}
use Rattle.std.proofs.lemmas.List.{nil_from_length}
use Rattle.vt_value.specs.declared.copy.OpenRing.{OpenRing}
use Rattle.vt_value.specs.private.Walks.{assembled, open_weight}
use Rattle.vt_value.specs.private.Weights.{weights_of}
use Rattle.vt_value.proofs.WalkLemmas.{closing, going_on, open_weight-append}
use Rattle.vt_value.proofs.copy.climb.Goals as goal

pub loop-ring-preserved : goal.loop-ring-preserved
loop-ring-preserved c =
    let last : c.in-Some.ring.rest.now ≡ [] = nil_from_length c.in-Some.ring.rest.now c.in-None.ensures.cases in (
      closing c.pop.new.self.items c.in-Some.ring c.loop-ring.copied c.from_vec.result last (c.from_vec.ensures ∙ c.in_ok-push.ensures.items)
          ∙ ap (λ (xs : List OpenRing). assembled xs c.loop-ring.copied) (sym c.in-Some.ensures.items) ∙ c.loop-ring.invariant.0,
      omega (arith, ap open_weight c.in-Some.ensures.items, open_weight-append c.pop.new.self.items c.in-Some.ring, c.loop-ring.invariant.1),
    )

pub returns-in-Some-split_first-clause-same : goal.returns-in-Some-split_first-clause-same
returns-in-Some-split_first-clause-same c =
    let next : OpenRing = record { made = c.push.new.self; rest = c.in-Some-split_first.rest } in
    ap (λ (xs : List OpenRing). assembled xs c.in-Some-split_first.next.now) c.in_ok-push-in-Some-split_first.ensures.items
    ∙ going_on c.pop.new.self.items c.in-Some.ring next c.loop-ring.copied c.in-Some-split_first.next.now c.in-Some-split_first.ensures.cases.0 c.in_ok-push.ensures.items
    ∙ ap (λ (xs : List OpenRing). assembled xs c.loop-ring.copied) (sym c.in-Some.ensures.items) ∙ c.loop-ring.invariant.0

pub returns-in-Some-split_first-clause-less : goal.returns-in-Some-split_first-clause-less
returns-in-Some-split_first-clause-less c =
    let next : OpenRing = record { made = c.push.new.self; rest = c.in-Some-split_first.rest } in
    omega (arith, ap open_weight c.in_ok-push-in-Some-split_first.ensures.items, open_weight-append c.pop.new.self.items next, ap open_weight c.in-Some.ensures.items, open_weight-append c.pop.new.self.items c.in-Some.ring, ap weights_of c.in-Some-split_first.ensures.cases.0, c.loop-ring.invariant.1)
