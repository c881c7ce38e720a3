use Rattle.std.proofs.Common.{◌+◌, Option, refl, ap, ◌∙◌}
use Rattle.vt_event.specs.declared.kind.Kind.{Kind}
use Rattle.vt_event.specs.declared.references.BlockRef.{BlockRef}
use Rattle.vt_event.specs.Pairs.{Pairs}
use Rattle.vt_run.specs.Costs.{body_sizes, event_size, pair_sizes}
use Rattle.vt_run.specs.Notes.{capped}
use Rattle.vt_effects.proofs.costs.emit_cost.Goals as goal

pub returns-clause-cost : goal.returns-clause-cost
returns-clause-cost c =
    let e = c.args.event.now in
    let value = c.event_size-value.ensures ∙ ap (λ (kind : Kind). capped (event_size kind c.value.result.now)) c.kind.ensures.value ∙ ap (λ v. capped (event_size e.kind v)) c.value.ensures in
    let options = c.pair_sizes-options.ensures ∙ ap (λ (pairs : Pairs). capped (pair_sizes pairs)) (c.as_slice.ensures ∙ c.options.ensures) in
    let body = c.body_sizes-body.ensures ∙ ap (λ (body : Option (BlockRef × Pairs)). capped (body_sizes body)) c.body.ensures.value in
    c.sum-3.ensures.value 1 (event_size e.kind e.value + (pair_sizes e.options + body_sizes e.body)) refl
    (c.sum-2.ensures.value (event_size e.kind e.value) (pair_sizes e.options + body_sizes e.body) value
    (c.sum.ensures.value (pair_sizes e.options) (body_sizes e.body) options body))
