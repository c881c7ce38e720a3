use Rattle.std.proofs.Common.{◌+◌, refl, ap, ◌∙◌}
use Rattle.std.specs.Option.{option_copied}
use Rattle.vt_event.specs.Pairs.{Pairs}
use Rattle.vt_run.specs.Costs.{pair_sizes, size_if_given}
use Rattle.vt_run.specs.Notes.{capped}
use Rattle.vt_effects.proofs.costs.spawn_cost.Goals as goal

pub returns-clause-cost : goal.returns-clause-cost
returns-clause-cost c =
    let locals = c.pair_sizes.ensures ∙ ap (λ (pairs : Pairs). capped (pair_sizes pairs)) c.as_slice.ensures in
    let handed = size_if_given (option_copied c.args.handed) in
    c.sum-2.ensures.value 16 (pair_sizes c.args.locals.now + handed) refl
    (c.sum.ensures.value (pair_sizes c.args.locals.now) handed locals c.size_if_given.ensures)
