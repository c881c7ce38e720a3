use Rattle.std.proofs.Common.{◌≡◌, ◌↔◌, true, sym, ◌∙◌, subst}
use Rattle.vt_reach.specs.private.Bodies.{AreWritings}
use Rattle.vt_reach.specs.private.Lists.{MeetsAt, MeetsRow}
use Rattle.vt_reach.proofs.ReachLemmas.{list_there, meets_nothing, meets_there, no_row, writings_there}
use Rattle.vt_reach.proofs.lists.meets_at.Goals as goal

pub meets_row-requires : goal.meets_row-requires
meets_row-requires c =
    subst (λ ms. AreWritings ms c.as_slice-in-Some-Some.result.now) (sym c.as_slice.ensures) (subst (AreWritings _) (sym c.as_slice-in-Some-Some.ensures) (writings_there c.args.rows.now c.args.writings.now c.args.place c.in-Some-Some.row.now c.in-Some-Some.places.now c.requires (sym c.in-Some-Some.ensures) (sym c.in-Some-Some.ensures')))

pub returns-in-Some-None : goal.returns-in-Some-None
returns-in-Some-None c =
    meets_nothing (MeetsAt c.args.rows.now c.args.place c.args.pattern.now) (λ m. list_there c.args.rows.now c.args.writings.now c.args.place c.in-Some-None.field-0-0.now c.requires (sym c.in-Some-None.ensures) (sym c.in-Some-None.ensures'))

pub returns-in-Some-Some : goal.returns-in-Some-Some
returns-in-Some-Some c =
    meets_there c.args.rows.now c.args.place c.in-Some-Some.row.now c.args.pattern.now c.meets_row.result (sym c.in-Some-Some.ensures) (subst (λ ms. (c.meets_row.result ≡ true) ↔ MeetsRow ms c.args.pattern.now) c.as_slice.ensures c.meets_row.ensures)

pub returns-in-None-Some : goal.returns-in-None-Some
returns-in-None-Some c =
    meets_nothing (MeetsAt c.args.rows.now c.args.place c.args.pattern.now) (no_row c.args.rows.now c.args.place c.args.pattern.now (sym c.in-None-Some.ensures))

pub returns-in-None-None : goal.returns-in-None-None
returns-in-None-None c =
    meets_nothing (MeetsAt c.args.rows.now c.args.place c.args.pattern.now) (no_row c.args.rows.now c.args.place c.args.pattern.now (sym c.in-None-None.ensures))
