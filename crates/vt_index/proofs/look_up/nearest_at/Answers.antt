use Rattle.std.proofs.Common.{List, ℕ, length, sym, ap, subst, ◌∙◌}
use Rattle.vt_event.specs.Order.{place_of}
use Rattle.std.proofs.lemmas.Option.{slice_get_within}
use Rattle.vt_index.specs.declared.row.Row.{Row}
use Rattle.vt_index.specs.private.Nearest.{NearestOf, StandsIn}
use Rattle.vt_index.specs.private.Rows.{AreWithin, IsRising}
use Rattle.vt_index.proofs.EntryLemmas.{row_found, value_is}
use Rattle.vt_index.proofs.LookUpLemmas.{none_of_text, row_of_found}
use Rattle.vt_index.proofs.RowLemmas.{row_within}
use Rattle.vt_index.proofs.look_up.nearest_at.Goals as goal

pub row_at-requires : goal.row_at-requires
row_at-requires c = slice_get_within c.args.rows.now.entries c.in-Some.index (c.in-Some.ensures.key, c.in-Some.ensures.row) c.in-Some.ensures.stands

pub nearest_in_row-requires-clause-within : goal.nearest_in_row-requires-clause-within
nearest_in_row-requires-clause-within c =
    subst (AreWithin (length c.args.events.now)) (sym c.as_slice.ensures.value)
    (row_within c.args.events.now (length c.args.events.now) c.row_at.result.now
    (row_found c.args.events.now (length c.args.events.now) c.in-Some.index c.args.rows.now.entries c.in-Some.ensures.key c.in-Some.ensures.row c.row_at.result.now c.in-Some.ensures.stands c.row_at.ensures c.requires))

pub nearest_in_row-requires-clause-rising : goal.nearest_in_row-requires-clause-rising
nearest_in_row-requires-clause-rising c =
    subst (IsRising c.args.events.now) (sym c.as_slice.ensures.value)
    (row_found c.args.events.now (length c.args.events.now) c.in-Some.index c.args.rows.now.entries c.in-Some.ensures.key c.in-Some.ensures.row c.row_at.result.now c.in-Some.ensures.stands c.row_at.ensures c.requires).rising

pub returns-in-None : goal.returns-in-None
returns-in-None c = none_of_text c.args.events.now c.args.rows.now.entries c.args.text.now c.args.side (place_of c.args.place.now) c.in-None.ensures

pub returns-in-Some : goal.returns-in-Some
returns-in-Some c =
    row_of_found c.args.events.now c.args.rows.now.entries c.args.text.now c.in-Some.index c.args.side (place_of c.args.place.now) c.nearest_in_row.result c.in-Some.ensures
    (subst (λ (at : List ℕ). NearestOf (StandsIn c.args.events.now at) c.args.side (place_of c.args.place.now) c.nearest_in_row.result)
    (c.as_slice.ensures.value ∙ ap (λ (r : Row). r.at.items) (sym (value_is c.args.rows.now.entries c.in-Some.index c.in-Some.ensures.key c.in-Some.ensures.row c.row_at.result.now c.in-Some.ensures.stands c.row_at.ensures)))
    c.nearest_in_row.ensures)
