use Rattle.std.proofs.Common.{List, ℕ, length, refl, sym, subst, ◌∙◌, arith}
use Rattle.std.proofs.lemmas.Option.{slice_get_within}
use Rattle.vt_event.specs.declared.place.Place.{Place}
use Rattle.vt_event.specs.Order.{place_of}
use Rattle.vt_index.specs.declared.side.Side.TheVariants.{Below}
use Rattle.vt_index.specs.private.Nearest.{IsCut}
use Rattle.vt_index.specs.private.Rows.{AreWithin, IsRising}
use Rattle.vt_index.proofs.RowLemmas.{row_added, row_within_more}
use Rattle.vt_index.proofs.row.add_to_row.Goals as goal

pub standing-requires : goal.standing-requires
standing-requires c = slice_get_within c.args.events.now c.args.position c.requires.stands.event c.requires.stands.stands

pub place_in_row-index-requires-clause-within : goal.place_in_row-index-requires-clause-within
place_in_row-index-requires-clause-within c =
    subst (AreWithin (length c.args.events.now)) (sym c.as_slice.ensures.value)
    (row_within_more c.args.events.now c.args.position (length c.args.events.now) c.args.row.now
    (omega (arith, slice_get_within c.args.events.now c.args.position c.requires.stands.event c.requires.stands.stands)) c.requires.row)

pub place_in_row-index-requires-clause-rising : goal.place_in_row-index-requires-clause-rising
place_in_row-index-requires-clause-rising c = subst (IsRising c.args.events.now) (sym c.as_slice.ensures.value) c.requires.row.rising

pub returns-clause-ok : goal.returns-clause-ok
returns-clause-ok c =
    row_added c.args.events.now c.args.position c.place_in_row-index.result c.standing.result.now c.args.row.now _ c.requires.apart c.standing.ensures c.requires.stands c.requires.row
    (subst (λ (place : Place). IsCut c.args.events.now c.args.row.now.at.items Below place c.place_in_row-index.result) (c.as_ref-place.ensures ∙ c.place.ensures)
    (subst (λ (at : List ℕ). IsCut c.args.events.now at Below (place_of c.as_ref-place.result) c.place_in_row-index.result) c.as_slice.ensures.value c.place_in_row-index.ensures))
    refl c.in_ok-insert.ensures.items
