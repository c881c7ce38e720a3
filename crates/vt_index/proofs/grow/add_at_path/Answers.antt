use Rattle.std.proofs.Common.{List, ℕ, sym, ap, subst, ◌∙◌}
use Rattle.std.proofs.lemmas.Option.{slice_get_within}
use Rattle.vt_index.specs.declared.row.Row.{Row}
use Rattle.vt_index.specs.private.Rows.{StandsAt}
use Rattle.vt_index.proofs.EntryLemmas.{added_err, added_ok, always_err, row_found, value_is}
use Rattle.vt_index.proofs.grow.add_at_path.Goals as goal

pub returns-in_err-index-clause-err : goal.returns-in_err-index-clause-err
returns-in_err-index-clause-err c = always_err c.from_residual.result _ (c.row_of.ensures.keeps c.args.events.now c.args.position c.requires.rows)

pub index_mut-requires : goal.index_mut-requires
index_mut-requires c =
    let h = c.in_ok-index.ensures.row c.requires.rows.named in
    slice_get_within c.row_of.new.rows.entries c.in_ok-index.index (h.key, h.row) h.stands

pub add_to_row-requires-clause-row : goal.add_to_row-requires-clause-row
add_to_row-requires-clause-row c =
    let h = c.in_ok-index.ensures.row c.requires.rows.named in
    row_found c.args.events.now c.args.position c.in_ok-index.index c.row_of.new.rows.entries h.key h.row c.index_mut.result.now h.stands c.index_mut.ensures.value
    (c.row_of.ensures.keeps c.args.events.now c.args.position c.requires.rows)

pub add_to_row-requires-clause-stands : goal.add_to_row-requires-clause-stands
add_to_row-requires-clause-stands c =
    let h = c.in_ok-index.ensures.row c.requires.rows.named in
    subst (λ (path : List (List ℕ)). StandsAt c.args.events.now path c.args.position)
    (sym h.same ∙ ap (λ (r : Row). r.path) (value_is c.row_of.new.rows.entries c.in_ok-index.index h.key h.row c.index_mut.result.now h.stands c.index_mut.ensures.value))
    c.requires.stands

pub returns-clause-ok : goal.returns-clause-ok
returns-clause-ok c =
    added_ok c.add_to_row.result c.args.events.now c.args.position c.in_ok-index.index c.row_of.new.rows.entries c.args.path.now c.index_mut.result.now c.add_to_row.new.row
    (c.in_ok-index.ensures.row c.requires.rows.named) c.index_mut.ensures.value c.requires.stands c.add_to_row.ensures.ok
    (c.row_of.ensures.keeps c.args.events.now c.args.position c.requires.rows)

pub returns-clause-err : goal.returns-clause-err
returns-clause-err c =
    added_err c.add_to_row.result c.args.events.now c.args.position c.in_ok-index.index c.row_of.new.rows.entries c.args.path.now c.index_mut.result.now c.add_to_row.new.row
    (c.in_ok-index.ensures.row c.requires.rows.named) c.index_mut.ensures.value c.add_to_row.ensures.err
    (c.row_of.ensures.keeps c.args.events.now c.args.position c.requires.rows)
