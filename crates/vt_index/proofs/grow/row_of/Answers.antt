use Rattle.std.proofs.Common.{◌++◌, List, ℕ, sym, ap, ◌∙◌}
use Rattle.vt_path.specs.Path.{path_text}
use Rattle.vt_index.proofs.EntryLemmas.{grown_keeps, grown_row, row_of_text}
use Rattle.vt_index.proofs.grow.row_of.Goals as goal

pub add_row-requires : goal.add_row-requires
add_row-requires c = λ key row listed named. c.in-None.ensures key row listed (named ∙ sym c.as_slice.ensures.value)

pub returns-in-Some-clause-row : goal.returns-in-Some-clause-row
returns-in-Some-clause-row c = λ named.
    row_of_text c.args.rows.now.entries c.in-Some.index c.as_slice.result.now c.args.path.now
    (c.as_slice.ensures.value ∙ (c.in_ok-write.ensures.ok ∙ ap (λ (x : List ℕ). x ++ path_text c.args.path.now) c.new-text.ensures.items)) c.write.ensures.kept named c.in-Some.ensures

pub returns-in-None-clause-keeps : goal.returns-in-None-clause-keeps
returns-in-None-clause-keeps c =
    grown_keeps c.add_row.result c.args.rows.now.entries c.add_row.new.rows.entries _ c.args.path.now
    (c.in_ok-write.ensures.ok ∙ ap (λ (x : List ℕ). x ++ path_text c.args.path.now) c.new-text.ensures.items) c.write.ensures.kept c.add_row.ensures.ok c.add_row.ensures.err

pub returns-in-None-clause-row : goal.returns-in-None-clause-row
returns-in-None-clause-row c = grown_row c.add_row.result c.args.rows.now.entries c.add_row.new.rows.entries _ c.args.path.now c.add_row.ensures.ok
