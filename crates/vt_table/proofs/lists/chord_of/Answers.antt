use Rattle.std.proofs.Common.{Some, None}
use Rattle.vt_table.specs.Lists.{chords}
use Rattle.vt_table.proofs.Search.{none_of_table}
use Rattle.vt_table.proofs.ListLemmas.{list_found, list_missed, chord_below}
use Rattle.vt_table.proofs.lists.chord_of.Goals as goal

pub chord_at-requires : goal.chord_at-requires
chord_at-requires c = chord_below c.chord_names.result c.in_ok-row.row c.chord_names.ensures c.in_ok-row.ensures.bound

pub returns-in_err-row : goal.returns-in_err-row
returns-in_err-row c = record {
  value = rw c.from_residual.ensures (list_missed chords c.chord_names.result c.chord_names.ensures c.args.name.now c.in_err-row.ensures.row);
  none = rw c.from_residual.ensures (none_of_table None c.chord_names.ensures c.args.name.now c.in_err-row.ensures.none);
}

pub returns : goal.returns
returns c = record {
  value = list_found chords c.chord_names.result c.chord_names.ensures c.args.name.now c.in_ok-row.row c.chord_at.result.now c.in_ok-row.ensures.row c.chord_at.ensures;
  none = none_of_table (Some c.in_ok-row.row) c.chord_names.ensures c.args.name.now c.in_ok-row.ensures.none;
}
