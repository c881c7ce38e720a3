use Rattle.std.proofs.Common.{Some, None}
use Rattle.vt_table.specs.Lists.{scales}
use Rattle.vt_table.proofs.Search.{none_of_table}
use Rattle.vt_table.proofs.ListLemmas.{list_found, list_missed, scale_below}
use Rattle.vt_table.proofs.lists.scale_of.Goals as goal

pub scale_at-requires : goal.scale_at-requires
scale_at-requires c = scale_below c.scale_names.result c.in_ok-row.row c.scale_names.ensures c.in_ok-row.ensures.bound

pub returns-in_err-row : goal.returns-in_err-row
returns-in_err-row c = record {
  value = rw c.from_residual.ensures (list_missed scales c.scale_names.result c.scale_names.ensures c.args.name.now c.in_err-row.ensures.row);
  none = rw c.from_residual.ensures (none_of_table None c.scale_names.ensures c.args.name.now c.in_err-row.ensures.none);
}

pub returns : goal.returns
returns c = record {
  value = list_found scales c.scale_names.result c.scale_names.ensures c.args.name.now c.in_ok-row.row c.scale_at.result.now c.in_ok-row.ensures.row c.scale_at.ensures;
  none = none_of_table (Some c.in_ok-row.row) c.scale_names.ensures c.args.name.now c.in_ok-row.ensures.none;
}
