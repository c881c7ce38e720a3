use Rattle.std.proofs.Common.{lit≤, refl}
use Rattle.vt_table.specs.Calls.{calls}
use Rattle.vt_table.proofs.calls.number_named.Goals as goal

pub row_named-requires : goal.row_named-requires
row_named-requires c = record { rising = refl; short = lit≤ tt }

pub returns : goal.returns
unfolding calls
returns c = c.row_named.ensures
