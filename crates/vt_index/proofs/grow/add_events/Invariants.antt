use Rattle.std.proofs.Common.{◌≤◌, length}
use Rattle.vt_index.specs.private.Rows.{AreRows}
use Rattle.vt_index.proofs.grow.add_events.Given as goal

abbrev pub invariant-loop-position : goal.invariant-loop-position
invariant-loop-position l = record {
  least : l.from ≤ l.position;
  most : l.position ≤ length l.events;
  rows : AreRows l.events l.position l.rows.entries;
}
