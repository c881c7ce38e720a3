use Rattle.std.proofs.Common.{◌≡◌, ◌≤◌, ℕ, List, length}
use Rattle.vt_event.specs.Event.{EventView}
use Rattle.vt_index.specs.private.Rows.{AreCutTo, AreRows}
use Rattle.vt_index.proofs.grow.cut_rows.Given as goal

abbrev pub invariant-loop-index : goal.invariant-loop-index
invariant-loop-index l = record {
  length : length l.rows.entries ≡ length l.initial.rows.entries;
  cut : (events : List EventView) (n : ℕ) → l.from ≤ n → AreRows events n l.initial.rows.entries → AreCutTo events l.from n l.index l.rows.entries;
}
