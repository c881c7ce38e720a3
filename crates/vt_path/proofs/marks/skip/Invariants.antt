use Rattle.std.proofs.Common.{◌≡◌, ℕ, ◌+◌, ◌<◌, ◌≤◌, ◌||◌}
use Rattle.vt_path.specs.private.Marks.{mark}
use Rattle.vt_path.proofs.marks.skip.Given as goal

abbrev pub invariant-loop-i : goal.invariant-loop-i
invariant-loop-i l = record {
  within : l.i ≤ l.last;
  before : (j : ℕ) → j < l.i → mark l.marks j ≡ mark l.initial.marks j;
  end : mark l.marks l.last ≡ mark l.initial.marks l.last;
  each : (j : ℕ) → l.i ≤ j → j < l.last → mark l.marks j ≡ mark l.initial.marks j || mark l.marks (j + 1);
}

abbrev pub decreases-loop-i : goal.decreases-loop-i
decreases-loop-i l = l.i
