use Rattle.std.proofs.Common.{◌≡◌, ℕ, ◌<◌, false}
use Rattle.vt_path.specs.private.Marks.{mark}
use Rattle.vt_path.proofs.marks.mark_end.Given as goal

abbrev pub invariant-loop-i : goal.invariant-loop-i
invariant-loop-i l = (j : ℕ) → j < l.i → mark l.marks j ≡ false
