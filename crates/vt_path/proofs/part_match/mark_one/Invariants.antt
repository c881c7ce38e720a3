use Rattle.std.proofs.Common.{◌≡◌, ℕ, ◌+◌, ◌<◌, ◌≤◌, ◌↔◌, true, get_or}
use Rattle.vt_path.specs.private.Marks.{mark, TakesByte}
use Rattle.vt_path.proofs.part_match.mark_one.Given as goal

abbrev pub invariant-loop-i : goal.invariant-loop-i
invariant-loop-i l = record {
  before : (j : ℕ) → j < l.i → (mark l.marks j ≡ true) ↔ (TakesByte l.part (get_or l.bytes j 0) × (mark l.initial.marks (j + 1) ≡ true));
  after : (j : ℕ) → l.i ≤ j → mark l.marks j ≡ mark l.initial.marks j;
}
