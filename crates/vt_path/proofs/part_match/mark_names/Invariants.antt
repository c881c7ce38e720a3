use Rattle.std.proofs.Common.{◌≡◌, ℕ, ◌<◌, ◌≤◌, ◌↔◌, true}
use Rattle.vt_path.specs.private.Marks.{mark, SomeName}
use Rattle.vt_path.proofs.part_match.mark_names.Given as goal

abbrev pub invariant-loop-i : goal.invariant-loop-i
invariant-loop-i l = record {
  before : (j : ℕ) → j < l.i → (mark l.marks j ≡ true) ↔ SomeName l.names l.bytes l.initial.marks j;
  after : (j : ℕ) → l.i ≤ j → mark l.marks j ≡ mark l.initial.marks j;
}
