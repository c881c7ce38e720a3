use Rattle.std.proofs.Common.{◌≡◌, ℕ, ◌+◌, ◌<◌, ◌≤◌, ◌↔◌, [], true, get_or}
use Rattle.vt_path.specs.private.Marks.{mark}
use Rattle.vt_path.specs.Match.{MatchesBytes}
use Rattle.vt_path.proofs.path_match.mark_parts.Given as goal

abbrev pub invariant-loop-i : goal.invariant-loop-i
invariant-loop-i l = record {
  before : (j : ℕ) → j < l.i → (mark l.marks j ≡ true) ↔ (MatchesBytes l.parts (get_or l.path j []) × (mark l.initial.marks (j + 1) ≡ true));
  after : (j : ℕ) → l.i ≤ j → mark l.marks j ≡ mark l.initial.marks j;
}
