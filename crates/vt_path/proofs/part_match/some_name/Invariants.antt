use Rattle.std.proofs.Common.{◌≡◌, ℕ, ◌+◌, ◌<◌, List, [], ◌++◌, length, drop, get_or, true}
use Rattle.vt_path.specs.private.Marks.{mark}
use Rattle.vt_path.proofs.part_match.some_name.Given as goal

abbrev pub invariant-loop-name : goal.invariant-loop-name
invariant-loop-name l =
    (k : ℕ) → k < l.name-index → (rest : List ℕ) → drop l.i l.bytes ≡ get_or l.names k [] ++ rest → mark l.marks (l.i + length (get_or l.names k [])) ≡ true → ⊥
