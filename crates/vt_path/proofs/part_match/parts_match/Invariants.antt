use Rattle.std.proofs.Common.{◌≤◌, length, drop}
use Rattle.vt_path.specs.private.Marks.{IsMarked}
use Rattle.vt_path.specs.Match.{MatchesBytes}
use Rattle.vt_path.proofs.part_match.parts_match.Given as goal

abbrev pub invariant-loop-k : goal.invariant-loop-k
invariant-loop-k l = record {
  within : l.k ≤ length l.parts;
  marked : IsMarked (MatchesBytes (drop l.k l.parts)) l.bytes l.marks;
}

abbrev pub decreases-loop-k : goal.decreases-loop-k
decreases-loop-k l = l.k
