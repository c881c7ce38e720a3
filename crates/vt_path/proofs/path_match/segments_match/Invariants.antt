use Rattle.std.proofs.Common.{◌≤◌, length, drop}
use Rattle.vt_path.specs.private.Marks.{IsMarked}
use Rattle.vt_path.specs.Match.{MatchesSegments}
use Rattle.vt_path.proofs.path_match.segments_match.Given as goal

abbrev pub invariant-loop-k : goal.invariant-loop-k
invariant-loop-k l = record {
  within : l.k ≤ length l.pattern;
  marked : IsMarked (MatchesSegments (drop l.k l.pattern)) l.path l.marks;
}

abbrev pub decreases-loop-k : goal.decreases-loop-k
decreases-loop-k l = l.k
