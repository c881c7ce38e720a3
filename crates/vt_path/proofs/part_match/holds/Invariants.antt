use Rattle.std.proofs.Common.{◌-◌, length, drop, ◌↔◌}
use Rattle.vt_path.specs.Match.{Holds}
use Rattle.vt_path.proofs.part_match.holds.Given as goal

abbrev pub invariant-loop-i : goal.invariant-loop-i
invariant-loop-i l = Holds (drop l.i l.held) l.byte ↔ Holds l.held l.byte

abbrev pub decreases-loop-i : goal.decreases-loop-i
decreases-loop-i l = length l.held - l.i
