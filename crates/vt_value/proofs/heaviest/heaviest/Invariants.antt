use Rattle.std.proofs.Common.{◌≤◌, ◌-◌, length}
use Rattle.vt_value.proofs.heaviest.heaviest.Given as goal

abbrev pub invariant-loop-i : goal.invariant-loop-i
invariant-loop-i l = l.at ≤ length l.items - 1
