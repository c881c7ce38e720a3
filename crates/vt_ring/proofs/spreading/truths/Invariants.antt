use Rattle.std.proofs.Common.{◌≡◌, map}
use Rattle.vt_ring.specs.Building.{spread_value}
use Rattle.vt_ring.specs.Items.{indices}
use Rattle.vt_ring.proofs.spreading.truths.Given as goal

abbrev pub invariant-loop-i : goal.invariant-loop-i
invariant-loop-i l = l.items ≡ map (spread_value l.beats l.places) (indices l.i)
