use Rattle.std.proofs.Common.{◌≡◌, Some, map, true}
use Rattle.std.specs.List.{list_all}
use Rattle.vt_ring.specs.Items.{indices}
use Rattle.vt_given.specs.private.Rounds.{beats_at, not_below}
use Rattle.vt_given.proofs.patterns.are_forward.Given as goal

abbrev pub invariant-loop-i : goal.invariant-loop-i
invariant-loop-i l = list_all not_below (map (beats_at (Some l.times)) (indices l.i)) ≡ true
