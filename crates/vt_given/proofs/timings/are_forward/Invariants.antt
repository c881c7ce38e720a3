use Rattle.std.proofs.Common.{◌≡◌, length, map}
use Rattle.std.specs.List.{list_all}
use Rattle.vt_given.specs.private.Rounds.{not_below, number_in}
use Rattle.vt_given.proofs.timings.are_forward.Given as goal

abbrev pub invariant-loop-time : goal.invariant-loop-time
invariant-loop-time l = list_all not_below (map number_in l.left) ≡ list_all not_below (map number_in l.times)

abbrev pub decreases-loop-time : goal.decreases-loop-time
decreases-loop-time l = length l.left
