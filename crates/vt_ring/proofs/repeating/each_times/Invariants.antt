use Rattle.std.proofs.Common.{◌≡◌, take}
use Rattle.vt_ring.specs.Repeating.{stretched}
use Rattle.vt_ring.proofs.repeating.each_times.Given as goal

abbrev pub invariant-loop-item : goal.invariant-loop-item
invariant-loop-item l = l.list ≡ stretched l.times (take l.item-index l.items)
