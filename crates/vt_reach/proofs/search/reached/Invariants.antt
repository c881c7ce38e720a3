use Rattle.std.proofs.Common.{◌+◌, ◌-◌, length}
use Rattle.std.specs.Prelude.{count_by, not}
use Rattle.vt_reach.specs.private.Search.{Searches}
use Rattle.vt_reach.proofs.search.reached.Given as goal

abbrev pub invariant-search : goal.invariant-search
invariant-search l = Searches l.graph l.from l.found.items l.marks.items l.next

abbrev pub decreases-search : goal.decreases-search
decreases-search l = count_by not l.marks.items + (length l.found.items - l.next)
