use Rattle.std.proofs.Common.{take}
use Rattle.vt_event.specs.Order.{place_of}
use Rattle.vt_state.proofs.ScanLemmas.{LastSoFar}
use Rattle.vt_state.proofs.scan.last_below.Given as goal

abbrev pub invariant-loop-event : goal.invariant-loop-event
invariant-loop-event l = LastSoFar (take l.event-index l.events) (place_of l.before) l.pattern l.found
