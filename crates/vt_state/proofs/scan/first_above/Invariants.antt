use Rattle.std.proofs.Common.{[], ◌∷◌, take}
use Rattle.vt_event.specs.Order.{place_of}
use Rattle.vt_state.proofs.ScanLemmas.{FirstSoFar}
use Rattle.vt_state.proofs.scan.first_above.Given as goal

abbrev pub invariant-loop-event : goal.invariant-loop-event
invariant-loop-event l = FirstSoFar (take l.event-index l.events) (place_of l.after) (l.pattern ∷ []) l.found
