use Rattle.std.proofs.Common.{◌≡◌, ℕ, ◌-◌, ◌<◌, ◌≤◌, length, Some, slice_get}
use Rattle.vt_event.specs.Event.{EventView}
use Rattle.vt_event.specs.Order.{place_of}
use Rattle.vt_index.specs.private.Nearest.{IsBehind, IsInFront}
use Rattle.vt_index.proofs.row.count_in_front.Given as goal

abbrev pub invariant-halves : goal.invariant-halves
invariant-halves l = record {
  order : l.low ≤ l.high;
  within : l.high ≤ length l.at;
  front : (k i : ℕ) (event : EventView) → k < l.low → slice_get l.at k ≡ Some i → slice_get l.events i ≡ Some event → IsInFront l.side (place_of l.place) event;
  behind : (k i : ℕ) (event : EventView) → l.high ≤ k → slice_get l.at k ≡ Some i → slice_get l.events i ≡ Some event → IsBehind l.side (place_of l.place) event;
}

abbrev pub decreases-halves : goal.decreases-halves
decreases-halves l = l.high - l.low
