use Rattle.std.proofs.Common.{◌≡◌, ℕ, Some, slice_get}
use Rattle.vt_event.specs.Event.{EventView}
use Rattle.tests_program.proofs.state.all_events.Given as goal

abbrev pub invariant-loop-line : goal.invariant-loop-line
invariant-loop-line l = (k : ℕ) (event : EventView) → slice_get l.events k ≡ Some event → event.place.step ≡ k
