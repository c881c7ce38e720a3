-- What holds of each event that a thread publishes: own.
use Rattle.std.specs.Prelude.{◌≢◌, ℕ, List, Bool, true, false, Some, IsTrue}
use Rattle.vt_path.specs.declared.inner_path.InnerKind.{InnerKind}
use Rattle.vt_path.specs.declared.inner_path.InnerKind.TheVariants.{Stop as StopPath}
use Rattle.vt_path.specs.Inner.{inner_of}
use Rattle.vt_event.specs.declared.kind.Kind.{Kind}
use Rattle.vt_event.specs.declared.kind.Kind.TheVariants.{Cue, Set, Took}
use Rattle.vt_event.specs.Event.{EventView, IsEvent}

-- the events of `cue` and `set`, which name their path
abbrev pub is_written : Kind → Bool
is_written Cue = true
is_written Set = true
is_written _ = false

-- It has the fields of its kind, and where a call names its path that is no inner one. No thread tells a stop: at the path of one stands at most what repeats the path of an event that was taken.
pub record IsWellMade (event : EventView) : Type 0 where
  pub fields : IsEvent event
  pub outside : IsTrue (is_written event.kind) → (kind : InnerKind) (name : List ℕ) → event.path ≢ Some (inner_of kind name)
  pub unstopped : event.kind ≢ Took → (name : List ℕ) → event.path ≢ Some (inner_of StopPath name)
