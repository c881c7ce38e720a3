-- Numbers of 32 bits: the steps of a thread stand below them wherever its places do. The project's own.
use Rattle.std.specs.Prelude.{◌≡◌, ℕ, ◌≤◌, ◌<◌, ◌^◌, ◌-◌, List, [], ◌∷◌, ◌++◌}
use Rattle.vt_event.specs.declared.kind.Kind.TheVariants.{Fx}
use Rattle.vt_event.specs.declared.place.Place.{Place}
use Rattle.vt_event.specs.Event.{EventView, IsEvent}
use Rattle.vt_run.specs.declared.action.Action.{Action}
use Rattle.vt_run.specs.declared.action.Action.TheVariants.{Emit, Spawn}
use Rattle.vt_run.specs.declared.start.Start.{Start}
use Rattle.vt_run.specs.Standing.{action_place}

-- an event of an effect whose number has more than 32 bits
pub record IsGreatEffect (event : EventView) : Type 0 where
  pub kind : event.kind ≡ Fx
  pub step : event.place.step < 2 ^ 32
  pub great : IsEvent event → ⊥

-- a child whose number has more than 32 bits
pub record IsGreatChild (child : Start) : Type 0 where
  pub starter : List ℕ
  pub number : ℕ
  pub list : child.place.thread ≡ starter ++ number ∷ []
  pub great : 2 ^ 32 ≤ number

-- An action with a number that has more than 32 bits, or behind which there is one: no thread comes to it as long as its places and the events that wake it have smaller ones.
pub data IsTooGreat : Action → Type 0 where
  Step : {action : Action} → 2 ^ 32 - 1 ≤ (action_place action).step → IsTooGreat action
  Micro : {action : Action} → 2 ^ 32 ≤ (action_place action).micro → IsTooGreat action
  Effect : {event : EventView} → IsGreatEffect event → IsTooGreat (Emit event)
  Child : {place : Place} {child : Start} → IsGreatChild child → IsTooGreat (Spawn place child)
