-- What the texts of a session can lead to, and what a thread may write: own.
--
-- A thread does what it is told. It keeps within its reach where what it was told is what the texts can lead to and what it asked for. That the threads of a consistent store are told such alone is proved.
use Rattle.std.specs.Prelude.{◌≡◌, ℕ, ◌<◌, List, Bool, true, Option, Some, Contains, slice_get}
use Rattle.vt_event.specs.Event.{EventView}
use Rattle.vt_event.specs.declared.place.Place.{Place}
use Rattle.vt_frac.specs.Fraction.{Fraction}
use Rattle.vt_path.specs.declared.pattern.Segment.{Segment}
use Rattle.vt_run.specs.Limits.{IsEventWithin, IsStartWithin}
use Rattle.vt_run.specs.declared.action.Action.{Action}
use Rattle.vt_run.specs.declared.action.Action.TheVariants.{Emit, Read, Rest, Spawn, Wait}
use Rattle.vt_run.specs.declared.action.Answer.TheVariants.{Found}
use Rattle.vt_run.specs.declared.start.Start.{Start}
use Rattle.vt_meaning.specs.LookUps.{matches_event}
use Rattle.vt_meaning.specs.ThreadMeaning.{meets, ThreadMeaning}
use Rattle.vt_meaning.specs.Traces.{Entry, MovesOn, Thread, trace}
use Rattle.vt_meaning.specs.World.{Opening}

-- the event is what this action asked for
abbrev pub Fits : Option Action → EventView → Type 0
Fits (Some (Read place pattern)) event = matches_event pattern event ≡ true
Fits (Some (Wait place pattern stop)) event = meets (record { pattern = pattern; stop = stop }) event ≡ true
Fits _ event = Unit {0}

-- the start is one of these, and within the limits of the language
abbrev pub IsFitBy : (Start → Bool) → Start → Type 0
IsFitBy fit start = (fit start ≡ true) × IsStartWithin start

-- the event is one of these, and within the limits of the language
abbrev pub IsKnownBy : (EventView → Bool) → EventView → Type 0
IsKnownBy known event = (known event ≡ true) × IsEventWithin event

-- a thread began as `fit` says, and each event that its first i steps found is as `known` says, and what they asked for
pub record IsFedBy (fit : Start → Bool) (known : EventView → Bool) (m : ThreadMeaning) (thread : Thread) (i : ℕ) : Type 0 where
  pub begun : IsFitBy fit thread.start
  pub told : (number : ℕ) (entry : Entry) (event : EventView) → number < i → slice_get (trace m thread) number ≡ Some entry → entry.answer ≡ Some (Found event) →
      IsKnownBy known event × Fits entry.step.action event

-- so with what the texts can lead to
abbrev pub IsFed : ThreadMeaning → Thread → ℕ → Type 0
IsFed m thread i = IsFedBy m.fit m.known m thread i

-- what holds of a thread that was told such alone
pub record IsReach (m : ThreadMeaning) : Type 0 where
  -- what it publishes that can be found, and what it starts, is again such
  pub knows : (thread : Thread) (i : ℕ) (entry : Entry) (event : EventView) (pattern : List Segment) → IsFed m thread i → slice_get (trace m thread) i ≡ Some entry → entry.step.action ≡ Some (Emit event) → matches_event pattern event ≡ true →
      IsKnownBy m.known event
  pub breeds : (thread : Thread) (i : ℕ) (entry : Entry) (place : Place) (start : Start) → IsFed m thread i → slice_get (trace m thread) i ≡ Some entry → entry.step.action ≡ Some (Spawn place start) →
      IsFitBy m.fit start
  -- a rest moves it on
  pub moves : (thread : Thread) (i : ℕ) (entry : Entry) (place : Place) (seconds : Fraction) → IsFed m thread i → slice_get (trace m thread) i ≡ Some entry → entry.step.action ≡ Some (Rest place seconds) → MovesOn place seconds
  -- it writes what its start may write, and nothing that it starts may write anything else
  pub writes : (thread : Thread) (i : ℕ) (entry : Entry) (event : EventView) (pattern : List Segment) → IsFed m thread i → slice_get (trace m thread) i ≡ Some entry → entry.step.action ≡ Some (Emit event) → matches_event pattern event ≡ true →
      m.may thread.start pattern ≡ true
  pub passes : (thread : Thread) (i : ℕ) (entry : Entry) (place : Place) (start : Start) (pattern : List Segment) → IsFed m thread i → slice_get (trace m thread) i ≡ Some entry → entry.step.action ≡ Some (Spawn place start) → m.may start pattern ≡ true →
      m.may thread.start pattern ≡ true

-- a session begins with what its texts can lead to
pub record IsKnown (m : ThreadMeaning) (opening : Opening) : Type 0 where
  pub starts : (start : Start) → Contains opening.starts start → IsFitBy m.fit start
  pub given : (event : EventView) → Contains opening.given event → IsKnownBy m.known event
