-- Where a thread goes on as things stand, and which thread goes on soonest: after FARM 2014, with cues and the time state.
use Rattle.std.specs.Prelude.{◌≡◌, ℕ, ◌+◌, List, [], ◌∷◌, cond, Option, Some, None, slice_get}
use Rattle.vt_event.specs.declared.place.Place.{Place}
use Rattle.vt_event.specs.Event.{EventView}
use Rattle.vt_run.specs.Standing.{Stance, Ready, Asks, Waits, Asleep, Over}
use Rattle.vt_meaning.specs.Happenings.{Above}
use Rattle.vt_meaning.specs.LookUps.{first_above}
use Rattle.vt_meaning.specs.Places.{Upto, is_before}
use Rattle.vt_meaning.specs.ThreadMeaning.{ThreadMeaning, with_stop}
use Rattle.vt_meaning.specs.Traces.{Thread, stance_in, wake}
use Rattle.vt_meaning.specs.World.{Opening, events_of}

-- The next place is one at which a thread that stands so may go on. A thread that waits may go on where an event that it wants wakes it; it goes on at the least of these. One that sleeps past the horizon has no place below it.
abbrev pub GoesOn : ThreadMeaning → Opening → List Thread → Stance → Place → Type 0
GoesOn m opening threads (Ready place) next = next ≡ place
GoesOn m opening threads (Asks place pattern) next = next ≡ place
GoesOn m opening threads (Waits place pattern stop) next =
    (event : EventView) × Above m opening threads place (record { pattern = pattern; stop = stop }) event × (next ≡ wake event place)
GoesOn m opening threads (Asleep time) next = ⊥
GoesOn m opening threads Over next = ⊥

-- no thread goes on
abbrev pub IsFinished : ThreadMeaning → Opening → List Thread → Type 0
IsFinished m opening threads = (number : ℕ) (thread : Thread) (next : Place) → slice_get threads number ≡ Some thread → GoesOn m opening threads (stance_in m thread) next → ⊥

-- no thread goes on sooner than at the place
abbrev pub NoneSooner : ThreadMeaning → Opening → List Thread → Place → Type 0
NoneSooner m opening threads place =
    (number : ℕ) (thread : Thread) (next : Place) → slice_get threads number ≡ Some thread → GoesOn m opening threads (stance_in m thread) next → Upto place next

abbrev pub woken_at : Place → Option EventView → Option Place
woken_at place None = None
woken_at place (Some event) = Some (wake event place)

-- The place at which a thread that stands so goes on, if it goes on. One that waits goes on where the first event that it wants wakes it.
abbrev pub place_in : List EventView → Stance → Option Place
place_in events (Ready place) = Some place
place_in events (Asks place pattern) = Some place
place_in events (Waits place pattern stop) = woken_at place (first_above events place (with_stop pattern stop))
place_in events (Asleep time) = None
place_in events Over = None

-- of two threads, each by its number and the place at which it goes on, the one with the lower place; of the first one the number and the place are given apart
abbrev pub sooner : ℕ → Option Place → Option (ℕ × Place) → Option (ℕ × Place)
sooner number None other = other
sooner number (Some place) None = Some (number, place)
sooner number (Some place) (Some other) = cond (is_before other.1 place) (Some other) (Some (number, place))

-- the thread with the least place among these, which are numbered from this number, if one of them has a place
abbrev pub soonest : ThreadMeaning → List EventView → ℕ → List Thread → Option (ℕ × Place)
soonest m events number [] = None
soonest m events number (thread ∷ threads) =
    sooner number (place_in events (stance_in m thread)) (soonest m events (number + 1) threads)

-- the thread that goes on soonest of all, if one goes on: its number, and the place at which it does
abbrev pub next_of : ThreadMeaning → Opening → List Thread → Option (ℕ × Place)
next_of m opening threads = soonest m (events_of m opening threads) 0 threads
