-- Whether the front is above a place, and whether a read is final, as tests: own.
use Rattle.std.specs.Prelude.{ℕ, List, [], ◌∷◌, cond, Option, Some, None, Bool, true, false, ◌&&◌, ◌||◌, zero, suc, length, not}
use Rattle.vt_path.specs.declared.pattern.Segment.{Segment}
use Rattle.vt_event.specs.declared.place.Place.{Place}
use Rattle.vt_event.specs.Event.{EventView}
use Rattle.vt_run.specs.declared.start.Start.{Start}
use Rattle.vt_run.specs.Standing.{Asks, Asleep, Over, Ready, Stance, Waits}
use Rattle.vt_meaning.specs.NextPlaces.{next_of, place_in}
use Rattle.vt_meaning.specs.Places.{is_before}
use Rattle.vt_meaning.specs.ThreadMeaning.{may_meet, ThreadMeaning}
use Rattle.vt_meaning.specs.Traces.{stance_in, Thread}
use Rattle.vt_meaning.specs.World.{events_of, Opening}

-- whether the front, if there is one, is above the place
abbrev pub is_above : Place → Option (ℕ × Place) → Bool
is_above place None = true
is_above place (Some front) = is_before place front.1

-- the front is above the place
unfoldable pub is_clear : ThreadMeaning → Opening → List Thread → Place → Bool
is_clear m opening threads place = is_above place (next_of m opening threads)

-- what a test leaves of a list
abbrev pub sift {ℓ} : {A : Type ℓ} → (A → Bool) → List A → List A
sift f [] = []
sift f (x ∷ xs) = cond (f x) (x ∷ sift f xs) (sift f xs)

abbrev pub is_below : Option Place → Place → Bool
is_below None place = false
is_below (Some bound) place = is_before bound place

-- the place of a thread, unless it is over
abbrev pub standing_at : Stance → Option Place
standing_at (Ready at) = Some at
standing_at (Asks at pattern) = Some at
standing_at (Waits at pattern stop) = Some at
standing_at (Asleep time) = None
standing_at Over = None

-- a thread that starts so may write what one that stands so waits for
abbrev pub may_wake : ThreadMeaning → Start → Stance → Bool
may_wake m start (Waits at pattern stop) = may_meet m start (record { pattern = pattern; stop = stop })
may_wake m start _ = false

-- .. or may wake one of these
abbrev pub may_feed : ThreadMeaning → Start → List Thread → Bool
may_feed m start [] = false
may_feed m start (thread ∷ threads) = may_wake m start (stance_in m thread) || may_feed m start threads

-- the thread is a candidate for a read at the place, and may write what the pattern matches or what one of these disturbers waits for
unfoldable pub is_disturber : ThreadMeaning → Place → List Segment → List Thread → Thread → Bool
is_disturber m place pattern found thread =
    is_below (standing_at (stance_in m thread)) place && (m.may thread.start pattern || may_feed m thread.start found)

-- those that are found in at most n rounds
abbrev pub disturbers_in : ThreadMeaning → List Thread → Place → List Segment → ℕ → List Thread
disturbers_in m threads place pattern zero = []
disturbers_in m threads place pattern (suc n) = sift (is_disturber m place pattern (disturbers_in m threads place pattern n)) threads

-- the disturbers of a read: as many rounds as there are threads find all
unfoldable pub disturbers : ThreadMeaning → List Thread → Place → List Segment → List Thread
disturbers m threads place pattern = disturbers_in m threads place pattern (length threads)

abbrev pub any_below : ThreadMeaning → List EventView → Place → List Thread → Bool
any_below m events place [] = false
any_below m events place (thread ∷ threads) = is_below (place_in events (stance_in m thread)) place || any_below m events place threads

-- a read at the place is final
unfoldable pub is_quiet : ThreadMeaning → Opening → List Thread → Place → List Segment → Bool
is_quiet m opening threads place pattern = not (any_below m (events_of m opening threads) place (disturbers m threads place pattern))
