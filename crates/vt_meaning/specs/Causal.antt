-- What two sessions share at the times below the limit, and that it fixes the events there.
use Rattle.std.specs.Prelude.{length, ◌≡◌, ℕ, ◌≤◌, List, [], ◌∷◌, take, slice_get, Option, Some, Bool, true, false, cond, Contains, ◌↔◌, ◌++◌}
use Rattle.vt_event.specs.Event.{EventView}
use Rattle.vt_event.specs.declared.place.Place.{Place}
use Rattle.vt_event.specs.declared.score.Living.{Living}
use Rattle.vt_frac.specs.Arithmetic.{sum_of}
use Rattle.vt_frac.specs.Fraction.{Fraction, IsFraction}
use Rattle.vt_path.specs.declared.pattern.Segment.{Segment}
use Rattle.vt_run.specs.Actions.{is_past}
use Rattle.vt_run.specs.Evaluation.{Step}
use Rattle.vt_run.specs.Standing.{Ready}
use Rattle.vt_run.specs.declared.action.Action.{Action}
use Rattle.vt_run.specs.declared.action.Action.TheVariants.{Emit, Rest, Spawn}
use Rattle.vt_run.specs.declared.action.Answer.{Answer}
use Rattle.vt_run.specs.declared.action.Answer.TheVariants.{Found}
use Rattle.vt_run.specs.declared.start.Start.{Start}
use Rattle.vt_meaning.specs.Bounds.{Clear}
use Rattle.vt_meaning.specs.Consistent.{IsConsistent, IsExact}
use Rattle.vt_meaning.specs.Disturbers.{sift}
use Rattle.vt_meaning.specs.Happenings.{Happened}
use Rattle.vt_meaning.specs.LookUps.{matches_event}
use Rattle.vt_meaning.specs.Meaning.{ending_of, in_order, is_event_before, is_living_before, living_in}
use Rattle.vt_meaning.specs.Meaning.Ending.{Ends, OverBudget}
use Rattle.vt_meaning.specs.Places.{Earlier, is_earlier, NoLater}
use Rattle.vt_meaning.specs.Reach.{IsFed, IsFedBy, IsFitBy, IsKnown, IsKnownBy}
use Rattle.vt_meaning.specs.ThreadLaws.{IsActs, IsSession}
use Rattle.vt_meaning.specs.ThreadMeaning.{ThreadMeaning}
use Rattle.vt_meaning.specs.Traces.{Entry, standing, Thread, trace}
use Rattle.vt_meaning.specs.World.{events_of, Opening, total_of}

-- what two sessions share at times below the limit; `fit` and `known` say which starts and events what stands below the limit can lead to
pub record AgreeBelow (limit : Fraction) (fit : Start → Bool) (known : EventView → Bool) (m m' : ThreadMeaning) (opening opening' : Opening) : Type 0 where
  -- a rest to a time below the limit reaches neither horizon, or both
  pub horizon : (time seconds : Fraction) → Earlier (sum_of time seconds) limit → is_past m.until (sum_of time seconds) ≡ is_past m'.until (sum_of time seconds)
  -- the same texts and given events below the limit
  pub starts : (start : Start) → Earlier start.place.time limit → Contains opening.starts start ↔ Contains opening'.starts start
  pub given : (event : EventView) → Earlier event.place.time limit → Contains opening.given event ↔ Contains opening'.given event
  pub early : (start : Start) → Earlier start.place.time limit → Contains opening.starts start → IsFitBy fit start
  pub heard : (event : EventView) → Earlier event.place.time limit → Contains opening.given event → IsKnownBy known event
  -- threads that began alike, have done the same, and were fed by what stands below the limit, do the same next, while they stand below the limit
  pub same : (thread twin : Thread) (step : ℕ) (entry other : Entry) (place : Place) → thread.start ≡ twin.start → IsFedBy fit known m thread step → take step (trace m thread) ≡ take step (trace m' twin) →
      slice_get (trace m thread) step ≡ Some entry → slice_get (trace m' twin) step ≡ Some other → standing m thread.start (take step (trace m thread)) ≡ Ready place → Earlier place.time limit → entry.step ≡ other.step
  -- and they publish and start what is such again
  pub knows : (thread : Thread) (step : ℕ) (entry : Entry) (event : EventView) (pattern : List Segment) → IsFedBy fit known m thread step → slice_get (trace m thread) step ≡ Some entry → entry.step.action ≡ Some (Emit event) → Earlier event.place.time limit → matches_event pattern event ≡ true → IsKnownBy known event
  pub breeds : (thread : Thread) (step : ℕ) (entry : Entry) (place : Place) (start : Start) → IsFedBy fit known m thread step → slice_get (trace m thread) step ≡ Some entry → entry.step.action ≡ Some (Spawn place start) → Earlier start.place.time limit → IsFitBy fit start

-- the events of a world in order of place, and those of them at times below the limit
abbrev pub score : ThreadMeaning → Opening → List Thread → List EventView
score m opening world = in_order is_event_before (events_of m opening world)

-- the threads of a world that live on, in order of their lists
abbrev pub living : ThreadMeaning → List Thread → List Living
living m world = in_order is_living_before (living_in m world)

abbrev pub lines_below : Fraction → List EventView → List EventView
lines_below time events = sift (λ event. is_earlier event.place.time time) events

-- **causality**: two sessions that share what stands below the limit have the same events below the limit, where neither is spent
abbrev pub Causal : Type 0
Causal =
    (time : Fraction) (fit : Start → Bool) (known : EventView → Bool) (m m' : ThreadMeaning) (opening opening' : Opening) → IsSession m opening → IsSession m' opening' → AgreeBelow time fit known m m' opening opening' →
    (world world' : List Thread) → ending_of m opening ≡ Ends world → ending_of m' opening' ≡ Ends world' → lines_below time (score m opening world) ≡ lines_below time (score m' opening' world')

-- all that a session begins with is below its horizon, and whatever is started from below it is too
pub record IsWithin (m : ThreadMeaning) (opening : Opening) : Type 0 where
  pub horizon : IsFraction m.until
  pub starts : (start : Start) → Contains opening.starts start → Earlier start.place.time m.until
  pub given : (event : EventView) → Contains opening.given event → Earlier event.place.time m.until
  pub spawns : (thread : Thread) (step : ℕ) (entry : Entry) (place : Place) (start : Start) → slice_get (trace m thread) step ≡ Some entry → entry.step.action ≡ Some (Spawn place start) → Earlier place.time m.until → Earlier start.place.time m.until

-- **a nearer horizon**: if the session with the further one is scored, the one with the nearer one is scored too, for no higher cost,
-- with exactly the events below its horizon
abbrev pub Nearer : Type 0
Nearer =
    (fit : Start → Bool) (known : EventView → Bool) (m m' : ThreadMeaning) (opening opening' : Opening) → IsSession m opening → IsSession m' opening' → IsWithin m opening → AgreeBelow m.until fit known m m' opening opening' →
    opening'.budget ≤ opening.budget → (world' : List Thread) → ending_of m' opening' ≡ Ends world' →
    (world : List Thread) × (ending_of m opening ≡ Ends world) × (total_of m world ≤ total_of m' world') × (score m opening world ≡ lines_below m.until (score m' opening' world'))

-- **what begins at or past the horizon** has no part: with one horizon, two sessions that share what stands below it are both spent, or
-- both scored with the same events and the same threads alive
abbrev pub LeftOut : Type 0
LeftOut =
    (fit : Start → Bool) (known : EventView → Bool) (m m' : ThreadMeaning) (opening opening' : Opening) → IsSession m opening → IsSession m' opening' → IsWithin m opening → IsWithin m' opening' → m.until ≡ m'.until →
    AgreeBelow m.until fit known m m' opening opening' → opening.budget ≡ opening'.budget →
    ((ending_of m opening ≡ OverBudget) ↔ (ending_of m' opening' ≡ OverBudget))
    × ((world world' : List Thread) → ending_of m opening ≡ Ends world → ending_of m' opening' ≡ Ends world' → (score m opening world ≡ score m' opening' world') × (living m world ≡ living m' world'))

-- **no event of a score is at or past the horizon**
abbrev pub AllWithin : Type 0
AllWithin = (m : ThreadMeaning) (opening : Opening) → IsSession m opening → IsWithin m opening → (world : List Thread) → ending_of m opening ≡ Ends world → (event : EventView) → Contains (score m opening world) event → Earlier event.place.time m.until

-- **early lines come first**: of a score in order of place, the lines below an earlier time begin those below a later one
abbrev pub LinesBegin : Type 0
LinesBegin =
    (nearer further : Fraction) → NoLater nearer further → (m : ThreadMeaning) (opening : Opening) (world : List Thread) →
    ((rest : List EventView) × (lines_below further (score m opening world) ≡ lines_below nearer (score m opening world) ++ rest))
    × ((rest : List EventView) × (score m opening world ≡ lines_below nearer (score m opening world) ++ rest) × ((event : EventView) → Contains rest event → NoLater nearer event.place.time))

-- the lists of steps of an exact thread that was fed so are one as far as both go
abbrev pub ActsAlike : (Start → Bool) → (EventView → Bool) → ThreadMeaning → ThreadMeaning → Type 0
ActsAlike fit known m m' =
    (thread : Thread) (number : ℕ) (first second : Step) → IsExact m thread → IsFedBy fit known m thread thread.done →
    slice_get (m.acts thread.start thread.answers thread.done) number ≡ Some first → slice_get (m'.acts thread.start thread.answers thread.done) number ≡ Some second → first ≡ second

-- **the law of the next step, of lists of steps**
abbrev pub ActsEnough : Type 0
ActsEnough =
    (fit : Start → Bool) (known : EventView → Bool) (m m' : ThreadMeaning) → IsActs m → IsActs m' → ActsAlike fit known m m' →
    (thread twin : Thread) (step : ℕ) (entry other : Entry) → thread.start ≡ twin.start → IsFedBy fit known m thread step → take step (trace m thread) ≡ take step (trace m' twin) →
    slice_get (trace m thread) step ≡ Some entry → slice_get (trace m' twin) step ≡ Some other → entry.step ≡ other.step

-- What some texts mean by a horizon is a part of what these and further ones mean by one that is no nearer: of a thread that is exact
-- and was fed by the former, the former's steps begin the latter's.
pub record IsPartOf (m m' : ThreadMeaning) : Type 0 where
  pub until : NoLater m.until m'.until
  pub near : IsFraction m.until
  pub far : IsFraction m'.until
  pub acts : (thread : Thread) → IsExact m thread → IsFed m thread thread.done → (rest : List Step) × (m'.acts thread.start thread.answers thread.done ≡ m.acts thread.start thread.answers thread.done ++ rest)

-- **enough for that**: it holds for each start that fits and all answers that are known
abbrev pub KnownIsPart : Type 0
KnownIsPart =
    (m m' : ThreadMeaning) → NoLater m.until m'.until → IsFraction m.until → IsFraction m'.until →
    ((start : Start) (answers : List Answer) (count : ℕ) → IsFitBy m.fit start → ((found : EventView) → Contains answers (Found found) → IsKnownBy m.known found) → (rest : List Step) × (m'.acts start answers count ≡ m.acts start answers count ++ rest)) →
    IsPartOf m m'

-- a rest to a time at or past the horizon
abbrev pub reaches : Fraction → Option Action → Bool
reaches until (Some (Rest place seconds)) = is_past until (sum_of place.time seconds)
reaches until _ = false

-- a list of steps up to its first such rest, with it
abbrev pub until_rest : Fraction → List Step → List Step
until_rest until [] = []
until_rest until (step ∷ steps) = step ∷ cond (reaches until step.action) [] (until_rest until steps)

-- **and enough for it**: the steps of the part are those of the whole, so cut
abbrev pub CutIsPart : Type 0
CutIsPart =
    (m m' : ThreadMeaning) → NoLater m.until m'.until → IsFraction m.until → IsFraction m'.until →
    ((start : Start) (answers : List Answer) (count : ℕ) → IsFitBy m.fit start → ((found : EventView) → Contains answers (Found found) → IsKnownBy m.known found) → m.acts start answers count ≡ until_rest m.until (m'.acts start answers count)) →
    IsPartOf m m'

-- a session without what begins at or past the horizon
abbrev pub cut : Fraction → Opening → Opening
cut until opening = record { starts = sift (λ start. is_earlier start.place.time until) opening.starts; given = sift (λ event. is_earlier event.place.time until) opening.given; budget = opening.budget }

-- who is started begins at the time of its starter
abbrev pub IsPrompt : ThreadMeaning → Type 0
IsPrompt m = (thread : Thread) (step : ℕ) (entry : Entry) (place : Place) (start : Start) → slice_get (trace m thread) step ≡ Some entry → entry.step.action ≡ Some (Spawn place start) → start.place.time ≡ place.time

-- So of one session by two horizons, said by its texts alone: leave out what begins at or past the nearer one. If the session is scored,
-- what is left is scored, with its events below that horizon.
abbrev pub Horizons : Type 0
Horizons =
    (m m' : ThreadMeaning) (opening : Opening) → IsActs m → IsPrompt m → IsKnown m (cut m.until opening) → IsSession m' opening → IsPartOf m m' → (world' : List Thread) → ending_of m' opening ≡ Ends world' →
    (world : List Thread) × (ending_of m (cut m.until opening) ≡ Ends world) × (total_of m world ≤ total_of m' world') × (score m (cut m.until opening) world ≡ lines_below m.until (score m' opening world'))

-- By one horizon what begins at or past it changes nothing, nor do texts to which nothing below it leads.
abbrev pub PartsSame : Type 0
PartsSame =
    (m m' : ThreadMeaning) (opening : Opening) → IsActs m → IsPrompt m → IsPrompt m' → IsKnown m (cut m.until opening) → IsSession m' (cut m'.until opening) → IsPartOf m m' → m.until ≡ m'.until →
    ((ending_of m (cut m.until opening) ≡ OverBudget) ↔ (ending_of m' (cut m'.until opening) ≡ OverBudget))
    × ((world world' : List Thread) → ending_of m (cut m.until opening) ≡ Ends world → ending_of m' (cut m'.until opening) ≡ Ends world' →
    (score m (cut m.until opening) world ≡ score m' (cut m'.until opening) world') × (living m world ≡ living m' world'))

-- Two sessions with one early part have one list of early events.
abbrev pub OnePart : Type 0
OnePart =
    (m m1 m2 : ThreadMeaning) (opening1 opening2 : Opening) → IsActs m → IsPrompt m → IsKnown m (cut m.until opening1) → IsSession m1 opening1 → IsSession m2 opening2 → IsPartOf m m1 → IsPartOf m m2 →
    cut m.until opening1 ≡ cut m.until opening2 → (world1 world2 : List Thread) → ending_of m1 opening1 ≡ Ends world1 → ending_of m2 opening2 ≡ Ends world2 →
    lines_below m.until (score m1 opening1 world1) ≡ lines_below m.until (score m2 opening2 world2)

-- So a score can be told piece by piece: with further and further horizons each begins the next, and all begin that of the whole.
abbrev pub Streams : Type 0
Streams =
    (m1 m2 m' : ThreadMeaning) (opening : Opening) → IsActs m1 → IsActs m2 → IsPrompt m1 → IsPrompt m2 → IsKnown m1 (cut m1.until opening) → IsKnown m2 (cut m2.until opening) → IsSession m' opening → IsPartOf m1 m' → IsPartOf m2 m' →
    NoLater m1.until m2.until → (world' : List Thread) → ending_of m' opening ≡ Ends world' →
    (world1 : List Thread) × (world2 : List Thread) × (rest : List EventView) × (last : List EventView) × (ending_of m1 (cut m1.until opening) ≡ Ends world1) × (ending_of m2 (cut m2.until opening) ≡ Ends world2)
    × (score m2 (cut m2.until opening) world2 ≡ score m1 (cut m1.until opening) world1 ++ rest) × (score m' opening world' ≡ score m2 (cut m2.until opening) world2 ++ last)

-- of two stores of two sessions what both have done of a thread at times below the limit is the same, and what one has done there below the front of the other the other has done too
abbrev pub AgreeThere : Fraction → ThreadMeaning → ThreadMeaning → Opening → List Thread → List Thread → Type 0
AgreeThere limit m m' opening' threads others =
    ((number other step : ℕ) (thread twin : Thread) (place at : Place) → slice_get threads number ≡ Some thread → slice_get others other ≡ Some twin → thread.start ≡ twin.start →
    step ≤ length (trace m thread) → step ≤ length (trace m' twin) → standing m thread.start (take step (trace m thread)) ≡ Ready place → standing m' twin.start (take step (trace m' twin)) ≡ Ready at →
    Earlier place.time limit → take step (trace m thread) ≡ take step (trace m' twin))
    × ((number step : ℕ) (thread : Thread) (entry : Entry) (place : Place) → slice_get threads number ≡ Some thread → slice_get (trace m thread) step ≡ Some entry → standing m thread.start (take step (trace m thread)) ≡ Ready place →
    Earlier place.time limit → Clear m' opening' others place →
    (at : ℕ) × (twin : Thread) × (done : Entry) × (slice_get others at ≡ Some twin) × (thread.start ≡ twin.start) × (take step (trace m thread) ≡ take step (trace m' twin)) × (slice_get (trace m' twin) step ≡ Some done) × (entry.step ≡ done.step))

-- **agreement of two sessions**, where each thread may write everything: so do two stores of sessions that share what stands below a time
abbrev pub SessionsAgree : Type 0
SessionsAgree =
    (limit : Fraction) (fit : Start → Bool) (known : EventView → Bool) (m m' : ThreadMeaning) (opening opening' : Opening) → IsSession m opening → IsSession m' opening' → AgreeBelow limit fit known m m' opening opening' →
    ((start : Start) (pattern : List Segment) → m.may start pattern ≡ true) → ((start : Start) (pattern : List Segment) → m'.may start pattern ≡ true) →
    (threads others : List Thread) → IsConsistent m opening threads → IsConsistent m' opening' others → AgreeThere limit m m' opening' threads others

-- what threads of the second session do at times below the limit, where they were fed by what stands there, is within the reach of the first one
pub record MayToo (limit : Fraction) (fit : Start → Bool) (known : EventView → Bool) (m m' : ThreadMeaning) : Type 0 where
  pub writes : (thread : Thread) (step : ℕ) (entry : Entry) (event : EventView) (pattern : List Segment) → IsFedBy fit known m' thread step → slice_get (trace m' thread) step ≡ Some entry → entry.step.action ≡ Some (Emit event) → Earlier event.place.time limit →
      matches_event pattern event ≡ true → m.may thread.start pattern ≡ true
  pub passes : (thread : Thread) (step : ℕ) (entry : Entry) (place : Place) (start : Start) (pattern : List Segment) → IsFedBy fit known m' thread step → slice_get (trace m' thread) step ≡ Some entry → entry.step.action ≡ Some (Spawn place start) → Earlier place.time limit →
      m.may start pattern ≡ true → m.may thread.start pattern ≡ true

-- **and with any reach**: where the sessions share what stands below the limit each way, and each one's reach has what the threads of the other do there
abbrev pub SessionsAgreeByReach : Type 0
SessionsAgreeByReach =
    (limit : Fraction) (fit : Start → Bool) (known : EventView → Bool) (m m' : ThreadMeaning) (opening opening' : Opening) → IsSession m opening → IsSession m' opening' →
    AgreeBelow limit fit known m m' opening opening' → AgreeBelow limit fit known m' m opening' opening → MayToo limit fit known m m' → MayToo limit fit known m' m →
    (threads others : List Thread) → IsConsistent m opening threads → IsConsistent m' opening' others → AgreeThere limit m m' opening' threads others

-- **no store has anything at or past the horizon**: no event, and no thread where it may go on
abbrev pub StoresWithin : Type 0
StoresWithin =
    (m : ThreadMeaning) (opening : Opening) → IsSession m opening → IsWithin m opening → (threads : List Thread) → IsConsistent m opening threads →
    ((event : EventView) → Happened m opening threads event → Earlier event.place.time m.until)
    × ((number step : ℕ) (thread : Thread) (place : Place) → slice_get threads number ≡ Some thread → step ≤ length (trace m thread) → standing m thread.start (take step (trace m thread)) ≡ Ready place → Earlier place.time m.until)
