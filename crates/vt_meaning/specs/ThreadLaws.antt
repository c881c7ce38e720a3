-- What the theory of stores asks of the meaning of a thread, and what a session begins with: own.
use Rattle.std.specs.Prelude.{◌≡◌, ◌⊎◌, ℕ, ◌+◌, ◌<◌, ◌≤◌, suc, List, [], ◌∷◌, ◌++◌, Bool, true, false, Option, Some, None, Contains, count_by, length, slice_get, take}
use Rattle.vt_event.specs.declared.place.Place.{Place}
use Rattle.vt_event.specs.Event.{EventView}
use Rattle.vt_run.specs.declared.action.Action.{Action}
use Rattle.vt_run.specs.declared.action.Action.TheVariants.{Spawn}
use Rattle.vt_run.specs.declared.action.Answer.{Answer}
use Rattle.vt_run.specs.declared.start.Start.{Start}
use Rattle.vt_run.specs.Evaluation.{Step}
use Rattle.vt_run.specs.Standing.{Ready, action_place}
use Rattle.vt_meaning.specs.Consistent.{IsExact}
use Rattle.vt_meaning.specs.Places.{Before}
use Rattle.vt_meaning.specs.Reach.{IsKnown, IsReach}
use Rattle.vt_meaning.specs.ThreadMeaning.{ThreadMeaning}
use Rattle.vt_meaning.specs.Traces.{Entry, Thread, is_ask, paired, stance_in, standing, trace}
use Rattle.vt_meaning.specs.World.{Opening, begun, one_more, told}

abbrev pub starts_one : Option Action → Bool
starts_one (Some (Spawn place start)) = true
starts_one _ = false

-- an entry that starts a thread
abbrev pub is_spawn : Entry → Bool
is_spawn entry = starts_one entry.step.action

-- The laws of the steps of a thread, for each start and all answers.
pub record AreActs (m : ThreadMeaning) : Type 0 where
  -- with n steps asked for there are at most n, and with one more these are the first of them
  pub short : (start : Start) (answers : List Answer) (n : ℕ) → length (m.acts start answers n) ≤ n
  pub longer : (start : Start) (answers : List Answer) (n : ℕ) → (rest : List Step) × (m.acts start answers (n + 1) ≡ m.acts start answers n ++ rest)
  -- one answer more takes no step back
  pub further : (start : Start) (answers : List Answer) (answer : Answer) (n : ℕ) → (rest : List Step) × (m.acts start (answers ++ answer ∷ []) n ≡ m.acts start answers n ++ rest)
  -- where there are fewer, the thread is not ready
  pub stops : (start : Start) (answers : List Answer) (n : ℕ) → length (m.acts start answers n) < n → (place : Place) → standing m start (paired (m.acts start answers n) answers) ≡ Ready place → ⊥
  -- each step is one of a thread that was ready, and its action stands where that was
  pub placed : (thread : Thread) (i : ℕ) (entry : Entry) → slice_get (trace m thread) i ≡ Some entry →
      (place : Place) × (standing m thread.start (take i (trace m thread)) ≡ Ready place) × ((action : Action) → entry.step.action ≡ Some action → action_place action ≡ place)
  -- no step is free
  pub costs : (start : Start) (answers : List Answer) (n i : ℕ) (step : Step) → slice_get (m.acts start answers n) i ≡ Some step → 1 ≤ step.cost
  -- who is started begins above the place of the Spawn, and has its starter's list with its number among those started
  pub later : (thread : Thread) (i : ℕ) (entry : Entry) (place : Place) (start : Start) → slice_get (trace m thread) i ≡ Some entry → entry.step.action ≡ Some (Spawn place start) → Before place start.place
  pub named : (thread : Thread) (i : ℕ) (entry : Entry) (place : Place) (start : Start) → slice_get (trace m thread) i ≡ Some entry → entry.step.action ≡ Some (Spawn place start) →
      start.place.thread ≡ thread.start.place.thread ++ suc (count_by is_spawn (take i (trace m thread))) ∷ []

-- .. and those of its reach
pub record IsActs (m : ThreadMeaning) : Type 0 where
  pub acts : AreActs m
  pub reach : IsReach m

-- the same, said of what threads did: the next step follows from the steps and answers before it, and only asks are answered
pub record IsLawful (m : ThreadMeaning) : Type 0 where
  pub same : (thread other : Thread) (i : ℕ) (entry twin : Entry) → thread.start ≡ other.start → take i (trace m thread) ≡ take i (trace m other) →
      slice_get (trace m thread) i ≡ Some entry → slice_get (trace m other) i ≡ Some twin → entry.step ≡ twin.step
  pub placed : (thread : Thread) (i : ℕ) (entry : Entry) → slice_get (trace m thread) i ≡ Some entry →
      (place : Place) × (standing m thread.start (take i (trace m thread)) ≡ Ready place) × ((action : Action) → entry.step.action ≡ Some action → action_place action ≡ place)
  pub plain : (thread : Thread) (i : ℕ) (entry : Entry) → slice_get (trace m thread) i ≡ Some entry → (is_ask entry.step.action ≡ true) ⊎ (entry.answer ≡ None)
  pub later : (thread : Thread) (i : ℕ) (entry : Entry) (place : Place) (start : Start) → slice_get (trace m thread) i ≡ Some entry → entry.step.action ≡ Some (Spawn place start) → Before place start.place
  pub reach : IsReach m

-- how what a thread did goes on: one that is ready has a next step, an answer changes nothing but the open ask, one that has begun did nothing
pub record IsLive (m : ThreadMeaning) : Type 0 where
  pub grows : (thread : Thread) (place : Place) → IsExact m thread → stance_in m thread ≡ Ready place →
      (entry : Entry) × (trace m (one_more thread) ≡ trace m thread ++ entry ∷ []) × (entry.answer ≡ None)
  pub replies : (thread : Thread) (answer : Answer) (entries : List Entry) (entry : Entry) → IsExact m thread → trace m thread ≡ entries ++ entry ∷ [] → is_ask entry.step.action ≡ true → entry.answer ≡ None →
      trace m (told answer thread) ≡ entries ++ record { step = entry.step; answer = Some answer } ∷ []
  pub nothing : (start : Start) → trace m (begun start) ≡ []
  pub costs : (thread : Thread) (i : ℕ) (entry : Entry) → slice_get (trace m thread) i ≡ Some entry → 1 ≤ entry.step.cost
  pub named : (thread : Thread) (i : ℕ) (entry : Entry) (place : Place) (start : Start) → slice_get (trace m thread) i ≡ Some entry → entry.step.action ≡ Some (Spawn place start) →
      start.place.thread ≡ thread.start.place.thread ++ suc (count_by is_spawn (take i (trace m thread))) ∷ []

-- the threads of texts have lists of one number
abbrev pub IsOrderly : Opening → Type 0
IsOrderly opening = (start : Start) → Contains opening.starts start → length start.place.thread ≡ 1

-- so have the given events, each with a place of its own, in a list of no text
pub record IsGivenApart (opening : Opening) : Type 0 where
  pub one : (event : EventView) → Contains opening.given event → length event.place.thread ≡ 1
  pub no_text : (event : EventView) (start : Start) → Contains opening.given event → Contains opening.starts start → event.place.thread ≡ start.place.thread → ⊥
  pub apart : (event other : EventView) → Contains opening.given event → Contains opening.given other → event.place ≡ other.place → event ≡ other

-- no two texts have one list
abbrev pub IsStartsApart : Opening → Type 0
IsStartsApart opening = (number other : ℕ) (start twin : Start) → slice_get opening.starts number ≡ Some start → slice_get opening.starts other ≡ Some twin → start.place.thread ≡ twin.place.thread → number ≡ other

-- a session of which the theorems speak
pub record IsSession (m : ThreadMeaning) (opening : Opening) : Type 0 where
  pub acts : IsActs m
  pub orderly : IsOrderly opening
  pub given : IsGivenApart opening
  pub texts : IsStartsApart opening
  pub known : IsKnown m opening
