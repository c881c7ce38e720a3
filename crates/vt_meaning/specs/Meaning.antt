-- The meaning of a session: transitions from the opening world until no thread goes on, or until the budget is spent. After FARM 2014, extended by cues and the time state; costs and the budget are own.
use Rattle.std.specs.Prelude.{ℕ, zero, suc, ◌+◌, ◌*◌, List, [], ◌∷◌, ◌++◌, Bool, cond, nat_lt, Option, Some, None}
use Rattle.std.specs.Ordering.{is_lt}
use Rattle.vt_event.specs.declared.place.Place.{Place}
use Rattle.vt_event.specs.declared.score.Living.{Living}
use Rattle.vt_event.specs.declared.score.LivingState as State
use Rattle.vt_event.specs.declared.score.LivingState.{LivingState}
use Rattle.vt_event.specs.declared.score.Outcome.{Outcome}
use Rattle.vt_event.specs.declared.score.Outcome.TheVariants.{Scored, Spent}
use Rattle.vt_event.specs.declared.score.Score.{Score}
use Rattle.vt_event.specs.Event.{EventView}
use Rattle.vt_event.specs.Order.{thread_order}
use Rattle.vt_run.specs.Standing.{Stance, Ready, Asks, Waits, Asleep, Over}
use Rattle.vt_meaning.specs.NextPlaces.{next_of}
use Rattle.vt_meaning.specs.Places.{is_before}
use Rattle.vt_meaning.specs.Session.{Key, opening_of, threads_of}
use Rattle.vt_meaning.specs.ThreadMeaning.{ThreadMeaning}
use Rattle.vt_meaning.specs.Traces.{stance_in}
use Rattle.vt_meaning.specs.Transitions.{after_transition}
use Rattle.vt_meaning.specs.World.{Opening, World, events_of, opening_world, total_of}

-- One more is put among those that are in order: in front of the first that comes after it. Where one stands at its place already, that one stays and the new one is left out.
abbrev pub put_in : {A : Type 0} → (A → A → Bool) → A → List A → List A
put_in before x [] = x ∷ []
put_in before x (y ∷ ys) = cond (before y x) (y ∷ put_in before x ys) (cond (before x y) (x ∷ y ∷ ys) (y ∷ ys))

abbrev pub in_order : {A : Type 0} → (A → A → Bool) → List A → List A
in_order before [] = []
in_order before (x ∷ xs) = put_in before x (in_order before xs)

-- events stand in order of place
abbrev pub is_event_before : EventView → EventView → Bool
is_event_before event other = is_before event.place other.place

-- threads that live on stand in order of their lists
abbrev pub is_living_before : Living → Living → Bool
is_living_before living other = is_lt (thread_order living.thread other.thread)

-- how a thread that stands so lives on: asleep past the horizon, or waiting for a match of its own pattern
abbrev pub state_in : Stance → Option LivingState
state_in (Ready place) = None
state_in (Asks place pattern) = None
state_in (Waits place pattern stop) = Some (State.TheVariants.Waiting pattern)
state_in (Asleep time) = Some (State.TheVariants.Asleep time)
state_in Over = None

abbrev pub living_by : List ℕ → Option LivingState → List Living
living_by thread None = []
living_by thread (Some state) = record { thread = thread; state = state } ∷ []

-- the threads that live on
abbrev pub living_in : ThreadMeaning → World → List Living
living_in m [] = []
living_in m (thread ∷ threads) = living_by thread.start.place.thread (state_in (stance_in m thread)) ++ living_in m threads

-- all that happened in order of place, and the threads that live on in order of their lists
unfoldable pub score_of : ThreadMeaning → Opening → World → Score
score_of m opening world = record {
  events = in_order is_event_before (events_of m opening world);
  living = in_order is_living_before (living_in m world);
}

-- what a world comes to: its cost goes above the budget, or a world in which no thread goes on
pub data Ending : Type 0 where
  OverBudget : Ending
  Ends : World → Ending

-- no thread goes on, or the one with the least place has its transition, and the rest comes after it
abbrev pub goes_on : (World → Ending) → ThreadMeaning → Opening → World → Option (ℕ × Place) → Ending
goes_on rest m opening world None = Ends world
goes_on rest m opening world (Some next) = rest (after_transition m opening world next)

-- what a world comes to in at most n transitions: it is spent as soon as its total is above the budget
abbrev pub transitions : ThreadMeaning → Opening → ℕ → World → Ending
transitions m opening zero world = OverBudget
transitions m opening (suc n) world =
    cond (nat_lt opening.budget (total_of m world)) OverBudget
    (goes_on (transitions m opening n) m opening world (next_of m opening world))

-- Each transition does a step, which costs at least 1, or answers the ask that a step made: so with this many transitions no session runs out of them before its budget is spent.
abbrev pub enough_transitions : ℕ → ℕ
enough_transitions budget = 2 * budget + 2

-- what the opening world comes to
unfoldable pub ending_of : ThreadMeaning → Opening → Ending
ending_of m opening = transitions m opening (enough_transitions opening.budget) (opening_world opening)

-- spent, or the score of the world that was come to
abbrev pub outcome_of : ThreadMeaning → Opening → Ending → Outcome
outcome_of m opening OverBudget = Spent
outcome_of m opening (Ends world) = Scored (score_of m opening world)

-- what threads with this meaning come to from this opening
unfoldable pub meaning_by : ThreadMeaning → Opening → Outcome
meaning_by m opening = outcome_of m opening (ending_of m opening)

-- what a session means
unfoldable pub meaning : Key → Outcome
meaning key = meaning_by (threads_of key.texts key.options.until) (opening_of key)
