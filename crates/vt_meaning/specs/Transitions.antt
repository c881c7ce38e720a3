-- A transition of a world: the thread with the least place does one evaluation step, or gets the answer for which it asked. After FARM 2014, with cues and the time state.
--
-- A round is some transitions: the steps of one thread up to and with its next action, and where that is a read, its answer. A step without an action leaves its thread where it stands, so that the same thread goes on next too.
use Rattle.std.specs.Prelude.{ℕ, zero, suc, List, [], ◌∷◌, length, Option, Some, None, slice_get}
use Rattle.vt_event.specs.declared.place.Place.{Place}
use Rattle.vt_event.specs.Event.{EventView}
use Rattle.vt_run.specs.declared.action.Action.{Action}
use Rattle.vt_run.specs.declared.action.Answer.TheVariants.{Found}
use Rattle.vt_run.specs.Standing.{Stance, Ready, Asks, Waits, Asleep, Over}
use Rattle.vt_meaning.specs.LookUps.{answer_of, first_above, last_below}
use Rattle.vt_meaning.specs.ThreadMeaning.{ThreadMeaning, with_stop}
use Rattle.vt_meaning.specs.Traces.{Entry, Thread, stance_in, trace}
use Rattle.vt_meaning.specs.World.{Opening, World, events_of, moved_on, one_more, told}

abbrev pub action_at : List Entry → ℕ → Option Action
action_at [] number = None
action_at (entry ∷ entries) zero = entry.step.action
action_at (entry ∷ entries) (suc number) = action_at entries number

-- the action of the step that a thread does next, if there is one
abbrev pub next_action : ThreadMeaning → Thread → Option Action
next_action m thread = action_at (trace m (one_more thread)) (length (trace m thread))

-- a wait is answered by the event that it waited for
abbrev pub woken_in : World → ℕ → Thread → Option EventView → World
woken_in world number thread None = world
woken_in world number thread (Some event) = moved_on world number (told (Found event) thread) None

-- what a transition of the thread with this number, which stands so, leaves: a step is done, and a thread that it starts is there; or an ask is answered
abbrev pub transition_by : ThreadMeaning → Opening → World → ℕ → Thread → Stance → World
transition_by m opening world number thread (Ready place) = moved_on world number (one_more thread) (next_action m thread)
transition_by m opening world number thread (Asks place pattern) =
    moved_on world number (told (answer_of (last_below (events_of m opening world) place pattern)) thread) None
transition_by m opening world number thread (Waits place pattern stop) =
    woken_in world number thread (first_above (events_of m opening world) place (with_stop pattern stop))
transition_by m opening world number thread (Asleep time) = world
transition_by m opening world number thread Over = world

abbrev pub transition_of : ThreadMeaning → Opening → World → ℕ → Option Thread → World
transition_of m opening world number None = world
transition_of m opening world number (Some thread) = transition_by m opening world number thread (stance_in m thread)

-- the world after the transition of the thread that goes on soonest
abbrev pub after_transition : ThreadMeaning → Opening → World → ℕ × Place → World
after_transition m opening world next = transition_of m opening world next.0 (slice_get world next.0)
