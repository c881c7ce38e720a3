-- Where a thread stands from step to step: the place of its next action, and the answers that it has left. The project's own.
use Rattle.std.specs.Prelude.{◌+◌, List, [], ◌∷◌, Bool, true, false, cond, not, is_some, Option, Some, None}
use Rattle.vt_frac.specs.Arithmetic.{sum_of}
use Rattle.vt_frac.specs.Fraction.{Fraction}
use Rattle.vt_path.specs.declared.pattern.Segment.{Segment}
use Rattle.vt_ring.specs.Exact.{is_positive}
use Rattle.vt_event.specs.declared.place.Place.{Place}
use Rattle.vt_run.specs.declared.action.Action.{Action}
use Rattle.vt_run.specs.declared.action.Action.TheVariants.{Emit, Rest, Read, Wait, Spawn, End}
use Rattle.vt_run.specs.declared.action.Answer.{Answer}
use Rattle.vt_run.specs.declared.action.Answer.TheVariants.{Nothing, Found}
use Rattle.vt_run.specs.declared.start.Start.{Start}
use Rattle.vt_run.specs.Actions.{is_past}
use Rattle.vt_run.specs.Evaluation.{Step}
use Rattle.vt_run.specs.Pieces.{actions_of}

-- the place of a thread's next action, and the answers that it has not used yet
pub record Stand : Type 0 where
  pub place : Place
  pub answers : List Answer

abbrev pub next_step : Place → Place
next_step place = record place { step = place.step + 1 }

-- a rest of a positive amount moves the place on in time
abbrev pub place_rested : Fraction → Place → Place
place_rested seconds place = cond (is_positive seconds) (record place { time = sum_of place.time seconds; micro = 0 }) place

abbrev pub left_of : List Answer → List Answer
left_of [] = []
left_of (answer ∷ answers) = answers

-- a wait moves the place to that of the event that answered it, one micro step later
abbrev pub place_woken : List Answer → Place → Place
place_woken (Found event ∷ answers) place = record place { time = event.place.time; micro = event.place.micro + 1 }
place_woken _ place = place

-- where a thread stands after an action
abbrev pub stand_after : Action → Stand → Stand
stand_after (Rest place seconds) stand = record { place = next_step (place_rested seconds stand.place); answers = stand.answers }
stand_after (Read place pattern) stand = record { place = next_step stand.place; answers = left_of stand.answers }
stand_after (Wait place pattern stop) stand = record { place = next_step (place_woken stand.answers stand.place); answers = left_of stand.answers }
stand_after _ stand = record { place = next_step stand.place; answers = stand.answers }

abbrev pub stand_after_all : List Action → Stand → Stand
stand_after_all [] stand = stand
stand_after_all (action ∷ actions) stand = stand_after_all actions (stand_after action stand)

-- where a thread stands after these steps, with the answers that it has left
abbrev pub stand_of : Start → List Answer → List Step → Stand
stand_of start answers steps = stand_after_all (actions_of steps) (record { place = start.place; answers = answers })

-- the place of the next action of a thread after these steps, also where it may never act again
abbrev pub next_place : Start → List Answer → List Step → Place
next_place start answers steps = (stand_of start answers steps).place

-- the place of an action
abbrev pub action_place : Action → Place
action_place (Emit event) = event.place
action_place (Rest place seconds) = place
action_place (Read place pattern) = place
action_place (Wait place pattern stop) = place
action_place (Spawn place start) = place
action_place (End place reason) = place

-- a wait is answered by an event with a path
abbrev pub wakes : List Answer → Bool
wakes [] = false
wakes (Nothing ∷ answers) = false
wakes (Found event ∷ answers) = is_some event.path

abbrev pub is_one_left : List Answer → Bool
is_one_left [] = false
is_one_left (answer ∷ answers) = true

-- Whether an action is the last of its thread, with these answers left: a rest to a time at or past the horizon, a read that has no answer, a wait that nothing wakes, an end.
abbrev pub is_last : Fraction → List Answer → Action → Bool
is_last until answers (Emit event) = false
is_last until answers (Rest place seconds) = is_past until (sum_of place.time seconds)
is_last until answers (Read place pattern) = not (is_one_left answers)
is_last until answers (Wait place pattern stop) = not (wakes answers)
is_last until answers (Spawn place start) = false
is_last until answers (End place reason) = true

abbrev pub is_last_step : Fraction → List Answer → Option Action → Bool
is_last_step until answers None = false
is_last_step until answers (Some action) = is_last until answers action

-- where a thread stands, as those see it that order many threads
pub data Stance : Type 0 where
  -- its next action is at this place, if it acts again
  Ready : Place → Stance
  -- it asked at this place for the last event that the pattern matches
  Asks : Place → List Segment → Stance
  -- it waits from this place for the next event that the pattern matches, or that the second pattern matches, if there is one
  Waits : Place → List Segment → Option (List Segment) → Stance
  -- it rests to this time, at or past the horizon
  Asleep : Fraction → Stance
  -- it has ended, or its wait was answered by what wakes nothing
  Over : Stance

-- after a rest: the thread sleeps past the horizon, or goes on
abbrev pub stance_rested : Bool → Fraction → Place → Stance
stance_rested true time next = Asleep time
stance_rested false time next = Ready next

-- after a read: it is answered, or asked
abbrev pub stance_asking : Bool → Place → List Segment → Place → Stance
stance_asking true place pattern next = Ready next
stance_asking false place pattern next = Asks place pattern

-- after a wait: nothing has answered it; or what did wakes the thread, or does not
abbrev pub stance_waiting : Bool → Bool → Place → List Segment → Option (List Segment) → Place → Stance
stance_waiting false awake place pattern stop next = Waits place pattern stop
stance_waiting true false place pattern stop next = Over
stance_waiting true true place pattern stop next = Ready next

-- the stance after an action, by the answers that are left before it and the place of the next action behind it
abbrev pub stance_after : Fraction → Action → List Answer → Place → Stance
stance_after until (Emit event) answers next = Ready next
stance_after until (Rest place seconds) answers next = stance_rested (is_past until (sum_of place.time seconds)) (sum_of place.time seconds) next
stance_after until (Read place pattern) answers next = stance_asking (is_one_left answers) place pattern next
stance_after until (Wait place pattern stop) answers next = stance_waiting (is_one_left answers) (wakes answers) place pattern stop next
stance_after until (Spawn place start) answers next = Ready next
stance_after until (End place reason) answers next = Over

-- the stance behind these actions, from this stand on; where there is none, the one before them
abbrev pub stance_of : Fraction → Stance → List Action → Stand → Stance
stance_of until stance [] stand = stance
stance_of until stance (action ∷ actions) stand =
    stance_of until (stance_after until action stand.answers (stand_after action stand).place) actions (stand_after action stand)

-- where a thread stands after these steps, with these answers
abbrev pub stands_at : Start → List Answer → List Step → Stance
stands_at start answers steps = stance_of start.until (Ready start.place) (actions_of steps) (record { place = start.place; answers = answers })
