-- What the thread of a live loop does. That it is a named loop whose body may be replaced, and takes the new one at its next turn, is after the Sonic Pi tutorial, chapters 5 and 9; the cue of each turn, the stop, the reads and the costs are own.
use Rattle.std.specs.Prelude.{ℕ, zero, suc, List, [], ◌∷◌, Bool, false, cond, codes, Option, Some, None}
use Rattle.vt_path.specs.declared.inner_path.InnerKind.TheVariants.{Body as BodyPath, Stop as StopPath}
use Rattle.vt_path.specs.declared.pattern.Segment.{Segment}
use Rattle.vt_path.specs.Inner.{inner_of}
use Rattle.vt_path.specs.Match.{literal_of}
use Rattle.vt_value.specs.declared.comparison.OrderOp.TheVariants.{Gt}
use Rattle.vt_value.specs.declared.value.Value.{Value}
use Rattle.vt_value.specs.declared.value.Value.TheVariants.{Ring}
use Rattle.vt_value.specs.Comparison.{holds}
use Rattle.vt_event.specs.declared.place.Place.{Place}
use Rattle.vt_event.specs.EventsByKind.{cue_event}
use Rattle.vt_event.specs.Order.{place_order}
use Rattle.vt_run.specs.declared.action.Answer.{Answer}
use Rattle.vt_run.specs.declared.action.Answer.TheVariants.{Nothing, Found}
use Rattle.vt_run.specs.declared.action.EndReason.TheVariants.{Stopped}
use Rattle.vt_run.specs.declared.state.State.{State}
use Rattle.vt_run.specs.Actions.{emits, ends, reads, syncs}
use Rattle.vt_run.specs.Costs.{pair_sizes}
use Rattle.vt_run.specs.Environment.{Env}
use Rattle.vt_run.specs.calls.FunctionCalls.{FoundBody, body_found, runs_found}
use Rattle.vt_run.specs.Evaluation.{Next, Ran, Spot, halts, after, charges, tick}
use Rattle.vt_run.specs.calls.LoopCalls.{turn_begun, unless_idle}

-- the body of a turn stands at depth 0, on the line of the statement that it belongs to
abbrev pub turn_spot : FoundBody → Spot
turn_spot found = record { depth = 0; line = found.line }

-- The body that a turn found, with the copy of its locals and with this value for its parameter; then the turns after it, which get its value. A live loop whose body is not found stops.
abbrev pub turn_of : Option FoundBody → Value → Env → State → Next → Ran
turn_of None value env st go = ends Stopped env st
turn_of (Some found) value env st go =
    charges (pair_sizes found.locals)
    (after (runs_found found (value ∷ []) (turn_spot found) st) (λ value end. unless_idle env (turn_spot found) end (go value)))

-- what a turn does where it is not stopped: it tells that it begins, and reads which body it runs
abbrev pub turn_body : List ℕ → Value → Env → State → Next → Ran
turn_body name value env st go =
    emits (λ place. cue_event place (codes "live_loop" ∷ name ∷ []) (Ring [])) env st (λ st.
    reads (literal_of (inner_of BodyPath name)) env st (λ answer st.
    turn_of (body_found env answer) value env st go))

-- the last stop that was told stands above the place at which the thread started
abbrev pub is_stopped : Place → Answer → Bool
is_stopped start Nothing = false
is_stopped start (Found event) = holds Gt (place_order event.place start)

-- where it was stopped, the thread ends as by `stop`
abbrev pub stops_or : Answer → Env → State → Ran → Ran
stops_or answer env st ran = cond (is_stopped env.start.place answer) (ends Stopped env st) ran

-- at most so many turns, the first with this value: each reads whether the loop was stopped, and only then begins
abbrev pub live_turns : ℕ → List ℕ → Env → Next
live_turns zero name env value st = halts
live_turns (suc n) name env value st =
    tick
    (reads (literal_of (inner_of StopPath name)) env (turn_begun st) (λ answer st.
    stops_or answer env st (turn_body name value env st (live_turns n name env))))

-- what a live loop waits for before its first turn
abbrev pub waits_first : Option (List Segment) → Env → State → (State → Ran) → Ran
waits_first None env st go = go st
waits_first (Some pattern) env st go = after (syncs pattern env st) (λ value st. go st)
