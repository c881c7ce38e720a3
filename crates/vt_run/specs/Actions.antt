-- The actions of a thread, each at its place. Rests and waits are after FARM 2014 and the Sonic Pi tutorial, chapters 5 and 10; micro steps, faults and ends are own.
use Rattle.std.specs.Prelude.{ℕ, ◌+◌, List, [], ◌∷◌, Bool, true, false, ◌&&◌, bytes_eq, cond, Option, Some, None, Result, Ok, Err, slice_get}
use Rattle.vt_frac.specs.Arithmetic.{sum_of}
use Rattle.vt_frac.specs.Fraction.{Fraction}
use Rattle.vt_path.specs.Inner.{inner_of, kind_word}
use Rattle.vt_path.specs.Match.{literal_of}
use Rattle.vt_path.specs.declared.inner_path.InnerKind.TheVariants.{Named as NamedPath, Looped as LoopedPath, Stop as StopPath}
use Rattle.vt_path.specs.declared.pattern.Segment.{Segment}
use Rattle.vt_ring.specs.Exact.{is_positive}
use Rattle.vt_value.specs.declared.comparison.OrderOp.TheVariants.{Ge}
use Rattle.vt_value.specs.declared.fault.FaultKind.{FaultKind}
use Rattle.vt_value.specs.declared.value.Value.TheVariants.{Nil}
use Rattle.vt_value.specs.Comparison.{holds, value_cmp}
use Rattle.vt_event.specs.declared.place.Place.{Place}
use Rattle.vt_event.specs.Event.{EventView}
use Rattle.vt_event.specs.EventsByKind.{ended_event, fault_event, took_event}
use Rattle.vt_run.specs.declared.action.Action.TheVariants.{Emit, Rest, Read, Wait, End}
use Rattle.vt_run.specs.declared.action.Answer.{Answer}
use Rattle.vt_run.specs.declared.action.Answer.TheVariants.{Nothing, Found}
use Rattle.vt_run.specs.declared.action.EndReason.{EndReason}
use Rattle.vt_run.specs.declared.action.EndReason.TheVariants.{Faulted, Stopped}
use Rattle.vt_run.specs.declared.role.Role.{Role}
use Rattle.vt_run.specs.declared.role.Role.TheVariants.{Plain, Named, Looped, Timed}
use Rattle.vt_run.specs.declared.state.State.{State}
use Rattle.vt_run.specs.Costs.{emit_cost}
use Rattle.vt_run.specs.Environment.{Env}
use Rattle.vt_run.specs.Evaluation.{Ran, Spot, gives, halts, does}

-- the place of the next action
abbrev pub place_of : Env → State → Place
place_of env st = record { time = st.time; micro = st.micro; thread = env.start.place.thread; step = st.step }

-- after an action: the actions of a thread are numbered from 1
abbrev pub acted : State → State
acted st = record st { step = st.step + 1 }

-- an event is published where the thread stands
abbrev pub emits : (Place → EventView) → Env → State → (State → Ran) → Ran
emits event env st go = does (emit_cost (event (place_of env st))) (Emit (event (place_of env st))) (go (acted st))

-- events, one after another
abbrev pub emits_all : List (Place → EventView) → Env → State → (State → Ran) → Ran
emits_all [] env st go = go st
emits_all (event ∷ events) env st go = emits event env st (λ st. emits_all events env st go)

-- the time after so many seconds more
abbrev pub time_after : Fraction → State → Fraction
time_after seconds st = sum_of st.time seconds

-- a rest of a positive amount takes the thread to its new time, at micro step 0; a rest of 0 changes neither
abbrev pub rested : Fraction → State → State
rested seconds st = cond (is_positive seconds) (record st { time = time_after seconds st; micro = 0; moved = true }) st

-- a time at or past the horizon
abbrev pub is_past : Fraction → Fraction → Bool
is_past until time = holds Ge (value_cmp time until)

-- a rest of so many seconds: the list ends where it reaches a time at or past the horizon
abbrev pub rests : Fraction → Env → State → Ran
rests seconds env st =
    does 1 (Rest (place_of env st) seconds)
    (cond (is_past env.start.until (time_after seconds st)) halts (gives Nil (rested seconds (acted st))))

-- what an answer leads to: it is used; where there is none, the list ends
abbrev pub answered : Option Answer → State → (Answer → State → Ran) → Ran
answered None st go = halts
answered (Some answer) st go = go answer (record st { used = st.used + 1 })

-- of the events below the thread's place the last one that the pattern matches is asked for
abbrev pub reads : List Segment → Env → State → (Answer → State → Ran) → Ran
reads pattern env st go = does 1 (Read (place_of env st) pattern) (answered (slice_get env.answers st.used) (acted st) go)

-- the pattern of the stop of this live loop; no other thread can be stopped from outside
abbrev pub stop_pattern : Role → Option (List Segment)
stop_pattern (Looped name wait init) = Some (literal_of (inner_of StopPath name))
stop_pattern _ = None

-- a thread that waited is at the time of the event, one micro step later
abbrev pub woken : Place → State → State
woken place st = record st { time = place.time; micro = place.micro + 1; moved = true }

-- what comes next of the event that answers a wait, with its path; an event without a path wakes nothing
abbrev pub wakes_with : Option (List (List ℕ)) → EventView → State → (List (List ℕ) → EventView → State → Ran) → Ran
wakes_with None event st go = halts
wakes_with (Some path) event st go = go path event (woken event.place st)

abbrev pub wakes_by : Answer → State → (List (List ℕ) → EventView → State → Ran) → Ran
wakes_by Nothing st go = halts
wakes_by (Found event) st go = wakes_with event.path event st go

-- the next event that the pattern matches is waited for; in the thread of a live loop the next stop of that loop too
abbrev pub waits : List Segment → Env → State → (List (List ℕ) → EventView → State → Ran) → Ran
waits pattern env st go =
    does 1 (Wait (place_of env st) pattern (stop_pattern env.start.role))
    (answered (slice_get env.answers st.used) (acted st) (λ answer st. wakes_by answer st go))

-- the path at which a thread that was started by a name tells of its start and of its end
abbrev pub name_path : Role → Option (List (List ℕ))
name_path Plain = None
name_path (Named name) = Some (inner_of NamedPath name)
name_path (Looped name wait init) = Some (inner_of LoopedPath name)
name_path (Timed rest given line) = None

abbrev pub tells_end : Option (List (List ℕ)) → Env → State → (State → Ran) → Ran
tells_end None env st go = go st
tells_end (Some path) env st go = emits (λ place. ended_event place path) env st go

-- the thread ends; one that was started by a name tells so before
abbrev pub ends : EndReason → Env → State → Ran
ends reason env st = tells_end (name_path env.start.role) env st (λ st. does 1 (End (place_of env st) reason) halts)

-- the path is that of the stop of this name
abbrev pub is_stop_of : List ℕ → List (List ℕ) → Bool
is_stop_of name (word ∷ other ∷ []) = bytes_eq word (kind_word StopPath) && bytes_eq other name
is_stop_of name _ = false

-- the path is that of the stop of the thread, where it is the thread of a live loop
abbrev pub is_own_stop : Role → List (List ℕ) → Bool
is_own_stop (Looped name wait init) path = is_stop_of name path
is_own_stop _ path = false

-- The event is taken: that is told by an event of its own, and its value is given. A stop of the thread ends it instead.
abbrev pub takes : List (List ℕ) → EventView → Env → State → Ran
takes path event env st =
    cond (is_own_stop env.start.role path)
    (ends Stopped env st)
    (emits (λ place. took_event place path event.value) env st (gives event.value))

-- `sync`: a wait, and what it takes
abbrev pub syncs : List Segment → Env → State → Ran
syncs pattern env st = waits pattern env st (λ path event st. takes path event env st)

-- a fault, on the line of the innermost statement, ends this thread alone
abbrev pub fails : FaultKind → Env → Spot → State → Ran
fails kind env at st = emits (λ place. fault_event place kind at.line) env st (λ st. ends Faulted env st)

-- what comes next of the value; a fault ends the thread
abbrev pub or_fails : {A : Type 0} → Result A FaultKind → Env → Spot → State → (A → Ran) → Ran
or_fails (Ok value) env at st go = go value
or_fails (Err kind) env at st go = fails kind env at st
