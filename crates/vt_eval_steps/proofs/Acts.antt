-- Actions, as steps on a way.
use Rattle.std.proofs.Common.{◌≡◌, ◌⊎◌, ◌<◌, ◌≤◌, ◌-◌, ◌^◌, ◌+◌, ℕ, List, [], ◌∷◌, ◌++◌, Bool, true, false, cond, Option, Some, None, Result, Ok, Err, refl, sym, ap, ◌∙◌, subst, arith}
use Rattle.std.specs.Prelude.{nat_lt, slice_get}
use Rattle.std.proofs.lemmas.Bool.Decides.{nat_tests}
use Rattle.vt_event.specs.declared.place.Place.{Place}
use Rattle.vt_event.specs.Event.{EventView}
use Rattle.vt_path.specs.declared.pattern.Segment.{Segment}
use Rattle.vt_value.specs.declared.fault.FaultKind.{FaultKind}
use Rattle.vt_value.specs.declared.value.Value.{Value}
use Rattle.vt_event.specs.EventsByKind.{ended_event, fault_event, took_event}
use Rattle.vt_run.specs.Actions.{acted, answered, emits, ends, fails, is_own_stop, name_path, or_fails, place_of, reads, stop_pattern, takes, tells_end, waits, wakes_by, wakes_with, woken}
use Rattle.vt_run.specs.Costs.{emit_cost}
use Rattle.vt_run.specs.Environment.{Env}
use Rattle.vt_run.specs.Evaluation.{Ran, Spot, does, gives, halts}
use Rattle.vt_run.specs.Notes.{IsOver, Notes, finished}
use Rattle.vt_run.specs.declared.action.Action.{Action}
use Rattle.vt_run.specs.declared.action.Action.TheVariants.{Emit, End, Read, Wait}
use Rattle.vt_run.specs.declared.action.Answer.{Answer}
use Rattle.vt_run.specs.declared.action.EndReason.{EndReason}
use Rattle.vt_run.specs.declared.action.EndReason.TheVariants.{Faulted, Stopped}
use Rattle.vt_run.specs.declared.state.State.{State}
use Rattle.vt_effects.specs.Results.{place_in}
use Rattle.vt_eval_steps.specs.Making.{ComesOn, Makes, WokenOn}
use Rattle.vt_eval_steps.specs.Numbers.{Micro}
use Rattle.vt_eval_steps.proofs.Ways.{makes_at, makes_exceeds, makes_halt, makes_trans}

pub not_small : (n : ℕ) → (n + 1 < 4294967296 → ⊥) → 2 ^ 32 ≤ n + 1
not_small n h = omega (arith, h)

-- where the thread stands, by its own list
pub place_at : (thread : List ℕ) (env : Env) (st : State) (place : Place) → place ≡ place_in thread st → thread ≡ env.start.place.thread → place ≡ place_of env st
place_at thread env st place is same = is ∙ ap (λ t. place_in t st) same

-- an event that stands there
pub event_at : (make : Place → EventView) (thread : List ℕ) (env : Env) (st : State) (event : EventView) → event ≡ make (place_in thread st) → thread ≡ env.start.place.thread → event ≡ make (place_of env st)
event_at make thread env st event is same = is ∙ ap (λ t. make (place_in t st)) same

-- an event that is published is the one that a definition speaks of
pub emits_by : (event : EventView) (make : Place → EventView) (env : Env) (st end : State) (old new : Notes) → event ≡ make (place_of env st) →
    ((go : State → Ran) → Makes (does (emit_cost event) (Emit event) (go (acted st))) old (go end) new) →
    (go : State → Ran) → Makes (emits make env st go) old (go end) new
emits_by event make env st end old new same way go = subst (λ (e : EventView). Makes (does (emit_cost e) (Emit e) (go (acted st))) old (go end) new) same (way go)

-- the end of a thread: it is told, and made, and then nothing more is noted
pub ends_by : (reason : EndReason) (env : Env) (st told fin : State) (place : Place) (old mid later new : Notes) →
    ((go : State → Ran) → Makes (tells_end (name_path env.start.role) env st go) old (go told) mid) →
    place ≡ place_of env told →
    ((go : State → Ran) → Makes (does 1 (End place reason) (go (acted told))) mid (go fin) later) →
    new ≡ finished later →
    (to : Ran) → Makes (ends reason env st) old to new
ends_by reason env st told fin place old mid later new tells here ended same to =
    makes_trans (tells (λ st. does 1 (End (place_of env st) reason) halts))
    (makes_trans (subst (λ p. Makes (does 1 (End p reason) halts) mid halts later) here (ended (λ st. halts))) (makes_halt later new same to))

-- a fault: its event, and the end
pub fails_by : (kind : FaultKind) (env : Env) (at : Spot) (st told : State) (old mid new : Notes) →
    ((go : State → Ran) → Makes (emits (λ place. fault_event place kind at.line) env st go) old (go told) mid) →
    ((to : Ran) → Makes (ends Faulted env told) mid to new) →
    (to : Ran) → Makes (fails kind env at st) old to new
fails_by kind env at st told old mid new emitted ended to = makes_trans (emitted (λ st. ends Faulted env st)) (ended to)

-- what is asked, and what comes of its answer
pub asks_by : (action good : Action) (answers : List Answer) (st asked : State) (old mid : Notes) → action ≡ good →
    ((go : State → Ran) → Makes (does 1 action (go (acted st))) old (go asked) mid) →
    (go : Answer → State → Ran) → Makes (does 1 good (answered (slice_get answers st.used) (acted st) go)) old (answered (slice_get answers asked.used) asked go) mid
asks_by action good answers st asked old mid same way go =
    subst (λ (a : Action). Makes (does 1 a (answered (slice_get answers st.used) (acted st) go)) old (answered (slice_get answers asked.used) asked go) mid) same
    (way (λ s. answered (slice_get answers s.used) s go))

pub comes_on : {A : Type 0} (found : Option A) (asks later : (A → State → Ran) → Ran) (old mid new : Notes) (end : State) →
    ((go : A → State → Ran) → Makes (asks go) old (later go) mid) → ComesOn found later mid end new → ComesOn found asks old end new
comes_on (Some a) asks later old mid new end p q = λ go. makes_trans (p go) (q go)
comes_on None asks later old mid new end p q = λ go to. makes_trans (p go) (q go to)

-- a thread that ends later than micro steps have numbers
pub ends_exceeds : (reason : EndReason) (env : Env) (st : State) (old new : Notes) (to : Ran) → (IsOver old → ⊥) → old.count ≤ 4096 → 2 ^ 32 ≤ st.micro → Makes (ends reason env st) old to new
ends_exceeds reason env st old new to goes_on few great = by_path (name_path env.start.role)
  where
    by_path : (path : Option (List (List ℕ))) → Makes (tells_end path env st (λ st. does 1 (End (place_of env st) reason) halts)) old to new
    by_path None = makes_exceeds 1 (End (place_of env st) reason) halts old new to goes_on few (Micro great)
    by_path (Some path) = makes_exceeds _ (Emit (ended_event (place_of env st) path)) _ old new to goes_on few (Micro great)

-- what is taken there
pub takes_exceeds : (path : List (List ℕ)) (event : EventView) (env : Env) (st : State) (old new : Notes) (to : Ran) → (IsOver old → ⊥) → old.count ≤ 4096 → 2 ^ 32 ≤ st.micro → Makes (takes path event env st) old to new
takes_exceeds path event env st old new to goes_on few great = by_own (is_own_stop env.start.role path)
  where
    by_own : (own : Bool) → Makes (cond own (ends Stopped env st) (emits (λ place. took_event place path event.value) env st (gives event.value))) old to new
    by_own true = ends_exceeds Stopped env st old new to goes_on few great
    by_own false = makes_exceeds _ (Emit (took_event (place_of env st) path event.value)) _ old new to goes_on few (Micro great)

pub none_left : (used n : ℕ) → false ≡ nat_lt used n → n ≤ used
none_left used n h = grind (arith, nat_tests)

-- a wait: what it asks
pub waits_by : (pattern : List Segment) (stop : Option (List Segment)) (env : Env) (st asked : State) (place : Place) (old mid : Notes) → place ≡ place_of env st → stop ≡ stop_pattern env.start.role →
    ((go : State → Ran) → Makes (does 1 (Wait place pattern stop) (go (acted st))) old (go asked) mid) →
    (go : Answer → State → Ran) → Makes (does 1 (Wait (place_of env st) pattern (stop_pattern env.start.role)) (answered (slice_get env.answers st.used) (acted st) go)) old (answered (slice_get env.answers asked.used) asked go) mid
waits_by pattern stop env st asked place old mid here same way =
    asks_by (Wait place pattern stop) (Wait (place_of env st) pattern (stop_pattern env.start.role)) env.answers st asked old mid
    (ap (λ p. Wait p pattern stop) here ∙ ap (λ s. Wait (place_of env st) pattern s) same) way

-- a thread that an event wakes, by what code reads of its place
pub woken_is : (st : State) (read place : Place) (micro : ℕ) → read ≡ place → micro ≡ read.micro + 1 → record st { time = read.time; micro = micro; moved = true } ≡ woken place st
woken_is st read place micro same next = ap (λ m. record st { time = read.time; micro = m; moved = true }) next ∙ ap (λ (p : Place). woken p st) same

-- what comes of an answer that is a fault
pub fails_where : {A : Type 0} (answer : Result A FaultKind) (kind : FaultKind) (env : Env) (at : Spot) (st : State) (go : A → Ran) (old new : Notes) → answer ≡ Err kind →
    ((to : Ran) → Makes (fails kind env at st) old to new) → (to : Ran) → Makes (or_fails answer env at st go) old to new
fails_where answer kind env at st go old new same ended to = makes_trans (makes_at old (ap (λ r. or_fails r env at st go) same)) (ended to)
