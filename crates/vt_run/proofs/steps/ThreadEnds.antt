-- A thread leaves nothing: it ends, or its steps or its answers run out.
use Rattle.std.proofs.Common.{◌≡◌, ℕ, zero, suc, List, [], ◌∷◌, Bool, true, false, cond, Option, Some, None, Result, Ok, Err, refl}
use Rattle.std.specs.Prelude.{slice_get}
use Rattle.vt_path.specs.declared.pattern.Segment.{Segment}
use Rattle.vt_frac.specs.Fraction.{Fraction}
use Rattle.vt_ring.specs.Exact.{exact_sum}
use Rattle.vt_value.specs.declared.value.Value.{Value}
use Rattle.vt_value.specs.declared.fault.FaultKind.{FaultKind}
use Rattle.vt_value.specs.declared.fault.FaultKind.TheVariants.{NoSleep}
use Rattle.vt_run.specs.declared.action.Action.TheVariants.{End}
use Rattle.vt_run.specs.declared.action.Answer.{Answer}
use Rattle.vt_run.specs.declared.action.EndReason.{EndReason}
use Rattle.vt_run.specs.declared.action.EndReason.TheVariants.{Done, Faulted, Stopped}
use Rattle.vt_run.specs.declared.role.Role.{Role}
use Rattle.vt_run.specs.declared.role.Role.TheVariants.{Plain, Named, Looped, Timed}
use Rattle.vt_run.specs.declared.start.Start.{Start}
use Rattle.vt_run.specs.declared.state.State.{State}
use Rattle.vt_run.specs.declared.texts.Texts.{Texts}
use Rattle.vt_run.specs.Actions.{answered, ends, fails, name_path, or_fails, place_of, rests, syncs, tells_end}
use Rattle.vt_run.specs.Costs.{pair_sizes}
use Rattle.vt_run.specs.Environment.{Body, Env}
use Rattle.vt_run.specs.calls.FunctionCalls.{FoundBody, body_found, runs_found}
use Rattle.vt_run.specs.calls.LiveLoops.{is_stopped, live_turns, stops_or, turn_body, turn_of, turn_spot, waits_first}
use Rattle.vt_run.specs.Evaluation.{Left, Next, Ran, Spot, Step, after, charges, does, goes_on, halts}
use Rattle.vt_run.specs.Threads.{by_role, called, env_of, first_block, opening, rests_first, thread}
use Rattle.vt_run.specs.calls.LoopCalls.{unless_idle}

tells_nothing : (path : Option (List (List ℕ))) (env : Env) (st : State) (reason : EndReason) → (tells_end path env st (λ st. does 1 (End (place_of env st) reason) halts)).left ≡ None
tells_nothing None env st reason = refl
tells_nothing (Some path) env st reason = refl

ends_nothing : (reason : EndReason) (env : Env) (st : State) → (ends reason env st).left ≡ None
ends_nothing reason env st = tells_nothing (name_path env.start.role) env st reason

pub fails_nothing : (kind : FaultKind) (env : Env) (at : Spot) (st : State) → (fails kind env at st).left ≡ None
fails_nothing kind env at st = ends_nothing Faulted env _

goes_on_nothing : (steps : List Step) (left : Option Left) (next : Next) → ((l : Left) → (next l.value l.state).left ≡ None) → (goes_on steps left next).left ≡ None
goes_on_nothing steps None next h = refl
goes_on_nothing steps (Some l) next h = h l

idle_nothing : (moved : Bool) (a b : Ran) → a.left ≡ None → b.left ≡ None → (cond moved a b).left ≡ None
idle_nothing true a b h k = h
idle_nothing false a b h k = k

charges_nothing : (size : ℕ) (ran : Ran) → ran.left ≡ None → (charges size ran).left ≡ None
charges_nothing zero ran h = h
charges_nothing (suc size) ran h = h

answered_nothing : (answer : Option Answer) (st : State) (go : Answer → State → Ran) → ((answer : Answer) (st : State) → (go answer st).left ≡ None) → (answered answer st go).left ≡ None
answered_nothing None st go h = refl
answered_nothing (Some answer) st go h = h answer _

turn_nothing : (found : Option FoundBody) (value : Value) (env : Env) (st : State) (go : Next) → ((value : Value) (st : State) → (go value st).left ≡ None) → (turn_of found value env st go).left ≡ None
turn_nothing None value env st go h = ends_nothing Stopped env st
turn_nothing (Some found) value env st go h =
    let ran = runs_found found (value ∷ []) (turn_spot found) st in
    charges_nothing (pair_sizes found.locals) _ (goes_on_nothing ran.steps ran.left (λ value end. unless_idle env (turn_spot found) end (go value)) (λ l.
    idle_nothing l.state.moved (go l.value l.state) _ (h l.value l.state) (fails_nothing NoSleep env (turn_spot found) l.state)))

body_nothing : (name : List ℕ) (value : Value) (env : Env) (st : State) (go : Next) → ((value : Value) (st : State) → (go value st).left ≡ None) → (turn_body name value env st go).left ≡ None
body_nothing name value env st go h =
    answered_nothing (slice_get env.answers _) _ (λ answer st. turn_of (body_found env answer) value env st go) (λ answer st. turn_nothing (body_found env answer) value env st go h)

turns_nothing : (n : ℕ) (name : List ℕ) (env : Env) (value : Value) (st : State) → (live_turns n name env value st).left ≡ None
turns_nothing zero name env value st = refl
turns_nothing (suc n) name env value st =
    answered_nothing (slice_get env.answers _) _ (λ answer st. stops_or answer env st (turn_body name value env st (live_turns n name env))) (λ answer st.
    idle_nothing (is_stopped env.start.place answer) _ _ (ends_nothing Stopped env st) (body_nothing name value env st (live_turns n name env) (λ value st. turns_nothing n name env value st)))

block_nothing : (values : List Value) (body : Option Body) (env : Env) (st : State) → (first_block values body env st).left ≡ None
block_nothing values None env st = ends_nothing Done env st
block_nothing values (Some body) env st = goes_on_nothing _ _ (λ value end. ends Done env end) (λ l. ends_nothing Done env l.state)

waits_nothing : (wait : Option (List Segment)) (env : Env) (st : State) (go : State → Ran) → ((st : State) → (go st).left ≡ None) → (waits_first wait env st go).left ≡ None
waits_nothing None env st go h = h st
waits_nothing (Some pattern) env st go h = goes_on_nothing (syncs pattern env st).steps (syncs pattern env st).left (λ value st. go st) (λ l. h l.state)

fault_nothing : {A : Type 0} (answer : Result A FaultKind) (env : Env) (at : Spot) (st : State) (go : A → Ran) → ((x : A) → (go x).left ≡ None) → (or_fails answer env at st go).left ≡ None
fault_nothing (Ok x) env at st go h = h x
fault_nothing (Err kind) env at st go h = fails_nothing kind env at st

rest_nothing : (rest : Fraction) (line : ℕ) (env : Env) (st : State) (go : State → Ran) → ((st : State) → (go st).left ≡ None) → (rests_first rest line env st go).left ≡ None
rest_nothing rest line env st go h =
    fault_nothing (exact_sum st.time rest) env (record { depth = 0; line = line }) st (λ time. after (rests rest env st) (λ value st. go st)) (λ time.
    goes_on_nothing (rests rest env st).steps (rests rest env st).left (λ value st. go st) (λ l. h l.state))

role_nothing : (role : Role) (env : Env) (st : State) → (by_role role env st).left ≡ None
role_nothing Plain env st = block_nothing [] (env.body env.start.block) env st
role_nothing (Named name) env st = block_nothing [] (env.body env.start.block) env st
role_nothing (Looped name wait init) env st = waits_nothing wait env st (live_turns env.turns name env init) (λ st. turns_nothing env.turns name env init st)
role_nothing (Timed rest given line) env st =
    rest_nothing rest line env st (λ st. first_block (given ∷ []) (env.body env.start.block) env st) (λ st. block_nothing (given ∷ []) (env.body env.start.block) env st)

pub thread_leaves_nothing : (texts : Texts) (start : Start) (answers : List Answer) (n : ℕ) → (thread texts start answers n).left ≡ None
unfolding thread
thread_leaves_nothing texts start answers n = role_nothing start.role (env_of start start.block.text answers n (called texts start answers n)) (opening start)
