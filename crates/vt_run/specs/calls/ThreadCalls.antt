-- The calls that start threads: `in_thread`, `live_loop` and `at`. That at most one thread of a name is alive, and that a live loop takes a new body at its next turn, is after the Sonic Pi tutorial, chapters 5 and 9; seeds, costs and the order of their actions are own.
use Rattle.std.specs.Prelude.{ℕ, ◌+◌, List, [], ◌∷◌, ◌++◌, length, map, Bool, true, false, ◌||◌, not, cond, nat_eq, nat_lt, codes, unwrap_or, Option, Some, None, Result, Ok}
use Rattle.std.specs.List.{list_all, zip}
use Rattle.vt_frac.specs.Fraction.{Fraction}
use Rattle.vt_path.specs.declared.inner_path.InnerKind.TheVariants.{Body as BodyPath}
use Rattle.vt_path.specs.declared.pattern.Segment.{Segment}
use Rattle.vt_path.specs.Inner.{inner_of}
use Rattle.vt_path.specs.Match.{literal_of}
use Rattle.vt_rand.specs.Draw.{after_draws}
use Rattle.vt_ring.specs.Answers.{and_then, all_of}
use Rattle.vt_ring.specs.Called.{demand}
use Rattle.vt_ring.specs.Exact.{is_negative}
use Rattle.vt_ring.specs.Signatures.{one_or_two_of, option_named, symbol_argument}
use Rattle.vt_value.specs.declared.fault.FaultKind.{FaultKind}
use Rattle.vt_value.specs.declared.fault.FaultKind.TheVariants.{BadValue, EmptyRing, TooNested}
use Rattle.vt_value.specs.declared.value.Value.{Value}
use Rattle.vt_value.specs.declared.value.Value.TheVariants.{Nil}
use Rattle.vt_value.specs.Sizes.{size_of}
use Rattle.vt_event.specs.declared.kind.Kind.{Kind}
use Rattle.vt_event.specs.declared.kind.Kind.TheVariants.{Started}
use Rattle.vt_event.specs.declared.references.BlockRef.{BlockRef}
use Rattle.vt_event.specs.EventsByKind.{body_event, started_event}
use Rattle.vt_run.specs.declared.action.Action.TheVariants.{Spawn}
use Rattle.vt_run.specs.declared.action.Answer.{Answer}
use Rattle.vt_run.specs.declared.action.Answer.TheVariants.{Nothing, Found}
use Rattle.vt_run.specs.declared.role.Role.{Role}
use Rattle.vt_run.specs.declared.role.Role.TheVariants.{Plain, Named, Looped, Timed}
use Rattle.vt_run.specs.declared.start.Start.{Start}
use Rattle.vt_run.specs.declared.state.State.{State}
use Rattle.vt_run.specs.Actions.{acted, emits, fails, name_path, or_fails, place_of, reads}
use Rattle.vt_run.specs.calls.Arguments.{Given, a_symbol, all_args, each_of, has_item, items_round, numbers_of, pattern_argument, ring_if_given}
use Rattle.vt_run.specs.Costs.{size_if_given, spawn_cost}
use Rattle.vt_run.specs.Environment.{Env, Meaning}
use Rattle.vt_run.specs.Scopes.{BlockMeaning}
use Rattle.vt_run.specs.calls.SettingCalls.{with_block}
use Rattle.vt_run.specs.calls.TimeCalls.{seconds_of}
use Rattle.vt_run.specs.Evaluation.{Ran, Spot, gives, does}
use Rattle.vt_run.specs.Streams.{next_child_seed}

-- a block of the text being evaluated
abbrev pub block_ref : Env → BlockMeaning → BlockRef
block_ref env block = record { text = env.text; block = block.number }

-- the list of the next thread that this one starts: its own, with the thread's number among its children, from 1
abbrev pub child_list : Env → State → List ℕ
child_list env st = env.start.place.thread ++ (st.children + 1) ∷ []

-- how a child starts: where the thread stands, with a copy of its locals, and with its settings
abbrev pub child_of : Role → BlockMeaning → Env → State → Start
child_of role block env st = record {
  place = record { time = st.time; micro = st.micro; thread = child_list env st; step = 1 };
  block = block_ref env block;
  locals = st.locals;
  settings = st.settings;
  seed = next_child_seed st.stream;
  role = role;
  until = env.start.until;
}

-- after a start: two words are drawn, and there is one child more
abbrev pub has_spawned : State → State
has_spawned st = record (acted st) { stream = after_draws 2 st.stream; children = st.children + 1 }

-- a child is started, with the locals copied, and with a value of this size handed over
abbrev pub spawns : Role → ℕ → BlockMeaning → Env → State → (State → Ran) → Ran
spawns role handed block env st go = does (spawn_cost st.locals handed) (Spawn (place_of env st) (child_of role block env st)) (go (has_spawned st))

-- a thread whose list has 32 numbers can start no other
abbrev pub unless_nested : Env → Spot → State → (State → Ran) → Ran
unless_nested env at st go = cond (nat_lt (length env.start.place.thread) 32) (go st) (fails TooNested env at st)

abbrev pub is_start : Kind → Bool
is_start Started = true
is_start _ = false

-- the last that is known of a name is that its thread started
abbrev pub is_alive : Answer → Bool
is_alive Nothing = false
is_alive (Found event) = is_start event.kind

-- A child of this role, and nil. One that has a name is started only where none of that name is alive, and its start is told at the path of the name.
abbrev pub starts_at : Option (List (List ℕ)) → Role → ℕ → BlockMeaning → Env → Spot → State → Ran
starts_at None role handed block env at st = unless_nested env at st (λ st. spawns role handed block env st (gives Nil))
starts_at (Some path) role handed block env at st =
    reads (literal_of path) env st (λ answer st.
    cond (is_alive answer) (gives Nil st)
    (unless_nested env at st (λ st.
    emits (λ place. started_event place path) env st (λ st.
    spawns role handed block env st (gives Nil)))))

abbrev pub starts : Role → ℕ → BlockMeaning → Env → Spot → State → Ran
starts role handed block env at st = starts_at (name_path role) role handed block env at st

-- the role of a thread of `in_thread`, by its option `name:`
abbrev pub thread_role : Option Value → Result Role FaultKind
thread_role None = Ok Plain
thread_role (Some value) = and_then (symbol_argument value) (λ name. Ok (Named name))

-- `in_thread do`, option `name:`
unfoldable pub in_thread_call : Given → Option BlockMeaning → Meaning
in_thread_call given block env at st =
    with_block block env at st (λ block.
    or_fails (thread_role (option_named (codes "name") given.options)) env at st (λ role.
    starts role 0 block env at st))

-- what a live loop waits for at its start, by its option `sync:`
abbrev pub wait_option : Option Value → Result (Option (List Segment)) FaultKind
wait_option None = Ok None
wait_option (Some value) = and_then (pattern_argument value) (λ named. and_then named (λ pattern. Ok (Some pattern)))

-- what a live loop is given: its name, what it waits for, and the value for its first turn, by its option `init:`
pub record LoopParts : Type 0 where
  pub name : List ℕ
  pub wait : Option (List Segment)
  pub init : Option Value

abbrev pub loop_parts : Given → Result LoopParts FaultKind
loop_parts given =
    and_then (a_symbol (all_args given)) (λ name.
    and_then (wait_option (option_named (codes "sync") given.options)) (λ wait.
    Ok (record { name = name; wait = wait; init = option_named (codes "init") given.options })))

-- the role of a live loop; without `init:` the first turn gets nil
abbrev pub loop_role : LoopParts → Role
loop_role parts = Looped parts.name parts.wait (unwrap_or parts.init Nil)

-- `live_loop :x do`, options `sync:` and `init:`: the body is told with the line of the statement, and the loop is started where none of its name is alive
unfoldable pub live_loop_call : Given → Option BlockMeaning → Meaning
live_loop_call given block env at st =
    with_block block env at st (λ block.
    or_fails (loop_parts given) env at st (λ parts.
    emits (λ place. body_event place (inner_of BodyPath parts.name) (block_ref env block) st.locals at.line) env st (λ st.
    starts (loop_role parts) (size_if_given parts.init) block env at st)))

-- what each child of `at` is given: the items of the ring again and again, or else its own number
abbrev pub values_for : Option (List Value) → List Value → List Value
values_for None numbers = numbers
values_for (Some items) numbers = items_round (length numbers) items

-- `V` or `V, r`: the rest of each child in seconds, and the value that it is given
abbrev pub timings : Given → State → Result (List (Fraction × Value)) FaultKind
timings given st =
    and_then (one_or_two_of (all_args given)) (λ (times, ring).
    and_then (numbers_of times) (λ beats.
    and_then (ring_if_given ring) (λ items.
    demand (list_all (λ n. not (is_negative n)) beats) BadValue
    (demand (nat_eq (length beats) 0 || has_item items) EmptyRing
    (and_then (all_of (map (λ n. seconds_of n st.settings.bpm) beats)) (λ rests.
    Ok (zip rests (values_for items (each_of times)))))))))

-- a child for each rest and value, in order
abbrev pub spawns_timed : List (Fraction × Value) → BlockMeaning → Env → Spot → State → Ran
spawns_timed [] block env at st = gives Nil st
spawns_timed (timing ∷ timings) block env at st =
    spawns (Timed timing.0 timing.1 at.line) (size_of timing.1) block env st (λ st. spawns_timed timings block env at st)

-- whether the list of a child may be too long is asked once, before the first, where there is one
abbrev pub starts_timed : List (Fraction × Value) → BlockMeaning → Env → Spot → State → Ran
starts_timed [] block env at st = gives Nil st
starts_timed (timing ∷ timings) block env at st = unless_nested env at st (λ st. spawns_timed (timing ∷ timings) block env at st)

-- `at V do`, `at V, r do`: a child for each number, which rests for so many beats of this thread's tempo before its block
unfoldable pub at_call : Given → Option BlockMeaning → Meaning
at_call given block env at st =
    with_block block env at st (λ block.
    or_fails (timings given st) env at st (λ timings.
    starts_timed timings block env at st))
