-- The meaning of a thread: the steps of its evaluation, by how it starts and by the answers to its reads and waits. After FARM 2014 and the Sonic Pi tutorial, chapters 5 and 9; answers, costs and the bound are own.
--
-- The meaning goes by recursion on the tree. A loop may go on for ever, and a function may call itself, so there is a bound: a loop makes at most n turns, and at most n calls stand within one another. Each turn and each call takes a step, so where the bound runs out there are n steps, and the first n are the same under every greater bound.
use Rattle.std.specs.Prelude.{ℕ, zero, suc, List, [], ◌∷◌, ◌++◌, take, false, Option, Some, None, option_and_then, slice_get}
use Rattle.vt_check.specs.Checked.{block_at}
use Rattle.vt_frac.specs.Fraction.{Fraction}
use Rattle.vt_rand.specs.Draw.{random_stream_of}
use Rattle.vt_ring.specs.Exact.{exact_sum}
use Rattle.vt_tree.specs.declared.statement.Block.{Block}
use Rattle.vt_value.specs.declared.value.Value.{Value}
use Rattle.vt_event.specs.declared.references.BlockRef.{BlockRef}
use Rattle.vt_run.specs.declared.action.Answer.{Answer}
use Rattle.vt_run.specs.declared.action.EndReason.TheVariants.{Done}
use Rattle.vt_run.specs.declared.role.Role.{Role}
use Rattle.vt_run.specs.declared.role.Role.TheVariants.{Plain, Named, Looped, Timed}
use Rattle.vt_run.specs.declared.start.Start.{Start}
use Rattle.vt_run.specs.declared.state.State.{State}
use Rattle.vt_run.specs.declared.texts.Texts.{Texts}
use Rattle.vt_run.specs.declared.texts.Verdict.{Verdict}
use Rattle.vt_run.specs.declared.texts.Verdict.TheVariants.{Good, Bad}
use Rattle.vt_run.specs.Actions.{ends, or_fails, rests}
use Rattle.vt_run.specs.Environment.{Body, Env}
use Rattle.vt_run.specs.calls.LiveLoops.{live_turns, waits_first}
use Rattle.vt_run.specs.Scopes.{BlockMeaning, params_with, with_locals}
use Rattle.vt_run.specs.Evaluation.{Ran, Spot, Step, halts, after}
use Rattle.vt_run.specs.TreeMeaning.{block_meaning}

-- the text with this number, from 1
abbrev pub text_at : Texts → ℕ → Option (Fraction × Verdict)
text_at texts zero = None
text_at texts (suc k) = slice_get texts k

-- the tree of a text, where it is not refused
abbrev pub tree_of : Verdict → Option Block
tree_of (Good tree) = Some tree
tree_of (Bad kind line) = None

abbrev pub tree_in : Option (Fraction × Verdict) → Option Block
tree_in None = None
tree_in (Some text) = tree_of text.1

-- a block of the texts, if there is one
abbrev pub block_of : Texts → BlockRef → Option Block
block_of texts ref = option_and_then (λ tree. block_at tree ref.block) (tree_in (text_at texts ref.text))

-- a block as a call runs it
abbrev pub body_by : (BlockMeaning → Body) → Option Block → Option Body
body_by body None = None
body_by body (Some block) = Some (body (block_meaning block))

-- a block for which the bound has run out
abbrev pub bounded_body : BlockMeaning → Body
bounded_body block = record { params = block.params; run = λ at st. halts }

-- a block in an environment
abbrev pub body_in : Env → BlockMeaning → Body
body_in env block = record { params = block.params; run = block.run env }

abbrev pub env_of : Start → ℕ → List Answer → ℕ → (BlockRef → Option Body) → Env
env_of start text answers turns body = record { start = start; text = text; answers = answers; turns = turns; body = body }

-- the blocks of the texts as calls run them, where at most n stand within one another
abbrev pub called : Texts → Start → List Answer → ℕ → BlockRef → Option Body
called texts start answers zero ref = body_by bounded_body (block_of texts ref)
called texts start answers (suc n) ref =
    body_by (body_in (env_of start ref.text answers (suc n) (called texts start answers n))) (block_of texts ref)

-- where a thread stands as it starts: with its locals and settings, no counters, and its own stream
abbrev pub opening : Start → State
opening start = record {
  time = start.place.time;
  micro = start.place.micro;
  step = start.place.step;
  locals = start.locals;
  settings = start.settings;
  ticks = [];
  stream = random_stream_of start.seed;
  effects = 0;
  children = 0;
  used = 0;
  moved = false;
}

-- the first block of a thread is at depth 0
abbrev pub first_spot : Spot
first_spot = record { depth = 0; line = 0 }

-- the first block, with these values for its parameters, and then the end of the thread
abbrev pub first_block : List Value → Option Body → Env → State → Ran
first_block values None env st = ends Done env st
first_block values (Some body) env st =
    after (body.run first_spot (with_locals (st.locals ++ params_with body.params values) st)) (λ value end. ends Done env end)

-- a thread of `at` rests before its block; a time that does not fit is its fault overflow, on the line of the `at`
abbrev pub rests_first : Fraction → ℕ → Env → State → (State → Ran) → Ran
rests_first rest line env st go =
    or_fails (exact_sum st.time rest) env (record { depth = 0; line = line }) st (λ time.
    after (rests rest env st) (λ value st. go st))

-- a live loop makes turns; every other thread runs its first block, and one of `at` rests before
abbrev pub by_role : Role → Env → State → Ran
by_role Plain env st = first_block [] (env.body env.start.block) env st
by_role (Named name) env st = first_block [] (env.body env.start.block) env st
by_role (Looped name wait init) env st = waits_first wait env st (live_turns env.turns name env init)
by_role (Timed rest given line) env st = rests_first rest line env st (λ st. first_block (given ∷ []) (env.body env.start.block) env st)

-- all that a thread does under a bound
unfoldable pub thread : Texts → Start → List Answer → ℕ → Ran
thread texts start answers n = by_role start.role (env_of start start.block.text answers n (called texts start answers n)) (opening start)

-- the first n steps of a thread
unfoldable pub acts : Texts → Start → List Answer → ℕ → List Step
acts texts start answers n = take n (thread texts start answers n).steps
