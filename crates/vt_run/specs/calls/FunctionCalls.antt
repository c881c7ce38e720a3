-- Functions: `define`, and calls of what it defined. That a function serves all threads and a new definition the later calls is after the Sonic Pi tutorial, chapter 5; that a call finds it by a read, its faults and its costs are own.
use Rattle.std.specs.Prelude.{ℕ, List, [], ◌∷◌, ◌++◌, length, Bool, true, false, ◌&&◌, ◌==◌, cond, Option, Some, None, ok_or}
use Rattle.vt_path.specs.declared.inner_path.InnerKind.TheVariants.{Def as DefPath}
use Rattle.vt_path.specs.Inner.{inner_of}
use Rattle.vt_path.specs.Match.{literal_of}
use Rattle.vt_value.specs.declared.fault.FaultKind.TheVariants.{UnknownName, WrongCount}
use Rattle.vt_value.specs.declared.value.Value.{Value}
use Rattle.vt_value.specs.declared.value.Value.TheVariants.{Nil}
use Rattle.vt_event.specs.declared.references.BlockRef.{BlockRef}
use Rattle.vt_event.specs.EventsByKind.{defined_event}
use Rattle.vt_event.specs.Pairs.{Pairs}
use Rattle.vt_run.specs.declared.action.Answer.{Answer}
use Rattle.vt_run.specs.declared.action.Answer.TheVariants.{Nothing, Found}
use Rattle.vt_run.specs.declared.state.State.{State}
use Rattle.vt_run.specs.Actions.{emits, fails, or_fails, reads}
use Rattle.vt_run.specs.calls.Arguments.{Given, a_symbol, all_args}
use Rattle.vt_run.specs.Costs.{pair_sizes}
use Rattle.vt_run.specs.Environment.{Body, Env, Meaning}
use Rattle.vt_run.specs.Scopes.{BlockMeaning, enters, params_with, with_locals}
use Rattle.vt_run.specs.calls.SettingCalls.{with_block}
use Rattle.vt_run.specs.Evaluation.{Ran, Spot, gives, after, charges, tick}
use Rattle.vt_run.specs.calls.ThreadCalls.{block_ref}

-- `define :x do`: the block is told, with the locals where it stands
unfoldable pub define_call : Given → Option BlockMeaning → Meaning
define_call given block env at st =
    with_block block env at st (λ block.
    or_fails (a_symbol (all_args given)) env at st (λ name.
    emits (λ place. defined_event place (inner_of DefPath name) (block_ref env block) st.locals) env st (gives Nil)))

-- a body that a read found: the block, the locals that were copied with it, and the line of its event
pub record FoundBody : Type 0 where
  pub body : Body
  pub locals : Pairs
  pub line : ℕ

abbrev pub found_with : ℕ → Pairs → Option Body → Option FoundBody
found_with line locals None = None
found_with line locals (Some body) = Some (record { body = body; locals = locals; line = line })

abbrev pub found_at : Env → ℕ → Option (BlockRef × Pairs) → Option FoundBody
found_at env line None = None
found_at env line (Some kept) = found_with line kept.1 (env.body kept.0)

-- what a read of a body or a function found: nothing, where it is answered by nothing or by an event without a block of these texts
abbrev pub body_found : Env → Answer → Option FoundBody
body_found env Nothing = None
body_found env (Found event) = found_at env event.line event.body

abbrev pub is_none_given : Pairs → Bool
is_none_given [] = true
is_none_given (option ∷ options) = false

-- as many arguments as parameters, and no option
abbrev pub takes_given : FoundBody → Given → Bool
takes_given found given = (length (all_args given) == length found.body.params) && is_none_given given.options

-- the body with its own locals and its parameters behind them; then the locals of the caller are there again
abbrev pub runs_found : FoundBody → List Value → Spot → State → Ran
runs_found found values at st =
    after (found.body.run at (with_locals (found.locals ++ params_with found.body.params values) st)) (λ value end.
    gives value (with_locals st.locals end))

-- a call of a function: its step, the copy of the locals, and the body, one deeper
abbrev pub calls_found : FoundBody → Given → Meaning
calls_found found given env at st =
    cond (takes_given found given)
    (tick (charges (pair_sizes found.locals) (enters env at st (λ deep. runs_found found (all_args given) deep st))))
    (fails WrongCount env at st)

-- a call of a name that is in no table: a read of its definition, and then the call of what is found
unfoldable pub function_call : List ℕ → Given → Meaning
function_call name given env at st =
    reads (literal_of (inner_of DefPath name)) env st (λ answer st.
    or_fails (ok_or (body_found env answer) UnknownName) env at st (λ found.
    calls_found found given env at st))
