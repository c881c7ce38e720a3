-- Turns of blocks, as steps on a way.
use Rattle.std.proofs.Common.{◌≡◌, ℕ, List, [], ◌∷◌, true, false, cond, Option, Some, None, Result, Ok, Err, refl, sym, ap, ◌∙◌, subst}
use Rattle.vt_frac.specs.Fraction.{Fraction}
use Rattle.vt_value.specs.declared.fault.FaultKind.TheVariants.{NoSleep}
use Rattle.vt_value.specs.declared.value.Value.{Value}
use Rattle.vt_value.specs.declared.value.Value.TheVariants.{Nil}
use Rattle.vt_table.specs.declared.calls.CallName.TheVariants as calls
use Rattle.vt_run.specs.Actions.{fails}
use Rattle.vt_run.specs.calls.Arguments.{Given}
use Rattle.vt_run.specs.calls.EffectTable.{performed}
use Rattle.vt_run.specs.calls.LoopCalls.{loop_call, loops, turns_over}
use Rattle.vt_run.specs.Environment.{Env}
use Rattle.vt_run.specs.Evaluation.{Next, Ran, Spot, after, gives, tick}
use Rattle.vt_run.specs.Notes.{Notes}
use Rattle.vt_run.specs.Scopes.{BlockMeaning, runs}
use Rattle.vt_run.specs.declared.state.State.{State}
use Rattle.vt_run.proofs.Composition.{after_assoc}
use Rattle.vt_eval_steps.specs.declared.turns.Turns.{Turns}
use Rattle.vt_eval_steps.specs.declared.turns.Turns.TheVariants.{Loop}
use Rattle.vt_eval_steps.specs.Making.{Makes}
use Rattle.vt_eval_steps.specs.Turns.{loops_left, turn_ends, turns_run}
use Rattle.vt_eval_steps.proofs.Ways.{makes_at, makes_trans, step_after}

-- a loop, by the call of it
pub is_loop : (given : Given) (block : BlockMeaning) (env : Env) (at : Spot) (st : State) → performed calls.Loop given (Some block) env at st ≡ loops env.turns block env at st
unfolding performed loop_call
is_loop given block env at st = refl

-- turns, and what comes next behind them
pub after_turns : (items : List Value) (block : BlockMeaning) (env : Env) (at : Spot) (st : State) (go : List Value → State → Ran) (next : Next) →
    after (turns_over items block env at st go) next ≡ turns_over items block env at st (λ values st. after (go values st) next)
after_turns [] block env at st go next = refl
after_turns (item ∷ items) block env at st go next =
    let rest = λ (value : Value) (s : State). turns_over items block env at s (λ values s. go (value ∷ values) s) in
    step_after (record { cost = 1; action = None }) (after (runs block (item ∷ []) env at st) rest) next
    ∙ ap (λ ran. tick ran) (after_assoc (runs block (item ∷ []) env at st) rest next
    ∙ ap (after (runs block (item ∷ []) env at st)) (λ i value s. after_turns items block env at s (λ values s. go (value ∷ values) s) next i))

-- the end of a turn of a loop that did not rest: a fault
pub idle_ends : (turns : Turns) (left : Option ℕ) (value : Value) (block : BlockMeaning) (env : Env) (at : Spot) (st : State) (old new : Notes) (to : Ran) → turns ≡ Loop left → st.moved ≡ false →
    ((to : Ran) → Makes (fails NoSleep env at st) old to new) → Makes (turn_ends turns value block env at st) old to new
idle_ends turns left value block env at st old new to is idle ended =
    makes_trans (makes_at old (ap (λ (t : Turns). turn_ends t value block env at st) is ∙ ap (λ moved. cond moved (loops (loops_left left) block env at st) (fails NoSleep env at st)) idle)) (ended to)

-- the end of a turn of a loop that rested or waited
pub moved_ends : (turns : Turns) (left : Option ℕ) (value : Value) (block : BlockMeaning) (env : Env) (at : Spot) (st : State) → turns ≡ Loop left → st.moved ≡ true →
    turn_ends turns value block env at st ≡ turns_run turns block env at st
moved_ends turns left value block env at st is moved =
    ap (λ (t : Turns). turn_ends t value block env at st) is ∙ ap (λ moved. cond moved (loops (loops_left left) block env at st) (fails NoSleep env at st)) moved ∙ sym (ap (λ (t : Turns). turns_run t block env at st) is)
