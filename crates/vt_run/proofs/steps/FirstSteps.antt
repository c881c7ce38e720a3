-- What a thread of `at` does first.
use Rattle.std.proofs.Common.{◌≡◌, ℕ, zero, suc, List, [], ◌∷◌, ◌++◌, take, Bool, true, false, cond, Option, Some, None, Ok, Err, refl, sym, ap, ◌∙◌, subst}
use Rattle.vt_frac.specs.Arithmetic.{sum_of}
use Rattle.vt_frac.specs.Fraction.{Fraction, fits}
use Rattle.vt_value.specs.declared.fault.FaultKind.TheVariants.{Overflow}
use Rattle.vt_value.specs.declared.value.Value.{Value}
use Rattle.vt_value.specs.declared.value.Value.TheVariants.{Nil}
use Rattle.vt_event.specs.EventsByKind.{fault_event}
use Rattle.vt_run.specs.declared.action.Action.{Action}
use Rattle.vt_run.specs.declared.action.Action.TheVariants.{Emit, Rest}
use Rattle.vt_run.specs.declared.action.EndReason.TheVariants.{Faulted}
use Rattle.vt_run.specs.declared.role.Role.{Role}
use Rattle.vt_run.specs.declared.role.Role.TheVariants.{Timed}
use Rattle.vt_run.specs.declared.state.State.{State}
use Rattle.vt_run.specs.Actions.{acted, ends, is_past, or_fails, place_of, rested, rests, time_after}
use Rattle.vt_run.specs.Costs.{emit_cost}
use Rattle.vt_run.specs.Environment.{Env}
use Rattle.vt_run.specs.Evaluation.{Left, Next, Ran, Step, after, gives, goes_on, halts}
use Rattle.vt_run.specs.Threads.{acts, by_role, called, env_of, first_block, opening, thread}
use Rattle.vt_run.specs.laws.StandingLaws.{TimedLaw, first_rest}

-- the run begins with a step of this action
record BeginsWith (ran : Ran) (action : Action) : Type 0 where
  cost : ℕ
  more : List Step
  whole : ran.steps ≡ record { cost = cost; action = Some action } ∷ more

followed_begins : (cost : ℕ) (action : Action) (steps : List Step) (left : Option Left) (next : Next) → BeginsWith (goes_on (record { cost = cost; action = Some action } ∷ steps) left next) action
followed_begins cost action steps None next = record { cost = cost; more = steps; whole = refl }
followed_begins cost action steps (Some l) next = record { cost = cost; more = steps ++ (next l.value l.state).steps; whole = refl }

rest_begins : (rest : Fraction) (env : Env) (st : State) (next : Next) → BeginsWith (after (rests rest env st) next) (Rest (place_of env st) rest)
rest_begins rest env st next =
    let ran : Ran = cond (is_past env.start.until (time_after rest st)) halts (gives Nil (rested rest (acted st))) in
    followed_begins 1 (Rest (place_of env st) rest) ran.steps ran.left next

-- by whether the time after the rest fits
fitting_begins : (fit : Bool) (time rest : Fraction) (line : ℕ) (env : Env) (st : State) (next : Next) →
    BeginsWith (or_fails (cond fit (Ok time) (Err Overflow)) env (record { depth = 0; line = line }) st (λ time. after (rests rest env st) next))
    (cond fit (Rest (place_of env st) rest) (Emit (fault_event (place_of env st) Overflow line)))
fitting_begins true time rest line env st next = rest_begins rest env st next
fitting_begins false time rest line env st next = record {
  cost = emit_cost (fault_event (place_of env st) Overflow line);
  more = (ends Faulted env (acted st)).steps;
  whole = refl;
}

timed_begins : (rest : Fraction) (value : Value) (line : ℕ) (env : Env) (st : State) →
    BeginsWith (by_role (Timed rest value line) env st) (first_rest (place_of env st) rest line)
timed_begins rest value line env st =
    fitting_begins (fits (sum_of st.time rest)) (sum_of st.time rest) rest line env st (λ _ st. first_block (value ∷ []) (env.body env.start.block) env st)

first_taken : (n : ℕ) (first step : Step) (more rest : List Step) → take n (first ∷ more) ≡ step ∷ rest → first ≡ step
first_taken zero first step more rest h = absurd (let z : [] ≡ step ∷ rest = h in cc)
first_taken (suc n) first step more rest h = let z : first ∷ take n more ≡ step ∷ rest = h in cc

pub timed_law : TimedLaw
unfolding acts thread
timed_law texts start answers step rest value line role is =
    let env : Env = env_of start start.block.text answers is.bound (called texts start answers is.bound) in
    let begins : BeginsWith (by_role start.role env (opening start)) (first_rest start.place rest line) =
    subst (λ (r : Role). BeginsWith (by_role r env (opening start)) (first_rest start.place rest line)) (sym role) (timed_begins rest value line env (opening start)) in
    let whole : take is.bound (by_role start.role env (opening start)).steps ≡ step ∷ is.rest = is.whole in
    let first : Step = record { cost = begins.cost; action = Some (first_rest start.place rest line) } in
    let same : first ≡ step = first_taken is.bound first step begins.more is.rest (ap (take is.bound) (sym begins.whole) ∙ whole) in
    ap (λ (s : Step). s.action) (sym same)
