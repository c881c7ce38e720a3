-- What holds of the steps of a run, one after another, each at its moment, and of what the run leaves.
use Rattle.std.proofs.Common.{◌≡◌, ◌≤◌, ℕ, ◌-◌, ◌+◌, List, [], ◌∷◌, ◌++◌, drop, Bool, true, false, Option, Some, None, refl, sym, subst, arith}
use Rattle.std.specs.Prelude.{is_some, IsTrue}
use Rattle.vt_event.specs.Kinds.{has_path}
use Rattle.vt_run.specs.declared.action.Action.{Action}
use Rattle.vt_run.specs.declared.action.Action.TheVariants.{Emit, Rest, Read, Wait, Spawn, End}
use Rattle.vt_run.specs.declared.action.Answer.{Answer}
use Rattle.vt_run.specs.declared.start.Start.{Start}
use Rattle.vt_run.specs.declared.state.State.{State}
use Rattle.vt_run.specs.Actions.{stop_pattern}
use Rattle.vt_run.specs.Limits.{IsActionWithin, IsEventWithin}
use Rattle.vt_run.specs.laws.StepFacts.{IsChild, IsEffectSmall}
use Rattle.vt_run.specs.Evaluation.{Left, Next, Ran, Step, does, goes_on}
use Rattle.vt_run.specs.Threads.{block_of}
use Rattle.vt_run.specs.WellMade.{IsWellMade}
use Rattle.vt_run.proofs.growth.Closures.{Subject}
use Rattle.vt_run.proofs.facts.Known.{IsStateWithin, place_in}
use Rattle.vt_run.proofs.steps.Moments.{Moment, moment_after}
use Rattle.vt_run.specs.Standing.{action_place, is_last, is_last_step}
use Rattle.vt_value.specs.Limits.{IsWithin}

-- where a thread stands in a state, and how many threads it has started
abbrev pub moment_in : Start → List Answer → State → Moment
moment_in start answers st = record { stand = record { place = place_in start st; answers = drop st.used answers }; children = st.children }

-- What is known of an action, beyond its place. The number of an effect is not above that of its action.
abbrev pub IsActionRight : Subject → Moment → Action → Type 0
IsActionRight e now (Emit event) = (is_some event.path ≡ has_path event.kind) × (IsEffectSmall e.start event → IsWellMade event × (e.L → IsEventWithin event))
IsActionRight e now (Rest place seconds) = e.L → IsActionWithin (Rest place seconds)
IsActionRight e now (Read place pattern) = e.L → IsActionWithin (Read place pattern)
IsActionRight e now (Wait place pattern stop) = (stop ≡ stop_pattern e.start.role) × (e.L → IsActionWithin (Wait place pattern stop))
IsActionRight e now (Spawn place child) = IsChild e.start place now.children child × (e.L → IsTrue (is_some (block_of e.texts child.block))) × (e.L → IsActionWithin (Spawn place child))
IsActionRight e now (End place reason) = e.L → IsActionWithin (End place reason)

-- an action at its moment: it stands in place
pub record IsDone (e : Subject) (now : Moment) (action : Action) : Type 0 where
  pub placed : action_place action ≡ now.stand.place
  pub right : IsActionRight e now action

abbrev pub IsOneDone : Subject → Moment → Option Action → Type 0
IsOneDone e now None = Unit {0}
IsOneDone e now (Some action) = IsDone e now action

-- a step at its moment
pub record IsTaken (e : Subject) (now : Moment) (step : Step) : Type 0 where
  pub costs : 1 ≤ step.cost
  pub does_one : IsOneDone e now step.action

-- what a run leaves at its end: the thread stands where its steps lead, what it holds is within the limits, and it has begun no more effects than it made actions
pub record IsLeft (e : Subject) (now : Moment) (l : Left) : Type 0 where
  pub moment : now ≡ moment_in e.start e.answers l.state
  pub value : e.L → IsWithin l.value
  pub state : e.L → IsStateWithin l.state
  pub effects : l.state.effects + e.start.place.step ≤ l.state.step

-- at the end of the steps: something is left, or the bound ran out
abbrev pub IsOver : Subject → ℕ → Moment → Option Left → Type 0
IsOver e n now None = n ≤ 0
IsOver e n now (Some l) = IsLeft e now l

-- behind the last step of a thread there is nothing; behind another one this holds
abbrev pub Behind : Bool → List Step → Option Left → Type 0 → Type 0
Behind true steps left later = (steps ≡ []) × (left ≡ None)
Behind false steps left later = later

-- Each step is right at its moment. The run leaves something, or ends with the last step of its thread, or has at least n steps.
abbrev pub IsRun : Subject → ℕ → Moment → List Step → Option Left → Type 0
IsRun e n now [] left = IsOver e n now left
IsRun e n now (step ∷ steps) left =
    IsTaken e now step × Behind (is_last_step e.start.until now.stand.answers step.action) steps left (IsRun e (n - 1) (moment_after step.action now) steps left)

-- the run from a state, in which the thread has begun no more effects than it made actions
abbrev pub Right : Subject → ℕ → State → Ran → Ran → Type 0
Right e n st a b = st.effects + e.start.place.step ≤ st.step → IsRun e n (moment_in e.start e.answers st) a.steps a.left

behind_less : (P Q : Type 0) → (P → Q) → (b : Bool) (steps : List Step) (left : Option Left) → Behind b steps left P → Behind b steps left Q
behind_less P Q f true steps left h = h
behind_less P Q f false steps left h = f h

pub run_less : (e : Subject) (n m : ℕ) (now : Moment) (steps : List Step) (left : Option Left) → m ≤ n → IsRun e n now steps left → IsRun e m now steps left
run_less e n m now [] None le h = omega arith
run_less e n m now [] (Some l) le h = h
run_less e n m now (step ∷ steps) left le h =
    let fewer : m - 1 ≤ n - 1 = omega arith in (
      h.0,
      behind_less (IsRun e (n - 1) (moment_after step.action now) steps left) (IsRun e (m - 1) (moment_after step.action now) steps left)
          (run_less e (n - 1) (m - 1) (moment_after step.action now) steps left fewer) (is_last_step e.start.until now.stand.answers step.action) steps left h.1,
    )

behind_joins : (P Q : Type 0) (b : Bool) (steps more : List Step) (l : Left) (left : Option Left) → (P → Q) → Behind b steps (Some l) P → Behind b (steps ++ more) left Q
behind_joins P Q true steps more l left f h = absurd (let z : Some l ≡ None = h.1 in cc)
behind_joins P Q false steps more l left f h = f h

-- a run, and then one from what it leaves
pub run_joins : (e : Subject) (n : ℕ) (now : Moment) (steps : List Step) (l : Left) (next : Ran) →
    IsRun e n now steps (Some l) → (IsLeft e (moment_in e.start e.answers l.state) l → IsRun e n (moment_in e.start e.answers l.state) next.steps next.left) →
    IsRun e n now (steps ++ next.steps) next.left
run_joins e n now [] l next h k =
    let same : IsLeft e (moment_in e.start e.answers l.state) l = record { moment = refl; value = h.value; state = h.state; effects = h.effects } in
    subst (λ (m : Moment). IsRun e n m next.steps next.left) (sym h.moment) (k same)
run_joins e n now (step ∷ steps) l next h k =
    let fewer : n - 1 ≤ n = omega arith in (
      h.0,
      behind_joins (IsRun e (n - 1) (moment_after step.action now) steps (Some l)) (IsRun e (n - 1) (moment_after step.action now) (steps ++ next.steps) next.left)
          (is_last_step e.start.until now.stand.answers step.action) steps next.steps l next.left
          (λ h. run_joins e (n - 1) (moment_after step.action now) steps l next h (λ left. run_less e n (n - 1) (moment_in e.start e.answers l.state) next.steps next.left fewer (k left))) h.1,
    )

pub run_goes_on : (e : Subject) (n : ℕ) (now : Moment) (steps : List Step) (left : Option Left) (next : Next) → IsRun e n now steps left →
    ((l : Left) → left ≡ Some l → IsLeft e (moment_in e.start e.answers l.state) l → IsRun e n (moment_in e.start e.answers l.state) (next l.value l.state).steps (next l.value l.state).left) →
    IsRun e n now (goes_on steps left next).steps (goes_on steps left next).left
run_goes_on e n now steps None next h k = h
run_goes_on e n now steps (Some l) next h k = run_joins e n now steps l (next l.value l.state) h (k l refl)

-- a run that begins with the step of an action, behind which the thread goes on
pub run_begins : (e : Subject) (n : ℕ) (now then : Moment) (cost : ℕ) (action : Action) (ran : Ran) → 1 ≤ cost → IsDone e now action →
    is_last e.start.until now.stand.answers action ≡ false → moment_after (Some action) now ≡ then → IsRun e (n - 1) then ran.steps ran.left →
    IsRun e n now (does cost action ran).steps (does cost action ran).left
run_begins e n now then cost action ran le done last same h = (
  record { costs = le; does_one = done },
  subst (λ (b : Bool). Behind b ran.steps ran.left (IsRun e (n - 1) (moment_after (Some action) now) ran.steps ran.left)) (sym last)
      (subst (λ (m : Moment). IsRun e (n - 1) m ran.steps ran.left) (sym same) h),
)

-- a run of the last step of a thread
pub run_ends : (e : Subject) (n : ℕ) (now : Moment) (cost : ℕ) (action : Action) → 1 ≤ cost → IsDone e now action →
    is_last e.start.until now.stand.answers action ≡ true → IsRun e n now (record { cost = cost; action = Some action } ∷ []) None
run_ends e n now cost action le done last = (
  record { costs = le; does_one = done },
  subst (λ (b : Bool). Behind b [] None (IsRun e (n - 1) (moment_after (Some action) now) [] None)) (sym last) (refl, refl),
)
