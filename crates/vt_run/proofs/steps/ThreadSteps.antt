-- What holds of each step of a thread, and of where its list of steps ends.
use Rattle.std.proofs.Common.{◌≡◌, ◌⊎◌, ◌≤◌, ◌<◌, ℕ, zero, suc, ◌-◌, List, [], ◌∷◌, ◌++◌, length, take, drop, Bool, true, false, Option, Some, None, inl, inr, refl, sym, ap, ◌∙◌, subst, arith, append_assoc}
use Rattle.std.specs.Prelude.{IsTrue}
use Rattle.std.proofs.lemmas.Bool.{cases_lt}
use Rattle.std.proofs.lemmas.List.{length-take-le, take-append-drop}
use Rattle.vt_frac.specs.Fraction.{Fraction}
use Rattle.vt_run.specs.declared.action.Action.{Action}
use Rattle.vt_run.specs.declared.action.Action.TheVariants.{Emit, Rest, Read, Wait, Spawn, End}
use Rattle.vt_run.specs.declared.action.Answer.{Answer}
use Rattle.vt_run.specs.declared.start.Start.{Start}
use Rattle.vt_run.specs.declared.texts.Texts.{Texts}
use Rattle.vt_run.specs.laws.StandingLaws.{StopsLaw}
use Rattle.vt_run.specs.laws.StepFacts.{IsChild, IsThreadWithin}
use Rattle.vt_run.specs.laws.StepLaws.{AreWhole, BlocksLaw, ChildrenLaw, ClosingLaw, CostsLaw, EventPathsLaw, EventsLaw, IsStep, LastLaw, LimitsLaw, PlacesLaw}
use Rattle.vt_run.specs.Evaluation.{Left, Step}
use Rattle.vt_run.specs.Threads.{acts, thread}
use Rattle.vt_run.proofs.growth.Closures.{Subject}
use Rattle.vt_run.proofs.steps.Moments.{Moment, first_moment, moment_after, moment_after_all, moment_is, moment_of}
use Rattle.vt_run.proofs.steps.RightRuns.{Behind, IsDone, IsOneDone, IsRun, Right}
use Rattle.vt_run.proofs.steps.RightSteps.{right}
use Rattle.vt_run.proofs.steps.ThreadEnds.{thread_leaves_nothing}
use Rattle.vt_run.proofs.growth.ThreadGrowth.{free_subject, of_thread}
use Rattle.vt_run.specs.Standing.{action_place, is_last_step}

-- the evaluation of a thread; what it is given may be within the limits
abbrev pub evaluation : Texts → Start → List Answer → Subject
evaluation texts start answers = free_subject (IsThreadWithin texts start answers) texts start answers answers (λ given. given.began) (λ given. given.checked)

-- the steps of a thread under a bound are right, and nothing is left
thread_runs : (texts : Texts) (start : Start) (answers : List Answer) (n : ℕ) → IsRun (evaluation texts start answers) n (first_moment start answers) (thread texts start answers n).steps None
thread_runs texts start answers n =
    let e = evaluation texts start answers in
    let same : n ≤ n = omega arith in
    subst (λ (left : Option Left). IsRun e n (first_moment start answers) (thread texts start answers n).steps left) (thread_leaves_nothing texts start answers n)
    (of_thread (Right e) e (right e (λ pattern answer given. tt) (λ given. given.answered)) n n same (omega arith))

pub some_left : {A : Type 0} (prefix : List A) (x : A) (rest : List A) → prefix ++ x ∷ rest ≡ [] → ⊥
some_left [] x rest h = let z : x ∷ rest ≡ [] = h in absurd cc
some_left (y ∷ prefix) x rest h = let z : y ∷ (prefix ++ x ∷ rest) ≡ [] = h in absurd cc

no_more : {A : Type 0} (xs ys : List A) → xs ++ ys ≡ [] → xs ≡ []
no_more [] ys h = refl
no_more (x ∷ xs) ys h = let z : x ∷ (xs ++ ys) ≡ [] = h in absurd cc

-- where steps stand behind one, it is not the last
pub not_last : (P : Type 0) (last : Bool) (steps : List Step) (left : Option Left) → (steps ≡ [] → ⊥) → Behind last steps left P → (last ≡ false) × P
not_last P true steps left some h = absurd (some h.0)
not_last P false steps left some h = (refl, h)

nothing_behind : (P : Type 0) (last : Bool) (steps : List Step) (left : Option Left) → IsTrue last → Behind last steps left P → steps ≡ []
nothing_behind P true steps left is h = h.0
nothing_behind P false steps left is h = absurd (let z : false ≡ true = is in cc)

-- what a run has left behind some of its steps
pub record IsRunFrom (e : Subject) (now : Moment) (steps : List Step) : Type 0 where
  pub bound : ℕ
  pub run : IsRun e bound now steps None

run_from : (e : Subject) (n : ℕ) (now : Moment) (prefix : List Step) (step : Step) (rest : List Step) → IsRun e n now (prefix ++ step ∷ rest) None → IsRunFrom e (moment_after_all prefix now) (step ∷ rest)
run_from e n now [] step rest h = record { bound = n; run = h }
run_from e n now (first ∷ prefix) step rest h =
    run_from e (n - 1) (moment_after first.action now) prefix step rest
    (not_last (IsRun e (n - 1) (moment_after first.action now) (prefix ++ step ∷ rest) None) (is_last_step e.start.until now.stand.answers first.action) (prefix ++ step ∷ rest) None (some_left prefix step rest) h.1).1

-- the thread does these steps, and behind them what it does further under its bound
pub steps_whole : (texts : Texts) (start : Start) (answers : List Answer) (n : ℕ) (prefix : List Step) (step : Step) (rest : List Step) → acts texts start answers n ≡ prefix ++ step ∷ rest →
    IsRun (evaluation texts start answers) n (first_moment start answers) (prefix ++ step ∷ (rest ++ drop n (thread texts start answers n).steps)) None
unfolding acts
steps_whole texts start answers n prefix step rest h =
    let steps : List Step = (thread texts start answers n).steps in
    let whole : steps ≡ prefix ++ step ∷ (rest ++ drop n steps) =
    sym (take-append-drop n steps) ∙ ap (λ (xs : List Step). xs ++ drop n steps) h ∙ append_assoc prefix (step ∷ rest) (drop n steps) in
    subst (λ (xs : List Step). IsRun (evaluation texts start answers) n (first_moment start answers) xs None) whole (thread_runs texts start answers n)

-- what the thread does behind some of its steps
pub steps_from : (texts : Texts) (start : Start) (answers : List Answer) (n : ℕ) (prefix : List Step) (step : Step) (rest : List Step) → acts texts start answers n ≡ prefix ++ step ∷ rest →
    IsRunFrom (evaluation texts start answers) (moment_of start answers prefix) (step ∷ (rest ++ drop n (thread texts start answers n).steps))
steps_from texts start answers n prefix step rest h =
    run_from (evaluation texts start answers) n (first_moment start answers) prefix step (rest ++ drop n (thread texts start answers n).steps) (steps_whole texts start answers n prefix step rest h)

pub last_law : LastLaw
last_law texts start answers n prefix rest step h last =
    let from = steps_from texts start answers n prefix step rest h in
    let e = evaluation texts start answers in
    let now : Moment = moment_of start answers prefix in
    let more : List Step = rest ++ drop n (thread texts start answers n).steps in
    no_more rest (drop n (thread texts start answers n).steps) (nothing_behind (IsRun e (from.bound - 1) (moment_after step.action now) more None) (is_last_step start.until now.stand.answers step.action) more None
    (subst (λ (m : Moment). IsTrue (is_last_step start.until m.stand.answers step.action)) (sym (moment_is start answers prefix)) last) from.run.1)

pub costs_law : CostsLaw
costs_law texts start answers prefix step is = (steps_from texts start answers is.bound prefix step is.rest is.whole).run.0.costs

-- an action stands at its moment
pub action_done : (texts : Texts) (start : Start) (answers : List Answer) (prefix : List Step) (step : Step) (action : Action) →
    IsStep texts start answers prefix step → step.action ≡ Some action → IsDone (evaluation texts start answers) (moment_of start answers prefix) action
action_done texts start answers prefix step action is some =
    subst (λ (a : Option Action). IsOneDone (evaluation texts start answers) (moment_of start answers prefix) a) some (steps_from texts start answers is.bound prefix step is.rest is.whole).run.0.does_one

pub placed_law : (texts : Texts) (start : Start) (answers : List Answer) (prefix : List Step) (step : Step) (action : Action) →
    IsStep texts start answers prefix step → step.action ≡ Some action → action_place action ≡ (moment_of start answers prefix).stand.place
placed_law texts start answers prefix step action is some = (action_done texts start answers prefix step action is some).placed

pub places_law : PlacesLaw
places_law texts start answers prefix step action is some =
    placed_law texts start answers prefix step action is some ∙ ap (λ (m : Moment). m.stand.place) (moment_is start answers prefix)

pub stops_law : StopsLaw
stops_law texts start answers prefix step place pattern stop is some = (action_done texts start answers prefix step (Wait place pattern stop) is some).right.0

pub children_law : ChildrenLaw
children_law texts start answers prefix step place child is some =
    subst (λ (m : Moment). IsChild start place m.children child) (moment_is start answers prefix) (action_done texts start answers prefix step (Spawn place child) is some).right.0

pub blocks_law : BlocksLaw
blocks_law texts start answers prefix step place child given is some = (action_done texts start answers prefix step (Spawn place child) is some).right.1 given

pub event_paths_law : EventPathsLaw
event_paths_law texts start answers prefix step event is some = (action_done texts start answers prefix step (Emit event) is some).right.0

pub events_law : EventsLaw
events_law texts start answers prefix step event is some small = ((action_done texts start answers prefix step (Emit event) is some).right.1 small).0

pub limits_law : LimitsLaw
limits_law texts start answers prefix step (Emit event) given is some small = ((action_done texts start answers prefix step (Emit event) is some).right.1 small).1 given
limits_law texts start answers prefix step (Rest place seconds) given is some small = (action_done texts start answers prefix step (Rest place seconds) is some).right given
limits_law texts start answers prefix step (Read place pattern) given is some small = (action_done texts start answers prefix step (Read place pattern) is some).right given
limits_law texts start answers prefix step (Wait place pattern stop) given is some small = (action_done texts start answers prefix step (Wait place pattern stop) is some).right.1 given
limits_law texts start answers prefix step (Spawn place child) given is some small = (action_done texts start answers prefix step (Spawn place child) is some).right.2 given
limits_law texts start answers prefix step (End place reason) given is some small = (action_done texts start answers prefix step (End place reason) is some).right given

-- steps that end with the last one, from a moment on
record EndsFrom (until : Fraction) (now : Moment) (steps : List Step) : Type 0 where
  prefix : List Step
  step : Step
  whole : steps ≡ prefix ++ step ∷ []
  last : IsTrue (is_last_step until (moment_after_all prefix now).stand.answers step.action)

-- a run of fewer steps than its bound ends with the last one
ends_from : (e : Subject) (n : ℕ) (now : Moment) (steps : List Step) → IsRun e n now steps None → length steps < n → EndsFrom e.start.until now steps
ends_from e n now [] h few = absurd (omega (arith, h, few))
ends_from e n now (step ∷ steps) h few =
    let fewer : length steps < n - 1 = omega (arith, few) in
    go (is_last_step e.start.until now.stand.answers step.action) refl h.1 (λ run. ends_from e (n - 1) (moment_after step.action now) steps run fewer)
  where
    go : (last : Bool) → is_last_step e.start.until now.stand.answers step.action ≡ last → Behind last steps None (IsRun e (n - 1) (moment_after step.action now) steps None) →
        (IsRun e (n - 1) (moment_after step.action now) steps None → EndsFrom e.start.until (moment_after step.action now) steps) → EndsFrom e.start.until now (step ∷ steps)
    go true is behind later = record { prefix = []; step = step; whole = ap (λ (xs : List Step). step ∷ xs) behind.0; last = is }
    go false is run later =
        let ends = later run in
        record { prefix = step ∷ ends.prefix; step = ends.step; whole = ap (λ (xs : List Step). step ∷ xs) ends.whole; last = ends.last }

take_all : {A : Type 0} (n : ℕ) (xs : List A) → length xs < n → take n xs ≡ xs
take_all zero xs h = absurd (omega (arith, h))
take_all (suc n) [] h = refl
take_all (suc n) (x ∷ xs) h = let fewer : length xs < n = omega (arith, h) in ap (λ ys. x ∷ ys) (take_all n xs fewer)

pub closing_law : ClosingLaw
unfolding acts
closing_law texts start answers n = go (cases_lt (length steps) n)
  where
    steps : List Step
    steps = (thread texts start answers n).steps

    go : (length steps < n) ⊎ (n ≤ length steps) → (length (take n steps) ≡ n) ⊎ ((length (take n steps) < n) × AreWhole start answers (take n steps))
    go (inr many) = inl (length-take-le n steps many)
    go (inl few) =
        let all : take n steps ≡ steps = take_all n steps few in
        let ends = ends_from (evaluation texts start answers) n (first_moment start answers) steps (thread_runs texts start answers n) few in
        inr (
          subst (λ (xs : List Step). length xs < n) (sym all) few,
          record {
            prefix = ends.prefix;
            step = ends.step;
            whole = all ∙ ends.whole;
            last = subst (λ (m : Moment). IsTrue (is_last_step start.until m.stand.answers ends.step.action)) (moment_is start answers ends.prefix) ends.last;
          },
        )
