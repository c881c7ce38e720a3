-- The places of a thread rise, and stand below the horizon, where its waits are answered by what stands above them and below it.
use Rattle.std.proofs.Common.{◌≡◌, ℕ, ◌-◌, ◌+◌, List, [], ◌∷◌, ◌++◌, drop, Bool, true, false, cond, ℤ, pos, negsuc, ◌<ℤ◌, Option, Some, None, inl, inr, refl, sym, ap, ◌∙◌, subst, arith, append_assoc}
use Rattle.std.specs.Prelude.{int_lt}
use Rattle.std.proofs.lemmas.Bool.{ltb-true}
use Rattle.std.proofs.lemmas.Int.{ints}
use Rattle.vt_frac.specs.Arithmetic.{sum_of}
use Rattle.vt_frac.specs.Fraction.{Fraction, IsFraction}
use Rattle.vt_frac.proofs.SumLemmas.{sum-rises}
use Rattle.vt_ring.specs.Exact.{is_positive}
use Rattle.vt_event.specs.declared.place.Place.{Place}
use Rattle.vt_event.specs.Event.{EventView}
use Rattle.vt_event.specs.Order.{IsBefore, IsLexicographicallyBefore}
use Rattle.vt_event.specs.OrderLaws.{place_total}
use Rattle.vt_event.proofs.Order.{before-place, place-before}
use Rattle.vt_run.specs.declared.action.Action.{Action}
use Rattle.vt_run.specs.declared.action.Action.TheVariants.{Emit, Rest, Read, Wait, Spawn, End}
use Rattle.vt_run.specs.declared.action.Answer.{Answer}
use Rattle.vt_run.specs.declared.action.Answer.TheVariants.{Nothing, Found}
use Rattle.vt_run.specs.Actions.{is_past}
use Rattle.vt_run.specs.Pieces.{actions_of, listed}
use Rattle.vt_run.specs.laws.StandingLaws.{NextPlaceLaw}
use Rattle.vt_run.specs.laws.StepFacts.{EachWait, IsFoundSo}
use Rattle.vt_run.specs.laws.StepLaws.{HorizonLaw, RisingLaw}
use Rattle.vt_run.specs.Evaluation.{Step}
use Rattle.vt_run.specs.Threads.{acts, thread}
use Rattle.vt_run.proofs.growth.Closures.{Subject}
use Rattle.vt_run.proofs.steps.Moments.{Moment, first_moment, moment_after, moment_after_all, moment_is, moment_of}
use Rattle.vt_run.proofs.steps.RightRuns.{Behind, IsDone, IsOneDone, IsRun}
use Rattle.vt_run.proofs.steps.NextPlaces.{waits_after}
use Rattle.vt_run.proofs.steps.ThreadSteps.{evaluation, not_last, placed_law, places_law, some_left, steps_from, steps_whole}
use Rattle.vt_run.specs.Standing.{action_place, is_last_step, next_place, next_step, place_woken}

module _ (P : Place → EventView → Type 0) where
  -- the waits among further steps
  wait_behind : (action : Option Action) (actions : List Action) (now : Moment) → EachWait P (listed action ++ actions) now.stand.answers → EachWait P actions (moment_after action now).stand.answers
  wait_behind None actions now h = h
  wait_behind (Some action) actions now h = waits_after P action actions now.stand h

  wait_behind_all : (steps more : List Step) (now : Moment) → EachWait P (actions_of (steps ++ more)) now.stand.answers → EachWait P (actions_of more) (moment_after_all steps now).stand.answers
  wait_behind_all [] more now h = h
  wait_behind_all (step ∷ steps) more now h = wait_behind_all steps more (moment_after step.action now) (wait_behind step.action (actions_of (steps ++ more)) now h)

moment_joined : (steps more : List Step) (now : Moment) → moment_after_all (steps ++ more) now ≡ moment_after_all more (moment_after_all steps now)
moment_joined [] more now = refl
moment_joined (step ∷ steps) more now = moment_joined steps more (moment_after step.action now)

-- of each of these steps K holds, at its moment
abbrev Along : (Moment → Option Action → Type 0) → Moment → List Step → Type 0
Along K now [] = Unit {0}
Along K now (step ∷ steps) = K now step.action × Along K (moment_after step.action now) steps

-- a step is done, and it is not the last
abbrev GoesOn : Subject → Moment → Option Action → Type 0
GoesOn e now action = IsOneDone e now action × (is_last_step e.start.until now.stand.answers action ≡ false)

done_along : (e : Subject) (n : ℕ) (now : Moment) (steps rest : List Step) → IsRun e n now (steps ++ rest) None → Along (IsOneDone e) now steps
done_along e n now [] rest run = tt
done_along e n now (step ∷ steps) rest run = (run.0.does_one, go steps run.1 (λ run. done_along e (n - 1) (moment_after step.action now) steps rest run))
  where
    go : (steps : List Step) → Behind (is_last_step e.start.until now.stand.answers step.action) (steps ++ rest) None (IsRun e (n - 1) (moment_after step.action now) (steps ++ rest) None) →
        (IsRun e (n - 1) (moment_after step.action now) (steps ++ rest) None → Along (IsOneDone e) (moment_after step.action now) steps) → Along (IsOneDone e) (moment_after step.action now) steps
    go [] behind later = tt
    go (next ∷ steps) behind later =
        later (not_last (IsRun e (n - 1) (moment_after step.action now) (next ∷ steps ++ rest) None) (is_last_step e.start.until now.stand.answers step.action) (next ∷ steps ++ rest) None (some_left [] next (steps ++ rest)) behind).1

goes_along : (e : Subject) (n : ℕ) (now : Moment) (steps : List Step) (later : Step) (rest : List Step) → IsRun e n now (steps ++ later ∷ rest) None → Along (GoesOn e) now steps
goes_along e n now [] later rest run = tt
goes_along e n now (step ∷ steps) later rest run =
    let behind = not_last (IsRun e (n - 1) (moment_after step.action now) (steps ++ later ∷ rest) None) (is_last_step e.start.until now.stand.answers step.action) (steps ++ later ∷ rest) None (some_left steps later rest) run.1 in
    ((run.0.does_one, behind.0), goes_along e (n - 1) (moment_after step.action now) steps later rest behind.1)

-- what one action keeps of which K holds, where of each wait P holds
abbrev Keeps : (Moment → Option Action → Type 0) → (Place → EventView → Type 0) → (Moment → Type 0) → Type 0
Keeps K P Q = (now : Moment) (action : Action) (actions : List Action) → K now (Some action) → EachWait P (action ∷ actions) now.stand.answers → Q now → Q (moment_after (Some action) now)

module _ (K : Moment → Option Action → Type 0) (P : Place → EventView → Type 0) (Q : Moment → Type 0) (one : Keeps K P Q) where
  kept_by : (action : Option Action) (actions : List Action) (now : Moment) → K now action → EachWait P (listed action ++ actions) now.stand.answers → Q now → Q (moment_after action now)
  kept_by None actions now is waits q = q
  kept_by (Some action) actions now is waits q = one now action actions is waits q

  -- what each action keeps holds behind all steps
  kept_along : (now : Moment) (steps : List Step) → Along K now steps → EachWait P (actions_of steps) now.stand.answers → Q now → Q (moment_after_all steps now)
  kept_along now [] along waits q = q
  kept_along now (step ∷ steps) along waits q =
      kept_along (moment_after step.action now) steps along.1 (wait_behind P step.action (actions_of steps) now waits) (kept_by step.action (actions_of steps) now along.0 waits q)

-- that an answer stands above its wait, and that it stands below the horizon
abbrev Above : Place → EventView → Type 0
Above place event = IsBefore place event.place

abbrev Below : Fraction → Place → EventView → Type 0
Below until place event = is_past until event.place.time ≡ false

-- a place and that of the next action there
step_rises : (place : Place) → IsBefore place (next_step place)
step_rises place = before-place place (next_step place) (inr (refl, inr (refl, inr (refl, omega arith))))

above_zero : (n : ℤ) → int_lt (pos 0) n ≡ true → pos 0 <ℤ n
above_zero (pos n) h = omega (arith, ints, ltb-true 0 n h)
above_zero (negsuc n) h = absurd (let z : false ≡ true = h in cc)

-- a rest of a positive amount takes the place to a later time, and another one to the next step
rest_rises : (place : Place) (seconds : Fraction) (positive : Bool) → is_positive seconds ≡ positive → IsFraction place.time → IsFraction seconds →
    IsBefore place (next_step (cond positive (record place { time = sum_of place.time seconds; micro = 0 }) place))
rest_rises place seconds true is time fraction =
    before-place place (next_step (record place { time = sum_of place.time seconds; micro = 0 })) (inl (sum-rises place.time seconds time.positive fraction.positive (above_zero seconds.numer is)))
rest_rises place seconds false is time fraction = step_rises place

-- what stands one micro step behind an event that is above
wake_rises : (place event : Place) → IsLexicographicallyBefore place event → IsBefore place (next_step (record place { time = event.time; micro = event.micro + 1 }))
wake_rises place event (inl time) = before-place place (next_step (record place { time = event.time; micro = event.micro + 1 })) (inl time)
wake_rises place event (inr (time, inl micro)) =
    before-place place (next_step (record place { time = event.time; micro = event.micro + 1 })) (inr (time, inl (omega (arith, micro))))
wake_rises place event (inr (time, inr (micro, others))) =
    before-place place (next_step (record place { time = event.time; micro = event.micro + 1 })) (inr (time, inl (omega (arith, micro))))

wait_rises : (place : Place) (answers : List Answer) → IsFoundSo (Above place) answers → IsBefore place (next_step (place_woken answers place))
wait_rises place [] above = step_rises place
wait_rises place (Nothing ∷ answers) above = step_rises place
wait_rises place (Found event ∷ answers) above = wake_rises place event.place (place-before place event.place above)

-- each action takes the place further
action_rises : (e : Subject) → e.L → (now : Moment) (action : Action) (actions : List Action) → IsDone e now action → EachWait Above (action ∷ actions) now.stand.answers →
    IsBefore now.stand.place (moment_after (Some action) now).stand.place
action_rises e l now (Emit event) actions done above = step_rises now.stand.place
action_rises e l now (Rest place seconds) actions done above =
    rest_rises now.stand.place seconds (is_positive seconds) refl (subst (λ (p : Place). IsFraction p.time) done.placed (done.right l).0) (done.right l).1.fraction
action_rises e l now (Read place pattern) actions done above = step_rises now.stand.place
action_rises e l now (Wait place pattern stop) actions done above =
    wait_rises now.stand.place now.stand.answers (subst (λ (p : Place). IsFoundSo (Above p) now.stand.answers) done.placed above.0)
action_rises e l now (Spawn place start) actions done above = step_rises now.stand.place
action_rises e l now (End place reason) actions done above = step_rises now.stand.place

rises_further : (e : Subject) → e.L → (from : Place) → Keeps (IsOneDone e) Above (λ now. IsBefore from now.stand.place)
rises_further e l from now action actions done above before =
    place_total.trans from now.stand.place (moment_after (Some action) now).stand.place before (action_rises e l now action actions done above)

-- the steps from one with an action on
rises_from : (e : Subject) → e.L → (now : Moment) (step : Step) (action : Action) (between : List Step) → step.action ≡ Some action →
    Along (IsOneDone e) now (step ∷ between) → EachWait Above (actions_of (step ∷ between)) now.stand.answers →
    IsBefore now.stand.place (moment_after_all (step ∷ between) now).stand.place
rises_from e l now step action between some along above =
    let here : IsDone e now action = subst (λ (a : Option Action). IsOneDone e now a) some along.0 in
    let answered : EachWait Above (action ∷ actions_of between) now.stand.answers =
    subst (λ (a : Option Action). EachWait Above (listed a ++ actions_of between) now.stand.answers) some above in
    kept_along (IsOneDone e) Above (λ now'. IsBefore now.stand.place now'.stand.place) (rises_further e l now.stand.place) (moment_after step.action now) between along.1
    (wait_behind Above step.action (actions_of between) now above)
    (subst (λ (a : Option Action). IsBefore now.stand.place (moment_after a now).stand.place) (sym some) (action_rises e l now action (actions_of between) here answered))

pub next_place_law : NextPlaceLaw
next_place_law texts start answers prefix between step action given above are some =
    let e = evaluation texts start answers in
    let now : Moment = moment_of start answers prefix in
    let more : List Step = are.rest ++ drop are.bound (thread texts start answers are.bound).steps in
    let whole : acts texts start answers are.bound ≡ prefix ++ step ∷ (between ++ are.rest) = are.whole ∙ append_assoc prefix (step ∷ between) are.rest in
    let from = steps_from texts start answers are.bound prefix step (between ++ are.rest) whole in
    let behind : (between ++ are.rest) ++ drop are.bound (thread texts start answers are.bound).steps ≡ between ++ more = append_assoc between are.rest (drop are.bound (thread texts start answers are.bound).steps) in
    let run : IsRun e from.bound now (step ∷ between ++ more) None = subst (λ (xs : List Step). IsRun e from.bound now (step ∷ xs) None) behind from.run in
    let rises : IsBefore now.stand.place (moment_after_all (step ∷ between) now).stand.place =
    rises_from e given now step action between some (done_along e from.bound now (step ∷ between) more run) (wait_behind_all Above prefix (step ∷ between) (first_moment start answers) above) in
    let here : action_place action ≡ now.stand.place = placed_law texts start answers prefix step action (record { bound = are.bound; rest = between ++ are.rest; whole = whole }) some in
    let there : (moment_after_all (step ∷ between) now).stand.place ≡ next_place start answers (prefix ++ step ∷ between) =
    ap (λ (m : Moment). m.stand.place) (sym (moment_joined prefix (step ∷ between) (first_moment start answers)) ∙ moment_is start answers (prefix ++ step ∷ between)) in
    subst (λ (p : Place). IsBefore p (next_place start answers (prefix ++ step ∷ between))) (sym here) (subst (λ (p : Place). IsBefore now.stand.place p) there rises)

-- a later action stands where the thread stands after the steps before it
pub rising_law : RisingLaw
rising_law texts start answers prefix between step later action next given above is some more =
    subst (λ (p : Place). IsBefore (action_place action) p) (sym (places_law texts start answers (prefix ++ step ∷ between) later next is more))
    (next_place_law texts start answers prefix between step action given above (record { bound = is.bound; rest = later ∷ is.rest; whole = is.whole }) some)

rested_below : (until : Fraction) (place : Place) (time : Fraction) (positive : Bool) → is_past until place.time ≡ false → is_past until time ≡ false →
    is_past until (cond positive (record place { time = time; micro = 0 }) place).time ≡ false
rested_below until place time true here there = there
rested_below until place time false here there = here

woken_below : (until : Fraction) (place at : Place) (answers : List Answer) → IsFoundSo (Below until at) answers → is_past until place.time ≡ false → is_past until (place_woken answers place).time ≡ false
woken_below until place at [] above here = here
woken_below until place at (Nothing ∷ answers) above here = here
woken_below until place at (Found event ∷ answers) above here = above

-- each action that is not the last leaves the thread below the horizon
stays_below : (e : Subject) → Keeps (GoesOn e) (Below e.start.until) (λ now. is_past e.start.until now.stand.place.time ≡ false)
stays_below e now (Emit event) actions goes answered below = below
stays_below e now (Rest place seconds) actions goes answered below =
    rested_below e.start.until now.stand.place (sum_of now.stand.place.time seconds) (is_positive seconds) below (subst (λ (p : Place). is_past e.start.until (sum_of p.time seconds) ≡ false) goes.0.placed goes.1)
stays_below e now (Read place pattern) actions goes answered below = below
stays_below e now (Wait place pattern stop) actions goes answered below = woken_below e.start.until now.stand.place place now.stand.answers answered.0 below
stays_below e now (Spawn place start) actions goes answered below = below
stays_below e now (End place reason) actions goes answered below = below

pub horizon_law : HorizonLaw
horizon_law texts start answers prefix step began below is =
    let e = evaluation texts start answers in
    let run = steps_whole texts start answers is.bound prefix step is.rest is.whole in
    let goes = goes_along e is.bound (first_moment start answers) prefix step (is.rest ++ drop is.bound (thread texts start answers is.bound).steps) run in
    subst (λ (m : Moment). is_past start.until m.stand.place.time ≡ false) (moment_is start answers prefix)
    (kept_along (GoesOn e) (Below start.until) (λ now. is_past start.until now.stand.place.time ≡ false) (stays_below e) (first_moment start answers) prefix goes below began)
