-- Each step of a run keeps the rules, where the reads before it were answered as the rules say: this is kept by each part of a run.
use Rattle.std.proofs.Common.{◌≡◌, ◌≤◌, ℕ, zero, suc, ◌+◌, List, [], ◌∷◌, ◌++◌, Bool, true, false, cond, Option, Some, None, refl, sym, ap, ◌∙◌, subst, arith}
use Rattle.std.specs.Prelude.{slice_get, IsOk, IsTrue, is_some}
use Rattle.std.specs.List.{AllByRecursion}
use Rattle.vt_frac.specs.Fraction.{Fraction}
use Rattle.vt_path.specs.declared.pattern.Segment.{Segment}
use Rattle.vt_ring.specs.Exact.{exact_sum, is_positive}
use Rattle.vt_ring.proofs.limits.Values.{within_nil}
use Rattle.vt_value.specs.Limits.{IsWithin}
use Rattle.vt_run.proofs.steps.RightSteps.{answer_within, time_fits}
use Rattle.vt_event.specs.Event.{EventView}
use Rattle.vt_event.specs.Pairs.{Pairs}
use Rattle.vt_event.specs.declared.place.Place.{Place}
use Rattle.vt_event.specs.declared.references.BlockRef.{BlockRef}
use Rattle.vt_value.specs.declared.value.Value.{Value}
use Rattle.vt_value.specs.declared.value.Value.TheVariants.{Nil}
use Rattle.vt_run.specs.declared.action.Action.{Action}
use Rattle.vt_run.specs.declared.action.Action.TheVariants.{Emit, Rest, Read, Wait, Spawn, End}
use Rattle.vt_run.specs.declared.action.Answer.{Answer}
use Rattle.vt_run.specs.declared.action.Answer.TheVariants.{Nothing, Found}
use Rattle.vt_run.specs.declared.role.Role.{Role}
use Rattle.vt_run.specs.declared.state.State.{State}
use Rattle.vt_run.specs.Actions.{acted, answered, is_past, rested, stop_pattern, time_after, wakes_by, wakes_with, woken}
use Rattle.vt_run.specs.Costs.{spawn_cost}
use Rattle.vt_run.specs.Environment.{Body}
use Rattle.vt_run.specs.Evaluation.{Left, Next, Ran, Step, after, does, gives, goes_on, halts}
use Rattle.vt_run.specs.Limits.{IsAnswerWithin, IsEventWithin, IsPathWithin, IsSomePathWithin}
use Rattle.vt_run.specs.Scopes.{BlockMeaning}
use Rattle.vt_run.specs.calls.ThreadCalls.{has_spawned, spawns}
use Rattle.vt_run.proofs.facts.Known.{IsLike, IsStateWithin, place_in}
use Rattle.vt_run.proofs.growth.Closures.{Closure, Subject, answered_state}
use Rattle.vt_run.proofs.growth.Rules.{Rules}
use Rattle.vt_reach.proofs.Places.{none_some, one_some}
use Rattle.vt_reached.specs.Leading.{used_after}

-- an action that the rules allow
abbrev pub IsAllowedBy : Rules → Option Action → Type 0
IsAllowedBy rules (Some (Emit event)) = rules.Tells event
IsAllowedBy rules (Some (Spawn place child)) = rules.Starts child.role child.block
IsAllowedBy rules _ = Unit {0}

-- a read is answered as the rules say
abbrev pub IsAnsweredBy : Rules → Option Action → Option Answer → Type 0
IsAnsweredBy rules (Some (Read place pattern)) (Some answer) = rules.Hears pattern answer
IsAnsweredBy rules _ _ = Unit {0}

-- what is left, where so many answers are used: within the limits of the language
pub record IsLeftLed (used : ℕ) (l : Left) : Type 0 where
  pub used_is : l.state.used ≡ used
  pub value : IsWithin l.value
  pub state : IsStateWithin l.state

-- the steps from where so many answers are used, and what they leave
abbrev pub IsLedRun : Rules → List Answer → ℕ → List Step → Option Left → Type 0
IsLedRun rules answers used [] left = (l : Left) → left ≡ Some l → IsLeftLed used l
IsLedRun rules answers used (step ∷ steps) left =
    IsAllowedBy rules step.action × (IsAnsweredBy rules step.action (slice_get answers used) → IsLedRun rules answers (used_after step.action used) steps left)

abbrev pub Led : Subject → ℕ → State → Ran → Ran → Type 0
Led e n st a b = IsLedRun e.rules e.answers st.used a.steps a.left

module _ (rules : Rules) (answers : List Answer) where
  joins : (used : ℕ) (steps : List Step) (l : Left) (next : Ran) → IsLedRun rules answers used steps (Some l) → (IsLeftLed l.state.used l → IsLedRun rules answers l.state.used next.steps next.left) → IsLedRun rules answers used (steps ++ next.steps) next.left
  joins used [] l next h k =
      let left = h l refl in
      subst (λ (u : ℕ). IsLedRun rules answers u next.steps next.left) left.used_is (k (record { used_is = refl; value = left.value; state = left.state }))
  joins used (step ∷ steps) l next h k = (h.0, λ heard. joins (used_after step.action used) steps l next (h.1 heard) k)

  goes : (used : ℕ) (steps : List Step) (left : Option Left) (next : Next) → IsLedRun rules answers used steps left →
      ((l : Left) → left ≡ Some l → IsLeftLed l.state.used l → IsLedRun rules answers l.state.used (next l.value l.state).steps (next l.value l.state).left) → IsLedRun rules answers used (goes_on steps left next).steps (goes_on steps left next).left
  goes used steps None next h k = h
  goes used steps (Some l) next h k = joins used steps l (next l.value l.state) h (k l refl)

module _ (e : Subject) (known : e.L) (all : AllByRecursion IsAnswerWithin e.answers) where
  stops : (used : ℕ) → IsLedRun e.rules e.answers used [] None
  stops used l is = absurd (none_some is)

  asked_led : (pattern : List Segment) (st : State) (go : Answer → State → Ran) (found : Option Answer) → slice_get e.answers st.used ≡ found →
      ((answer : Answer) → (e.L → IsAnswerWithin answer) → (e.L → e.rules.Hears pattern answer) → IsLedRun e.rules e.answers (st.used + 1) (go answer (answered_state st)).steps (go answer (answered_state st)).left) →
      IsLedRun e.rules e.answers st.used (does 1 (Read (place_in e.start st) pattern) (answered found (acted st) go)).steps (does 1 (Read (place_in e.start st) pattern) (answered found (acted st) go)).left
  asked_led pattern st go None is h = (tt, λ heard. stops (st.used + 1))
  asked_led pattern st go (Some answer) is h =
      (tt, λ heard. h answer (λ l. answer_within e.answers st.used answer is all) (λ l. subst (IsAnsweredBy e.rules (Some (Read (place_in e.start st) pattern))) is heard))

  woken_led : (pattern : List Segment) (st : State) (event : EventView) (path : Option (List (List ℕ))) (go : List (List ℕ) → EventView → State → Ran) → event.path ≡ path → IsEventWithin event →
      ((path : List (List ℕ)) → (e.L → IsPathWithin path) → IsLedRun e.rules e.answers (st.used + 1) (go path event (woken event.place (answered_state st))).steps (go path event (woken event.place (answered_state st))).left) →
      IsLedRun e.rules e.answers (st.used + 1) (wakes_with path event (answered_state st) go).steps (wakes_with path event (answered_state st) go).left
  woken_led pattern st event None go is within h = stops (st.used + 1)
  woken_led pattern st event (Some path) go is within h = h path (λ l. subst IsSomePathWithin is within.path)

  waited_led : (pattern : List Segment) (st : State) (go : List (List ℕ) → EventView → State → Ran) (found : Option Answer) → slice_get e.answers st.used ≡ found →
      ((path : List (List ℕ)) (event : EventView) → (e.L → IsPathWithin path) → (e.L → IsEventWithin event) → IsLedRun e.rules e.answers (st.used + 1) (go path event (woken event.place (answered_state st))).steps (go path event (woken event.place (answered_state st))).left) →
      IsLedRun e.rules e.answers st.used (does 1 (Wait (place_in e.start st) pattern (stop_pattern e.start.role)) (answered found (acted st) (λ answer st. wakes_by answer st go))).steps
      (does 1 (Wait (place_in e.start st) pattern (stop_pattern e.start.role)) (answered found (acted st) (λ answer st. wakes_by answer st go))).left
  waited_led pattern st go None is h = (tt, λ heard. stops (st.used + 1))
  waited_led pattern st go (Some Nothing) is h = (tt, λ heard. stops (st.used + 1))
  waited_led pattern st go (Some (Found event)) is h =
      let within : IsEventWithin event = answer_within e.answers st.used (Found event) is all in
      (tt, λ heard. woken_led pattern st event event.path go refl within (λ path p. h path event p (λ l. within)))

  rest_left : (seconds : Fraction) (st : State) (positive : Bool) → IsOk (exact_sum st.time seconds) → IsStateWithin st →
      IsLeftLed st.used (record { value = Nil; state = cond positive (record (acted st) { time = time_after seconds st; micro = 0; moved = true }) (acted st) })
  rest_left seconds st true ok s = record { used_is = refl; value = within_nil; state = record { fraction = time_fits st.time seconds ok; pairs = s.pairs; set = s.set; counters = s.counters } }
  rest_left seconds st false ok s = record { used_is = refl; value = within_nil; state = record { fraction = s.fraction; pairs = s.pairs; set = s.set; counters = s.counters } }

  rested_led : (seconds : Fraction) (st : State) (past : Bool) → IsOk (exact_sum st.time seconds) → IsStateWithin st → IsLedRun e.rules e.answers st.used (does 1 (Rest (place_in e.start st) seconds) (cond past halts (gives Nil (rested seconds (acted st))))).steps
      (does 1 (Rest (place_in e.start st) seconds) (cond past halts (gives Nil (rested seconds (acted st))))).left
  rested_led seconds st true ok s = (tt, λ heard. stops st.used)
  rested_led seconds st false ok s = (tt, λ heard l is. subst (IsLeftLed st.used) (one_some is) (rest_left seconds st (is_positive seconds) ok s))

  -- the relation is kept by all parts of a run
  pub led : Closure (Led e) e
  led = record {
    less = λ {n} {m} {st} {a} {b} le h. h;
    alike = λ {n} {st} {other} {a} {b} is h. subst (λ (u : ℕ). IsLedRun e.rules e.answers u a.steps a.left) is.used h;
    given = λ n value st v s l is. subst (IsLeftLed st.used) (one_some is) (record { used_is = refl; value = v known; state = s known });
    bound = λ st b. stops st.used;
    spent = λ {n} {st} {a} {b} cost le h. (tt, λ heard. h);
    emitted = λ {n} {st} {a} {b} event told s h. (told.told known, λ heard. h);
    effected = λ {n} {st} {a} {b} name options symbol pairs s h. (e.quiet known _ refl, λ heard. h);
    ended = λ n st reason s. (tt, λ heard. stops st.used);
    followed = λ {n} {st} a b k k' h next. goes e.rules e.answers st.used a.steps a.left k h (λ l is left. next l is (λ x. left.value) (λ x. left.state));
    asked = λ n text turns turns' body body' pattern st go go' p s h. asked_led pattern st go (slice_get e.answers st.used) refl h;
    waited = λ n text turns turns' body body' pattern st go go' p s h. waited_led pattern st go (slice_get e.answers st.used) refl h;
    rested = λ n text turns turns' body body' seconds st ok r s. rested_led seconds st (is_past e.start.until (time_after seconds st)) ok (s known);
    spawned = λ n text turns turns' body body' role handed block st go go' nested r there may s h. (may known, λ heard. h);
  }
