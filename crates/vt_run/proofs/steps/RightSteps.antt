-- The steps of a thread are right, each at its moment: this is kept by each part of a run.
use Rattle.std.proofs.Common.{◌≡◌, ◌≤◌, ◌<◌, ℕ, zero, suc, ◌-◌, ◌+◌, List, [], ◌∷◌, length, drop, Bool, true, false, cond, Option, Some, None, Ok, Err, inl, inr, refl, ap, ◌∙◌, subst, arith}
use Rattle.std.specs.Prelude.{◌^◌, is_some, IsOk, IsTrue, not, slice_get}
use Rattle.std.specs.List.{AllByRecursion}
use Rattle.std.proofs.lemmas.List.{length-append}
use Rattle.std.proofs.Math.Nat.{add-zero}
use Rattle.vt_frac.specs.Arithmetic.{sum_of}
use Rattle.vt_frac.specs.Fraction.{Fraction, IsFraction, fits}
use Rattle.vt_path.specs.declared.pattern.Segment.{Segment}
use Rattle.vt_path.specs.Pattern.{IsPattern}
use Rattle.vt_rand.specs.Draw.{child_seed_of}
use Rattle.vt_rand.proofs.WordLemmas.{word_fits}
use Rattle.vt_ring.specs.Exact.{exact_sum, is_positive}
use Rattle.vt_ring.specs.Streams.{words_from}
use Rattle.vt_ring.proofs.limits.Values.{within_nil}
use Rattle.vt_ring.proofs.limits.Fractions.{fraction_from_fits, lowest_sum}
use Rattle.vt_value.specs.declared.fault.FaultKind.TheVariants.{Overflow}
use Rattle.vt_value.specs.declared.value.Value.{Value}
use Rattle.vt_value.specs.declared.value.Value.TheVariants.{Nil}
use Rattle.vt_value.specs.Limits.{IsWithin}
use Rattle.vt_frac.specs.Names.{is_symbol_name}
use Rattle.vt_event.specs.declared.place.Place.{Place}
use Rattle.vt_event.specs.declared.references.BlockRef.{BlockRef}
use Rattle.vt_event.specs.Event.{EventView}
use Rattle.vt_event.specs.EventsByKind.{fx_event}
use Rattle.vt_event.specs.Kinds.{has_path}
use Rattle.vt_event.specs.Pairs.{Pairs}
use Rattle.vt_event.proofs.Order.{before-place}
use Rattle.vt_run.specs.declared.action.Action.TheVariants.{Emit, Rest, Read, Wait, Spawn, End}
use Rattle.vt_run.specs.declared.action.Answer.{Answer}
use Rattle.vt_run.specs.declared.action.Answer.TheVariants.{Nothing, Found}
use Rattle.vt_run.specs.declared.action.EndReason.{EndReason}
use Rattle.vt_run.specs.declared.role.Role.{Role}
use Rattle.vt_run.specs.declared.state.State.{State}
use Rattle.vt_run.specs.Actions.{acted, answered, is_past, rested, stop_pattern, time_after, wakes_by, wakes_with, woken}
use Rattle.vt_run.specs.Costs.{emit_cost, spawn_cost}
use Rattle.vt_run.specs.Environment.{Body}
use Rattle.vt_run.specs.Limits.{ArePairsWithin, IsAnswerWithin, IsEventWithin, IsPathWithin, IsPatternWithin, IsRestWithin, IsRoleWithin, IsSomePathWithin, IsStartWithin}
use Rattle.vt_run.specs.Scopes.{BlockMeaning}
use Rattle.vt_run.specs.laws.StepFacts.{IsChild, IsEffectSmall}
use Rattle.vt_run.specs.Evaluation.{Left, Next, Ran, after, does, gives, halts, spends}
use Rattle.vt_run.specs.calls.ThreadCalls.{child_of, has_spawned, spawns}
use Rattle.vt_run.specs.Threads.{block_of, env_of}
use Rattle.vt_run.specs.WellMade.{IsWellMade}
use Rattle.vt_run.proofs.growth.Closures.{Closure, Subject, answered_state, effect_step, effected_state}
use Rattle.vt_run.proofs.facts.ArgumentFacts.{stop_within}
use Rattle.vt_run.proofs.facts.EventFacts.{fx_made, fx_within}
use Rattle.vt_run.proofs.facts.Known.{IsLike, IsStateWithin, IsTold, place_in}
use Rattle.vt_run.proofs.steps.Moments.{Moment, moment_after}
use Rattle.vt_run.proofs.steps.RightRuns.{IsDone, IsLeft, IsRun, Right, moment_in, run_begins, run_ends, run_goes_on, run_less}
use Rattle.vt_run.specs.Standing.{is_one_left, left_of, next_step, place_woken, wakes}

-- no child more
no_child : (st : State) (moment : ℕ → Moment) → moment (st.children + 0) ≡ moment st.children
no_child st moment = ap moment (add-zero st.children)

-- the answers that are left, with one at their prefix
answers_left : (answers : List Answer) (used : ℕ) (answer : Answer) → slice_get answers used ≡ Some answer → drop used answers ≡ answer ∷ drop (used + 1) answers
answers_left [] used answer h = absurd (let z : None ≡ Some answer = h in cc)
answers_left (first ∷ answers) zero answer h =
    let same : first ≡ answer = cc in
    let one : 1 ≡ zero + 1 = omega arith in
    ap (λ (x : Answer). x ∷ answers) same ∙ ap (λ (k : ℕ). answer ∷ drop k (first ∷ answers)) one
answers_left (first ∷ answers) (suc used) answer h =
    let next : suc (used + 1) ≡ suc used + 1 = omega arith in
    answers_left answers used answer h ∙ ap (λ (k : ℕ). answer ∷ drop k (first ∷ answers)) next

none_left : (answers : List Answer) (used : ℕ) → slice_get answers used ≡ None → drop used answers ≡ []
none_left [] zero h = refl
none_left [] (suc used) h = refl
none_left (first ∷ answers) zero h = absurd (let z : Some first ≡ None = h in cc)
none_left (first ∷ answers) (suc used) h = none_left answers used h

pub answer_within : (answers : List Answer) (used : ℕ) (answer : Answer) → slice_get answers used ≡ Some answer → AllByRecursion IsAnswerWithin answers → IsAnswerWithin answer
answer_within [] used answer h all = absurd (let z : None ≡ Some answer = h in cc)
answer_within (first ∷ answers) zero answer h all = let same : first ≡ answer = cc in subst IsAnswerWithin same all.0
answer_within (first ∷ answers) (suc used) answer h all = answer_within answers used answer h all.1

fits_if : (f : Fraction) (fit : Bool) → IsOk (cond fit (Ok f) (Err Overflow)) → fit ≡ true
fits_if f true h = refl
fits_if f false h = h

-- a time that fits
pub time_fits : (time seconds : Fraction) → IsOk (exact_sum time seconds) → IsFraction (sum_of time seconds)
time_fits time seconds h = fraction_from_fits (sum_of time seconds) (lowest_sum time seconds) (fits_if (sum_of time seconds) (fits (sum_of time seconds)) h)

seed_fits : (first second : ℕ) → first < 2 ^ 32 → second < 2 ^ 32 → child_seed_of first second < 2 ^ 64
unfolding child_seed_of
seed_fits first second a b = omega (arith, a, b)

-- after a rest the thread stands where its place leads, and holds what it held
rest_left : (e : Subject) (st : State) (seconds : Fraction) (positive : Bool) → IsOk (exact_sum st.time seconds) → (e.L → IsStateWithin st) → st.effects + e.start.place.step ≤ st.step →
    IsLeft e
    (record {
      stand = record { place = next_step (cond positive (record (place_in e.start st) { time = sum_of st.time seconds; micro = 0 }) (place_in e.start st)); answers = drop st.used e.answers };
      children = st.children + 0;
    })
    (record { value = Nil; state = cond positive (record (acted st) { time = time_after seconds st; micro = 0; moved = true }) (acted st) })
rest_left e st seconds true ok s effects = record {
  moment = no_child st (λ k. record {
    stand = record { place = record { time = sum_of st.time seconds; micro = 0; thread = e.start.place.thread; step = st.step + 1 }; answers = drop st.used e.answers };
    children = k;
  });
  value = λ l. within_nil;
  state = λ l. record { fraction = time_fits st.time seconds ok; pairs = (s l).pairs; set = (s l).set; counters = (s l).counters };
  effects = omega (arith, effects);
}
rest_left e st seconds false ok s effects = record {
  moment = no_child st (λ k. record { stand = record { place = next_step (place_in e.start st); answers = drop st.used e.answers }; children = k });
  value = λ l. within_nil;
  state = λ l. record { fraction = (s l).fraction; pairs = (s l).pairs; set = (s l).set; counters = (s l).counters };
  effects = omega (arith, effects);
}

module _ (e : Subject) where
  -- after an answer the thread stands at its next place, with the other answers left
  answer_used : (st : State) (answer : Answer) (place : Place) → slice_get e.answers st.used ≡ Some answer →
      ◌≡◌ {A = Moment} (record { stand = record { place = place; answers = left_of (drop st.used e.answers) }; children = st.children + 0 })
      (record { stand = record { place = place; answers = drop (st.used + 1) e.answers }; children = st.children })
  answer_used st answer place is =
      ap (λ (answers : List Answer). record { stand = record { place = place; answers = left_of answers }; children = st.children + 0 }) (answers_left e.answers st.used answer is)
      ∙ no_child st (λ k. record { stand = record { place = place; answers = drop (st.used + 1) e.answers }; children = k })

  -- an event, and what comes behind it
  emits_right : (n : ℕ) (st : State) (event : EventView) (ran : Ran) → event.place ≡ place_in e.start st → is_some event.path ≡ has_path event.kind →
      (IsEffectSmall e.start event → IsWellMade event × (e.L → IsEventWithin event)) →
      IsRun e (n - 1) (moment_in e.start e.answers (acted st)) ran.steps ran.left → IsRun e n (moment_in e.start e.answers st) (does (emit_cost event) (Emit event) ran).steps ran.left
  emits_right n st event ran placed path told h =
      run_begins e n (moment_in e.start e.answers st) (moment_in e.start e.answers (acted st)) (emit_cost event) (Emit event) ran (omega arith) (record { placed = placed; right = (path, told) }) refl
      (no_child st (λ k. record { stand = (moment_in e.start e.answers (acted st)).stand; children = k })) h

  fewer_right : (n : ℕ) (st : State) (ran : Ran) → IsRun e n (moment_in e.start e.answers st) ran.steps ran.left → IsRun e (suc n - 1) (moment_in e.start e.answers st) ran.steps ran.left
  fewer_right n st ran h =
      let fewer : suc n - 1 ≤ n = omega arith in
      run_less e n (suc n - 1) (moment_in e.start e.answers st) ran.steps ran.left fewer h

  alike_right : (n : ℕ) (st other : State) (a b : Ran) → IsLike st other → Right e n other a b → Right e n st a b
  alike_right n st other a b like h effects =
      let same : moment_in e.start e.answers other ≡ moment_in e.start e.answers st =
      ap (λ (x : Fraction). record { stand = record { place = record { time = x; micro = other.micro; thread = e.start.place.thread; step = other.step }; answers = drop other.used e.answers }; children = other.children }) like.time
      ∙ ap (λ (x : ℕ). record { stand = record { place = record { time = st.time; micro = x; thread = e.start.place.thread; step = other.step }; answers = drop other.used e.answers }; children = other.children }) like.micro
      ∙ ap (λ (x : ℕ). record { stand = record { place = record { time = st.time; micro = st.micro; thread = e.start.place.thread; step = x }; answers = drop other.used e.answers }; children = other.children }) like.step
      ∙ ap (λ (x : ℕ). record { stand = record { place = place_in e.start st; answers = drop x e.answers }; children = other.children }) like.used
      ∙ ap (λ (x : ℕ). record { stand = record { place = place_in e.start st; answers = drop st.used e.answers }; children = x }) like.children in
      subst (λ (m : Moment). IsRun e n m a.steps a.left) same (h (omega (arith, effects, like.effects, like.step)))

  given_right : (n : ℕ) (value : Value) (st : State) → (e.L → IsWithin value) → (e.L → IsStateWithin st) → Right e n st (gives value st) (gives value st)
  given_right n value st v s effects = record { moment = refl; value = v; state = s; effects = effects }

  bound_right : (st : State) (b : Ran) → Right e 0 st halts b
  bound_right st b effects = omega arith

  spent_right : (n : ℕ) (st : State) (a b : Ran) (cost : ℕ) → 1 ≤ cost → Right e n st a b → Right e (suc n) st (spends cost a) (spends cost b)
  spent_right n st a b cost le h effects = (record { costs = le; does_one = tt }, fewer_right n st a (h effects))

  emitted_right : (n : ℕ) (st : State) (a b : Ran) (event : EventView) → IsTold e.L e.rules.Tells (place_in e.start st) event → Right e n (acted st) a b →
      Right e (suc n) st (does (emit_cost event) (Emit event) a) (does (emit_cost event) (Emit event) b)
  emitted_right n st a b event told h effects =
      emits_right (suc n) st event a told.placed told.made.fields.path_with_kind (λ small. (told.made, told.within)) (fewer_right n (acted st) a (h (omega (arith, effects))))

  effected_right : (n : ℕ) (st : State) (a b : Ran) (name : List ℕ) (options : Pairs) → (e.L → IsTrue (is_symbol_name name)) → (e.L → ArePairsWithin options) → (e.L → IsStateWithin st) →
      Right e n (effected_state st) a b → Right e (suc n) st (effect_step e.start name options st a) (effect_step e.start name options st b)
  effected_right n st a b name options symbol pairs s h effects =
      emits_right (suc n) st (fx_event (place_in e.start st) name (st.effects + 1) options st.settings.fx) a refl refl (λ small.
      let number : st.effects + 1 < 2 ^ 32 = omega (arith, effects, (small refl).0, (small refl).1) in (
        fx_made (place_in e.start st) name (st.effects + 1) options st.settings.fx number,
        λ l. fx_within (place_in e.start st) name (st.effects + 1) options st.settings.fx (s l).fraction (symbol l) (pairs l) (omega (arith, number)),
      ))
      (fewer_right n (acted st) a (h (omega (arith, effects))))

  ended_right : (n : ℕ) (st : State) (reason : EndReason) → (e.L → IsStateWithin st) →
      Right e n st (does 1 (End (place_in e.start st) reason) halts) (does 1 (End (place_in e.start st) reason) halts)
  ended_right n st reason s effects =
      run_ends e n (moment_in e.start e.answers st) 1 (End (place_in e.start st) reason) (omega arith) (record { placed = refl; right = λ l. (s l).fraction }) refl

  followed_right : (n : ℕ) (st : State) (a b : Ran) (k k' : Next) → Right e n st a b →
      ((l : Left) → a.left ≡ Some l → (e.L → IsWithin l.value) → (e.L → IsStateWithin l.state) → Right e n l.state (k l.value l.state) (k' l.value l.state)) →
      Right e n st (after a k) (after b k')
  followed_right n st a b k k' h next effects =
      run_goes_on e n (moment_in e.start e.answers st) a.steps a.left k (h effects) (λ l is left. next l is left.value left.state left.effects)

  asked_right : (n : ℕ) (st : State) (pattern : List Segment) (go go' : Answer → State → Ran) (found : Option Answer) → slice_get e.answers st.used ≡ found →
      (e.L → AllByRecursion IsAnswerWithin e.answers) → (e.L → IsPatternWithin pattern) → (e.L → IsStateWithin st) →
      ((answer : Answer) → (e.L → IsAnswerWithin answer) → Right e n (answered_state st) (go answer (answered_state st)) (go' answer (answered_state st))) →
      st.effects + e.start.place.step ≤ st.step →
      IsRun e (suc n) (moment_in e.start e.answers st) (does 1 (Read (place_in e.start st) pattern) (answered found (acted st) go)).steps (does 1 (Read (place_in e.start st) pattern) (answered found (acted st) go)).left
  asked_right n st pattern go go' None is all p s h effects =
      run_ends e (suc n) (moment_in e.start e.answers st) 1 (Read (place_in e.start st) pattern) (omega arith) (record { placed = refl; right = λ l. ((s l).fraction, p l) })
      (ap (λ (answers : List Answer). not (is_one_left answers)) (none_left e.answers st.used is))
  asked_right n st pattern go go' (Some answer) is all p s h effects =
      run_begins e (suc n) (moment_in e.start e.answers st) (moment_in e.start e.answers (answered_state st)) 1 (Read (place_in e.start st) pattern) (go answer (answered_state st)) (omega arith)
      (record { placed = refl; right = λ l. ((s l).fraction, p l) })
      (ap (λ (answers : List Answer). not (is_one_left answers)) (answers_left e.answers st.used answer is))
      (answer_used st answer (place_in e.start (acted st)) is)
      (fewer_right n (answered_state st) (go answer (answered_state st)) (h answer (λ l. answer_within e.answers st.used answer is (all l)) (omega (arith, effects))))

  -- a wait, at its moment
  wait_done : (st : State) (pattern : List Segment) → (e.L → IsPattern pattern) → (e.L → IsStateWithin st) →
      IsDone e (moment_in e.start e.answers st) (Wait (place_in e.start st) pattern (stop_pattern e.start.role))
  wait_done st pattern p s = record { placed = refl; right = (refl, λ l. ((s l).fraction, p l, stop_within e.start.role (e.within l).role)) }

  -- what a wait leads to, by the path of its event
  woken_right : (n : ℕ) (st : State) (pattern : List Segment) (go : List (List ℕ) → EventView → State → Ran) (event : EventView) (path : Option (List (List ℕ))) →
      slice_get e.answers st.used ≡ Some (Found event) → event.path ≡ path →
      (e.L → AllByRecursion IsAnswerWithin e.answers) → (e.L → IsPattern pattern) → (e.L → IsStateWithin st) →
      ((path : List (List ℕ)) → (e.L → IsPathWithin path) → (e.L → IsEventWithin event) → IsRun e n (moment_in e.start e.answers (woken event.place (answered_state st))) (go path event (woken event.place (answered_state st))).steps (go path event (woken event.place (answered_state st))).left) →
      IsRun e (suc n) (moment_in e.start e.answers st) (does 1 (Wait (place_in e.start st) pattern (stop_pattern e.start.role)) (wakes_with path event (answered_state st) go)).steps
      (does 1 (Wait (place_in e.start st) pattern (stop_pattern e.start.role)) (wakes_with path event (answered_state st) go)).left
  woken_right n st pattern go event None is none all p s h =
      run_ends e (suc n) (moment_in e.start e.answers st) 1 (Wait (place_in e.start st) pattern (stop_pattern e.start.role)) (omega arith) (wait_done st pattern p s)
      (ap (λ (answers : List Answer). not (wakes answers)) (answers_left e.answers st.used (Found event) is) ∙ ap (λ (path : Option (List (List ℕ))). not (is_some path)) none)
  woken_right n st pattern go event (Some path) is some all p s h =
      let awake : State = woken event.place (answered_state st) in
      let event_within : e.L → IsEventWithin event = λ l. answer_within e.answers st.used (Found event) is (all l) in
      run_begins e (suc n) (moment_in e.start e.answers st) (moment_in e.start e.answers awake) 1 (Wait (place_in e.start st) pattern (stop_pattern e.start.role))
      (go path event awake) (omega arith) (wait_done st pattern p s)
      (ap (λ (answers : List Answer). not (wakes answers)) (answers_left e.answers st.used (Found event) is) ∙ ap (λ (path : Option (List (List ℕ))). not (is_some path)) some)
      (ap (λ (answers : List Answer). record { stand = record { place = next_step (place_woken answers (place_in e.start st)); answers = left_of answers }; children = st.children + 0 }) (answers_left e.answers st.used (Found event) is)
      ∙ no_child st (λ k. record { stand = record { place = place_in e.start awake; answers = drop (st.used + 1) e.answers }; children = k }))
      (fewer_right n awake (go path event awake) (h path (λ l. subst IsSomePathWithin some (event_within l).path) event_within))

  waited_right : (n : ℕ) (st : State) (pattern : List Segment) (go : List (List ℕ) → EventView → State → Ran) (found : Option Answer) → slice_get e.answers st.used ≡ found →
      (e.L → AllByRecursion IsAnswerWithin e.answers) → (e.L → IsPattern pattern) → (e.L → IsStateWithin st) →
      ((path : List (List ℕ)) (event : EventView) → (e.L → IsPathWithin path) → (e.L → IsEventWithin event) → IsRun e n (moment_in e.start e.answers (woken event.place (answered_state st))) (go path event (woken event.place (answered_state st))).steps (go path event (woken event.place (answered_state st))).left) →
      IsRun e (suc n) (moment_in e.start e.answers st) (does 1 (Wait (place_in e.start st) pattern (stop_pattern e.start.role)) (answered found (acted st) (λ answer st. wakes_by answer st go))).steps
      (does 1 (Wait (place_in e.start st) pattern (stop_pattern e.start.role)) (answered found (acted st) (λ answer st. wakes_by answer st go))).left
  waited_right n st pattern go None is all p s h =
      run_ends e (suc n) (moment_in e.start e.answers st) 1 (Wait (place_in e.start st) pattern (stop_pattern e.start.role)) (omega arith) (wait_done st pattern p s)
      (ap (λ (answers : List Answer). not (wakes answers)) (none_left e.answers st.used is))
  waited_right n st pattern go (Some Nothing) is all p s h =
      run_ends e (suc n) (moment_in e.start e.answers st) 1 (Wait (place_in e.start st) pattern (stop_pattern e.start.role)) (omega arith) (wait_done st pattern p s)
      (ap (λ (answers : List Answer). not (wakes answers)) (answers_left e.answers st.used Nothing is))
  waited_right n st pattern go (Some (Found event)) is all p s h =
      woken_right n st pattern go event event.path is refl all p s (λ path. h path event)

  rested_right : (n : ℕ) (st : State) (seconds : Fraction) (past : Bool) → is_past e.start.until (time_after seconds st) ≡ past → IsOk (exact_sum st.time seconds) →
      (e.L → IsRestWithin seconds) → (e.L → IsStateWithin st) → st.effects + e.start.place.step ≤ st.step →
      IsRun e n (moment_in e.start e.answers st) (does 1 (Rest (place_in e.start st) seconds) (cond past halts (gives Nil (rested seconds (acted st))))).steps
      (does 1 (Rest (place_in e.start st) seconds) (cond past halts (gives Nil (rested seconds (acted st))))).left
  rested_right n st seconds true is ok r s effects =
      run_ends e n (moment_in e.start e.answers st) 1 (Rest (place_in e.start st) seconds) (omega arith) (record { placed = refl; right = λ l. ((s l).fraction, r l, time_fits st.time seconds ok) }) is
  rested_right n st seconds false is ok r s effects =
      run_begins e n (moment_in e.start e.answers st) (moment_after (Some (Rest (place_in e.start st) seconds)) (moment_in e.start e.answers st)) 1 (Rest (place_in e.start st) seconds)
      (gives Nil (rested seconds (acted st))) (omega arith) (record { placed = refl; right = λ l. ((s l).fraction, r l, time_fits st.time seconds ok) }) is refl
      (rest_left e st seconds (is_positive seconds) ok s effects)

  child_right : (text turns : ℕ) (body : BlockRef → Option Body) (role : Role) (block : BlockMeaning) (st : State) → length e.start.place.thread < 32 →
      IsChild e.start (place_in e.start st) st.children (child_of role block (env_of e.start text e.answers turns body) st)
  child_right text turns body role block st nested = record {
    thread = refl;
    time = refl;
    micro = refl;
    step = refl;
    until = refl;
    nested = omega (arith, length-append e.start.place.thread ((st.children + 1) ∷ []));
    above = before-place (place_in e.start st) (child_of role block (env_of e.start text e.answers turns body) st).place
        (inr (refl, inr (refl, inl (inl (record { next = st.children + 1; rest = []; whole = refl })))));
    stream = st.stream;
    seed = refl;
  }

  child_within : (text turns : ℕ) (body : BlockRef → Option Body) (role : Role) (block : BlockMeaning) (st : State) → IsFraction e.start.until → IsRoleWithin role → IsStateWithin st →
      IsStartWithin (child_of role block (env_of e.start text e.answers turns body) st)
  child_within text turns body role block st until r s = record {
    time = s.fraction;
    locals = s.pairs;
    settings = s.set;
    seed = seed_fits (words_from st.stream 0) (words_from st.stream 1) (word_fits st.stream.seed (st.stream.drawn + 0)) (word_fits st.stream.seed (st.stream.drawn + 1));
    role = r;
    until = until;
  }

  spawned_right : (n text turns : ℕ) (body : BlockRef → Option Body) (role : Role) (handed : ℕ) (block : BlockMeaning) (st : State) (go : State → Ran) → length e.start.place.thread < 32 → (e.L → IsRoleWithin role) →
      (e.L → IsTrue (is_some (block_of e.texts (record { text = text; block = block.number })))) → (e.L → IsStateWithin st) →
      IsRun e n (moment_in e.start e.answers (has_spawned st)) (go (has_spawned st)).steps (go (has_spawned st)).left →
      IsRun e (suc n) (moment_in e.start e.answers st) (spawns role handed block (env_of e.start text e.answers turns body) st go).steps (spawns role handed block (env_of e.start text e.answers turns body) st go).left
  spawned_right n text turns body role handed block st go nested r there s h =
      run_begins e (suc n) (moment_in e.start e.answers st) (moment_in e.start e.answers (has_spawned st)) (spawn_cost st.locals handed) (Spawn (place_in e.start st) (child_of role block (env_of e.start text e.answers turns body) st))
      (go (has_spawned st)) (omega arith)
      (record {
        placed = refl;
        right = (child_right text turns body role block st nested, there, λ l. ((s l).fraction, child_within text turns body role block st (e.within l).until (r l) (s l)));
      })
      refl refl (fewer_right n (has_spawned st) (go (has_spawned st)) h)

  -- the relation is kept by all parts of a run
  pub right : ((pattern : List Segment) (answer : Answer) → e.L → e.rules.Hears pattern answer) → (e.L → AllByRecursion IsAnswerWithin e.answers) → Closure (Right e) e
  right heard all = record {
    less = λ {n} {m} {st} {a} {b} le h effects. run_less e n m (moment_in e.start e.answers st) a.steps a.left le (h effects);
    alike = λ {n} {st} {other} {a} {b} like h. alike_right n st other a b like h;
    given = given_right;
    bound = bound_right;
    spent = λ {n} {st} {a} {b} cost le h. spent_right n st a b cost le h;
    emitted = λ {n} {st} {a} {b} event told s h. emitted_right n st a b event told h;
    effected = λ {n} {st} {a} {b} name options symbol pairs s h. effected_right n st a b name options symbol pairs s h;
    ended = ended_right;
    followed = λ {n} {st} a b k k' h next. followed_right n st a b k k' h next;
    asked = λ n text turns turns' body body' pattern st go go' p s h effects. asked_right n st pattern go go' (slice_get e.answers st.used) refl all p s (λ answer a. h answer a (heard pattern answer)) effects;
    waited = λ n text turns turns' body body' pattern st go go' p s h effects. waited_right n st pattern go (slice_get e.answers st.used) refl all p s (λ path event q v. h path event q v (omega (arith, effects)));
    rested = λ n text turns turns' body body' seconds st ok r s effects. rested_right n st seconds (is_past e.start.until (time_after seconds st)) refl ok r s effects;
    spawned = λ n text turns turns' body body' role handed block st go go' nested r there may s h effects. spawned_right n text turns body role handed block st go nested r there s (h (omega (arith, effects)));
  }
