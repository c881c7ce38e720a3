-- The threads of texts have the laws of steps, from the laws of a thread.
use Rattle.std.proofs.Common.{◌≡◌, ℕ, zero, suc, ◌+◌, ◌<◌, ◌≤◌, List, [], ◌∷◌, ◌++◌, length, take, drop, refl, sym, ◌∙◌, ap, inl, inr, ◌⊎◌, arith, Bool, true, false, subst, Option, Some, None, length-append, length-take, append_assoc, append-nil, take-append-drop}
use Rattle.std.specs.Prelude.{slice_get, cond, count_by, is_some}
use Rattle.std.proofs.lemmas.Bool.{cases_lt}
use Rattle.std.proofs.lemmas.List.Sums.{sum_by-cons}
use Rattle.vt_frac.specs.Arithmetic.{sum_of}
use Rattle.vt_frac.specs.Fraction.{Fraction}
use Rattle.vt_path.specs.declared.pattern.Segment.{Segment}
use Rattle.vt_event.specs.declared.place.Place.{Place}
use Rattle.vt_event.specs.Event.{EventView}
use Rattle.vt_run.specs.declared.action.Action.{Action}
use Rattle.vt_run.specs.declared.action.Action.TheVariants.{Emit, Rest, Read, Wait, Spawn, End}
use Rattle.vt_run.specs.declared.action.Answer.{Answer}
use Rattle.vt_run.specs.declared.action.Answer.TheVariants.{Nothing, Found}
use Rattle.vt_run.specs.declared.start.Start.{Start}
use Rattle.vt_run.specs.declared.texts.Texts.{Texts}
use Rattle.vt_run.specs.Actions.{is_past}
use Rattle.vt_run.specs.Evaluation.{Step}
use Rattle.vt_run.specs.Pieces.{actions_of, listed}
use Rattle.vt_run.specs.Standing.{Asks, Asleep, Over, Ready, Stance, Stand, Waits, action_place, next_step, place_rested, stance_after, stance_of, stance_rested, stance_waiting, stand_after, stand_after_all, stand_of, stands_at}
use Rattle.vt_run.specs.Threads.{acts}
use Rattle.vt_run.specs.laws.StandingLaws.{AreSteps, IsNext, StandingLaw}
use Rattle.vt_run.specs.laws.StepFacts.{starts_in, starts_in_one}
use Rattle.vt_run.specs.laws.StepLaws.{AnswersLaw, ChildrenLaw, CostsLaw, IsStep, PlacesLaw, PrefixLaw}
use Rattle.vt_meaning.specs.Places.{Before}
use Rattle.vt_meaning.specs.RealLaws.{TextsAct, TextsArePrompt, TextsStand, TextsStartLow, threads_with}
use Rattle.vt_meaning.specs.Session.{with_horizon}
use Rattle.vt_meaning.specs.ThreadLaws.{is_spawn, starts_one}
use Rattle.vt_meaning.specs.ThreadMeaning.{ThreadMeaning}
use Rattle.vt_meaning.specs.Traces.{Entry, Thread, after_rest, after_step, is_ask, paired, rested, standing, stands, trace, wake, woken_by}

none_some : {A : Type 0} {x : A} → ◌≡◌ {A = Option A} None (Some x) → ⊥
none_some h = cc

-- the first i items, and the one behind them with what follows it
pub cut_at : {A : Type 0} (xs : List A) (i : ℕ) (x : A) → slice_get xs i ≡ Some x → (rest : List A) × (xs ≡ take i xs ++ x ∷ rest)
cut_at [] i x h = absurd (none_some h)
cut_at (y ∷ ys) zero x h = (ys, (let e : Some y ≡ Some x = h in let same : y ≡ x = cc e in ap (λ z. z ∷ ys) same))
cut_at (y ∷ ys) (suc i) x h = let c = cut_at ys i x h in (c.0, ap (λ l. y ∷ l) c.1)

-- the answer of a step, and the answers that it leaves
abbrev pub answer_for : Option Action → List Answer → Option Answer
answer_for action [] = None
answer_for action (answer ∷ answers) = cond (is_ask action) (Some answer) None

abbrev pub left_for : Option Action → List Answer → List Answer
left_for action [] = []
left_for action (answer ∷ answers) = cond (is_ask action) answers (answer ∷ answers)

pub paired_cons : (x : Step) (xs : List Step) (answers : List Answer) →
    paired (x ∷ xs) answers ≡ record { step = x; answer = answer_for x.action answers } ∷ paired xs (left_for x.action answers)
paired_cons x xs [] = refl
paired_cons x xs (answer ∷ answers) = go (is_ask x.action)
  where
    go : (asks : Bool) → cond asks (record { step = x; answer = Some answer } ∷ paired xs answers) (record { step = x; answer = None } ∷ paired xs (answer ∷ answers))
        ≡ record { step = x; answer = cond asks (Some answer) None } ∷ paired xs (cond asks answers (answer ∷ answers))
    go true = refl
    go false = refl

-- pairing goes from the front, so a part of the steps is paired as in the whole
pub first_paired : (xs : List Step) (answers : List Answer) (i : ℕ) → take i (paired xs answers) ≡ paired (take i xs) answers
first_paired xs answers zero = refl
first_paired [] answers (suc i) = refl
first_paired (x ∷ xs) answers (suc i) =
    ap (take (suc i)) (paired_cons x xs answers)
    ∙ ap (λ l. record { step = x; answer = answer_for x.action answers } ∷ l) (first_paired xs (left_for x.action answers) i)
    ∙ sym (paired_cons x (take i xs) answers)

-- an entry is that of its step
pub step_in : (xs : List Step) (answers : List Answer) (i : ℕ) (entry : Entry) → slice_get (paired xs answers) i ≡ Some entry → slice_get xs i ≡ Some entry.step
step_in [] answers i entry h = absurd (none_some h)
step_in (x ∷ xs) answers zero entry h =
    let e : Some (record { step = x; answer = answer_for x.action answers }) ≡ Some entry = sym (ap (λ l. slice_get l 0) (paired_cons x xs answers)) ∙ h in
    let same : record { step = x; answer = answer_for x.action answers } ≡ entry = cc e in
    ap (λ (y : Entry). Some y.step) same
step_in (x ∷ xs) answers (suc i) entry h = step_in xs (left_for x.action answers) i entry (sym (ap (λ l. slice_get l (suc i)) (paired_cons x xs answers)) ∙ h)

-- the threads that steps start, counted either way
spawns_one : (action : Option Action) → cond (starts_one action) 1 0 ≡ starts_in_one action
spawns_one None = refl
spawns_one (Some (Emit event)) = refl
spawns_one (Some (Rest place seconds)) = refl
spawns_one (Some (Read place pattern)) = refl
spawns_one (Some (Wait place pattern stop)) = refl
spawns_one (Some (Spawn place start)) = refl
spawns_one (Some (End place reason)) = refl

spawns_in : (xs : List Step) (answers : List Answer) → count_by is_spawn (paired xs answers) ≡ starts_in xs
spawns_in [] answers = refl
spawns_in (x ∷ xs) answers =
    let entry : Entry = record { step = x; answer = answer_for x.action answers } in
    let first = sum_by-cons (λ (y : Entry). cond (is_spawn y) 1 0) entry (paired xs (left_for x.action answers)) in
    let one = spawns_one x.action in
    let rest = spawns_in xs (left_for x.action answers) in
    ap (count_by is_spawn) (paired_cons x xs answers) ∙ first ∙ ap (λ n. n + count_by is_spawn (paired xs (left_for x.action answers))) one ∙ ap (λ n. starts_in_one x.action + n) rest

-- where a thread stands after a step
abbrev stand_on : Option Action → Stand → Stand
stand_on None stand = stand
stand_on (Some action) stand = stand_after action stand

abbrev stance_on : Fraction → Stance → Option Action → Stand → Stance
stance_on until stance None stand = stance
stance_on until stance (Some action) stand = stance_after until action stand.answers (stand_after action stand).place

stand_first : (action : Option Action) (actions : List Action) (stand : Stand) → stand_after_all (listed action ++ actions) stand ≡ stand_after_all actions (stand_on action stand)
stand_first None actions stand = refl
stand_first (Some action) actions stand = refl

stance_first : (until : Fraction) (stance : Stance) (action : Option Action) (actions : List Action) (stand : Stand) →
    stance_of until stance (listed action ++ actions) stand ≡ stance_of until (stance_on until stance action stand) actions (stand_on action stand)
stance_first until stance None actions stand = refl
stance_first until stance (Some action) actions stand = refl

stand_last : (xs : List Step) (x : Step) (stand : Stand) → stand_after_all (actions_of (xs ++ x ∷ [])) stand ≡ stand_on x.action (stand_after_all (actions_of xs) stand)
stand_last [] x stand = stand_first x.action [] stand
stand_last (y ∷ ys) x stand =
    stand_first y.action (actions_of (ys ++ x ∷ [])) stand ∙ stand_last ys x (stand_on y.action stand) ∙ ap (stand_on x.action) (sym (stand_first y.action (actions_of ys) stand))

answers_on : (action : Option Action) (place : Place) (answers : List Answer) → (stand_on action (record { place = place; answers = answers })).answers ≡ left_for action answers
answers_on None place [] = refl
answers_on None place (answer ∷ answers) = refl
answers_on (Some (Emit event)) place [] = refl
answers_on (Some (Emit event)) place (answer ∷ answers) = refl
answers_on (Some (Rest at seconds)) place [] = refl
answers_on (Some (Rest at seconds)) place (answer ∷ answers) = refl
answers_on (Some (Read at pattern)) place [] = refl
answers_on (Some (Read at pattern)) place (answer ∷ answers) = refl
answers_on (Some (Wait at pattern stop)) place [] = refl
answers_on (Some (Wait at pattern stop)) place (answer ∷ answers) = refl
answers_on (Some (Spawn at start)) place [] = refl
answers_on (Some (Spawn at start)) place (answer ∷ answers) = refl
answers_on (Some (End at reason)) place [] = refl
answers_on (Some (End at reason)) place (answer ∷ answers) = refl

-- each action stands where its thread does
abbrev ArePlaced : Stand → List Step → Type 0
ArePlaced stand [] = Unit {0}
ArePlaced stand (x ∷ xs) = ((action : Action) → x.action ≡ Some action → action_place action ≡ stand.place) × ArePlaced (stand_on x.action stand) xs

first_placed : (stand : Stand) (xs ys : List Step) → ArePlaced stand (xs ++ ys) → ArePlaced stand xs
first_placed stand [] ys placed = tt
first_placed stand (x ∷ xs) ys placed = (placed.0, first_placed (stand_on x.action stand) xs ys placed.1)

-- a step of a thread leads to the same stance, said either way
step_stands : (until : Fraction) (stance : Stance) (action : Option Action) (place : Place) (answers : List Answer) → ((done : Action) → action ≡ Some done → action_place done ≡ place) →
    after_step until stance action (answer_for action answers) ≡ stance_on until stance action (record { place = place; answers = answers })
step_stands until stance None place answers placed = refl
step_stands until stance (Some (Emit event)) place answers placed = ap (λ (p : Place). Ready (next_step p)) (placed (Emit event) refl)
step_stands until stance (Some (Rest at seconds)) place answers placed = go (is_past until (sum_of at.time seconds))
  where
    go : (past : Bool) → after_rest past at seconds ≡ stance_rested past (sum_of at.time seconds) (next_step (place_rested seconds place))
    go true = refl
    go false = ap (λ (p : Place). Ready (rested p seconds)) (placed (Rest at seconds) refl)
step_stands until stance (Some (Read at pattern)) place [] placed = refl
step_stands until stance (Some (Read at pattern)) place (answer ∷ answers) placed = ap (λ (p : Place). Ready (next_step p)) (placed (Read at pattern) refl)
step_stands until stance (Some (Wait at pattern stop)) place [] placed = refl
step_stands until stance (Some (Wait at pattern stop)) place (Nothing ∷ answers) placed = refl
step_stands until stance (Some (Wait at pattern stop)) place (Found event ∷ answers) placed = go (is_some event.path)
  where
    go : (awake : Bool) → woken_by event awake at ≡ stance_waiting true awake at pattern stop (wake event place)
    go true = ap (λ (p : Place). Ready (wake event p)) (placed (Wait at pattern stop) refl)
    go false = refl
step_stands until stance (Some (Spawn at start)) place answers placed = ap (λ (p : Place). Ready (next_step p)) (placed (Spawn at start) refl)
step_stands until stance (Some (End at reason)) place answers placed = refl

-- so do all steps
steps_stand : (until : Fraction) (stance : Stance) (xs : List Step) (stand : Stand) → ArePlaced stand xs →
    stands until stance (paired xs stand.answers) ≡ stance_of until stance (actions_of xs) stand
steps_stand until stance [] stand placed = refl
steps_stand until stance (x ∷ xs) stand placed =
    ap (stands until stance) (paired_cons x xs stand.answers)
    ∙ ap (λ s. stands until s (paired xs (left_for x.action stand.answers))) (step_stands until stance x.action stand.place stand.answers placed.0)
    ∙ ap (λ l. stands until (stance_on until stance x.action stand) (paired xs l)) (sym (answers_on x.action stand.place stand.answers))
    ∙ steps_stand until (stance_on until stance x.action stand) xs (stand_on x.action stand) placed.1
    ∙ sym (stance_first until stance x.action (actions_of xs) stand)

module _ (places : PlacesLaw) (texts : Texts) (start : Start) (answers : List Answer) where
  placed_from : (prefix xs : List Step) (bound : ℕ) → acts texts start answers bound ≡ prefix ++ xs → ArePlaced (stand_of start answers prefix) xs
  placed_from prefix [] bound whole = tt
  placed_from prefix (x ∷ xs) bound whole = (
    λ action is. places texts start answers prefix x action (record { bound = bound; rest = xs; whole = whole }) is,
    subst (λ s. ArePlaced s xs) (stand_last prefix x (record { place = start.place; answers = answers })) (placed_from (prefix ++ x ∷ []) xs bound (whole ∙ sym (append_assoc prefix (x ∷ []) xs))),
  )

  -- after its first steps a thread stands where these say
  first_stands : (steps : List Step) → AreSteps texts start answers steps → stands start.until (Ready start.place) (paired steps answers) ≡ stands_at start answers steps
  first_stands steps are =
      let stand : Stand = record { place = start.place; answers = answers } in
      steps_stand start.until (Ready start.place) steps stand (first_placed stand steps are.rest (placed_from [] (steps ++ are.rest) are.bound are.whole))

module _ (prefixes : PrefixLaw) (texts : Texts) (start : Start) (answers : List Answer) where
  few_steps : (n : ℕ) → length (acts texts start answers n) ≤ n
  few_steps n =
      let e = ap length (prefixes texts start answers n n (omega arith)) in
      let l = length-take n (acts texts start answers n) in
      omega (arith, e, l)

  -- where a step is behind those of n, there are n of these
  all_steps : (n : ℕ) (step : Step) → IsStep texts start answers (acts texts start answers n) step → length (acts texts start answers n) < n → ⊥
  all_steps n step is few = go (cases_lt n is.bound)
    where
      long : length (acts texts start answers is.bound) ≡ length (acts texts start answers n) + suc (length is.rest)
      long = ap length is.whole ∙ length-append (acts texts start answers n) (step ∷ is.rest)

      go : (n < is.bound) ⊎ (is.bound ≤ n) → ⊥
      go (inl lt) =
          let e = ap length (prefixes texts start answers n is.bound (omega (arith, lt))) in
          let l = length-take n (acts texts start answers is.bound) in
          omega (arith, e, l, long, few)
      go (inr le) =
          let e = ap length (prefixes texts start answers is.bound n le) in
          let l = length-take is.bound (acts texts start answers n) in
          omega (arith, e, l, long)

module _ (prefixes : PrefixLaw) (places : PlacesLaw) (nexts : StandingLaw) (texts : Texts) (until : Fraction) (may : Start → List Segment → Bool) (fit : Start → Bool) (known : EventView → Bool) where
  abbrev meaning_here : ThreadMeaning
  meaning_here = threads_with texts until may fit known

  abbrev steps_here : Start → List Answer → ℕ → List Step
  steps_here start answers n = acts texts (with_horizon until start) answers n

  stands_here : (start : Start) (answers : List Answer) (steps : List Step) → AreSteps texts (with_horizon until start) answers steps →
      standing meaning_here start (paired steps answers) ≡ stands_at (with_horizon until start) answers steps
  unfolding standing
  stands_here start answers steps are = first_stands places texts (with_horizon until start) answers steps are

  stands_after : (start : Start) (answers : List Answer) (n : ℕ) → standing meaning_here start (paired (steps_here start answers n) answers) ≡ stands_at (with_horizon until start) answers (steps_here start answers n)
  stands_after start answers n = stands_here start answers (steps_here start answers n) (record { bound = n; rest = []; whole = sym (append-nil (steps_here start answers n)) })

  stops_here : (start : Start) (answers : List Answer) (n : ℕ) → length (steps_here start answers n) < n → (place : Place) →
      standing meaning_here start (paired (steps_here start answers n) answers) ≡ Ready place → ⊥
  stops_here start answers n few place ready =
      let steps = steps_here start answers n in
      let next =
      subst (λ s. IsNext texts (with_horizon until start) answers steps s) (sym (stands_after start answers n) ∙ ready)
      (nexts texts (with_horizon until start) answers steps (record { bound = n; rest = []; whole = sym (append-nil steps) })) in
      all_steps prefixes texts (with_horizon until start) answers n next.step next.there few

  -- what stands behind the first i steps of a list
  record IsBehind (start : Start) (answers : List Answer) (n i : ℕ) (step : Step) : Type 0 where
    is : IsStep texts (with_horizon until start) answers (take i (steps_here start answers n)) step
    are : AreSteps texts (with_horizon until start) answers (take i (steps_here start answers n))
    few : length (take i (steps_here start answers n)) ≤ n
    more : steps_here start answers n ≡ take i (steps_here start answers n) → ⊥

  behind : (start : Start) (answers : List Answer) (n i : ℕ) (step : Step) → slice_get (steps_here start answers n) i ≡ Some step → IsBehind start answers n i step
  behind start answers n i step at =
      let steps = steps_here start answers n in
      let c = cut_at steps i step at in
      let long = ap length c.1 ∙ length-append (take i steps) (step ∷ c.0) in
      let few = few_steps prefixes texts (with_horizon until start) answers n in
      record {
        is = record { bound = n; rest = c.0; whole = c.1 };
        are = record { bound = n; rest = step ∷ c.0; whole = c.1 };
        few = omega (arith, long, few);
        more = λ e. let l = ap length e in omega (arith, l, long);
      }

  -- a thread acts where it stands so
  acts_placed : (start : Start) (answers : List Answer) (n i : ℕ) (step : Step) → slice_get (steps_here start answers n) i ≡ Some step →
      (place : Place) × (stands_at (with_horizon until start) answers (take i (steps_here start answers n)) ≡ Ready place) × ((action : Action) → step.action ≡ Some action → action_place action ≡ place)
  acts_placed start answers n i step at = go (stands_at (with_horizon until start) answers first) refl (nexts texts (with_horizon until start) answers first b.are)
    where
      first : List Step
      first = take i (steps_here start answers n)

      b : IsBehind start answers n i step
      b = behind start answers n i step at

      go : (stance : Stance) → stands_at (with_horizon until start) answers first ≡ stance → IsNext texts (with_horizon until start) answers first stance →
          (place : Place) × (stands_at (with_horizon until start) answers first ≡ Ready place) × ((action : Action) → step.action ≡ Some action → action_place action ≡ place)
      go (Ready place) e next = (place, e, λ action is. places texts (with_horizon until start) answers first step action b.is is ∙ sym next.here)
      go (Asks place pattern) e next = absurd (b.more (next.all n b.few))
      go (Waits place pattern stop) e next = absurd (b.more (next.all n b.few))
      go (Asleep time) e next = absurd (b.more (next n b.few))
      go Over e next = absurd (b.more (next n b.few))

  trace_placed : (thread : Thread) (i : ℕ) (entry : Entry) → slice_get (trace meaning_here thread) i ≡ Some entry →
      (place : Place) × (standing meaning_here thread.start (take i (trace meaning_here thread)) ≡ Ready place) × ((action : Action) → entry.step.action ≡ Some action → action_place action ≡ place)
  unfolding trace
  trace_placed thread i entry at =
      let steps = steps_here thread.start thread.answers thread.done in
      let did = step_in steps thread.answers i entry at in
      let here = acts_placed thread.start thread.answers thread.done i entry.step did in (
        here.0,
        ap (standing meaning_here thread.start) (first_paired steps thread.answers i)
            ∙ stands_here thread.start thread.answers (take i steps) (behind thread.start thread.answers thread.done i entry.step did).are ∙ here.1,
        here.2,
      )

  -- the step of an entry stands behind those before it
  pub entry_step : (thread : Thread) (i : ℕ) (entry : Entry) → slice_get (trace meaning_here thread) i ≡ Some entry →
      IsStep texts (with_horizon until thread.start) thread.answers (take i (steps_here thread.start thread.answers thread.done)) entry.step
  unfolding trace
  entry_step thread i entry at = (behind thread.start thread.answers thread.done i entry.step (step_in (steps_here thread.start thread.answers thread.done) thread.answers i entry at)).is

  first_spawns : (thread : Thread) (i : ℕ) → starts_in (take i (steps_here thread.start thread.answers thread.done)) ≡ count_by is_spawn (take i (trace meaning_here thread))
  unfolding trace
  first_spawns thread i =
      let steps = steps_here thread.start thread.answers thread.done in
      sym (spawns_in (take i steps) thread.answers) ∙ ap (count_by is_spawn) (sym (first_paired steps thread.answers i))

pub texts_stand : PrefixLaw → PlacesLaw → StandingLaw → TextsStand
unfolding trace
texts_stand prefixes places nexts texts until may fit known thread = stands_after prefixes places nexts texts until may fit known thread.start thread.answers thread.done

pub texts_act : PrefixLaw → PlacesLaw → StandingLaw → AnswersLaw → CostsLaw → ChildrenLaw → TextsAct
unfolding Before
texts_act prefixes places nexts further costs children texts until may fit known = record {
  short = λ start answers n. few_steps prefixes texts (with_horizon until start) answers n;
  longer = λ start answers n.
      let more = acts texts (with_horizon until start) answers (n + 1) in
      (drop n more, sym (take-append-drop n more) ∙ ap (λ l. l ++ drop n more) (sym (prefixes texts (with_horizon until start) answers n (n + 1) (omega arith))));
  further = λ start answers answer n. let f = further texts (with_horizon until start) answers (answer ∷ []) n in (f.rest, f.whole);
  stops = stops_here prefixes places nexts texts until may fit known;
  placed = trace_placed prefixes places nexts texts until may fit known;
  costs = λ start answers n i step at. costs texts (with_horizon until start) answers _ step (behind prefixes places nexts texts until may fit known start answers n i step at).is;
  later = λ thread i entry place start at is. (children texts (with_horizon until thread.start) thread.answers _ entry.step place start (entry_step prefixes places nexts texts until may fit known thread i entry at) is).above;
  named = λ thread i entry place start at is.
      let child = children texts (with_horizon until thread.start) thread.answers _ entry.step place start (entry_step prefixes places nexts texts until may fit known thread i entry at) is in
      let count = first_spawns prefixes places nexts texts until may fit known thread i in
      let n : starts_in (take i (acts texts (with_horizon until thread.start) thread.answers thread.done)) + 1 ≡ suc (count_by is_spawn (take i (trace (threads_with texts until may fit known) thread))) = omega (arith, count) in
      child.thread ∙ ap (λ k. thread.start.place.thread ++ k ∷ []) n;
}

pub texts_are_prompt : PrefixLaw → PlacesLaw → StandingLaw → ChildrenLaw → TextsArePrompt
texts_are_prompt prefixes places nexts children texts until may fit known thread i entry place start at is =
    (children texts (with_horizon until thread.start) thread.answers _ entry.step place start (entry_step prefixes places nexts texts until may fit known thread i entry at) is).time

pub texts_start_low : PrefixLaw → PlacesLaw → StandingLaw → ChildrenLaw → TextsStartLow
texts_start_low prefixes places nexts children texts until may fit known thread i entry place start at is =
    let child = children texts (with_horizon until thread.start) thread.answers _ entry.step place start (entry_step prefixes places nexts texts until may fit known thread i entry at) is in
    ((let s = child.step in omega (arith, s)), (let m = child.micro in omega (arith, m)))
