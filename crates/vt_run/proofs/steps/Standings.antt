-- Where a thread stands tells what is next, and a further answer moves it.
use Rattle.std.proofs.Common.{◌≡◌, ◌≤◌, ◌<◌, ◌⊎◌, ℕ, ◌+◌, List, [], ◌∷◌, ◌++◌, length, take, drop, Bool, true, false, cond, not, Option, Some, None, inl, inr, refl, sym, ap, ◌∙◌, subst, arith, append_assoc, append-nil, length-append, take-append-drop}
use Rattle.std.specs.Prelude.{is_some, IsTrue}
use Rattle.std.proofs.Math.Seq.{take-append_seam}
use Rattle.vt_frac.specs.Arithmetic.{sum_of}
use Rattle.vt_frac.specs.Fraction.{Fraction}
use Rattle.vt_path.specs.declared.pattern.Segment.{Segment}
use Rattle.vt_event.specs.declared.place.Place.{Place}
use Rattle.vt_run.specs.declared.action.Action.{Action}
use Rattle.vt_run.specs.declared.action.Action.TheVariants.{Emit, Rest, Read, Wait, Spawn, End}
use Rattle.vt_run.specs.declared.action.Answer.{Answer}
use Rattle.vt_run.specs.declared.action.Answer.TheVariants.{Nothing, Found}
use Rattle.vt_run.specs.declared.start.Start.{Start}
use Rattle.vt_run.specs.declared.texts.Texts.{Texts}
use Rattle.vt_run.specs.Actions.{is_past}
use Rattle.vt_run.specs.Evaluation.{Step}
use Rattle.vt_run.specs.Pieces.{actions_of, listed}
use Rattle.vt_run.specs.laws.StandingLaws.{AnswerLaw, AreSteps, GoesOnAt, IsNext, StandingLaw, stance_with, stance_woken}
use Rattle.vt_run.specs.laws.StepLaws.{AreWhole, ClosingLaw, LastLaw, PlacesLaw, PrefixLaw}
use Rattle.vt_run.specs.Standing.{Stance, Ready, Asks, Waits, Asleep, Over, Stand, action_place, is_last, is_last_step, is_one_left, next_place, next_step, place_rested, place_woken, stance_after, stance_asking, stance_of, stance_rested, stance_waiting, stand_after, stand_after_all, stand_of, stands_at, wakes}
use Rattle.vt_run.specs.Threads.{acts}
use Rattle.vt_run.proofs.steps.NextPlaces.{first_stand}

-- after a step, which may have no action
abbrev stand_behind : Option Action → Stand → Stand
stand_behind None stand = stand
stand_behind (Some action) stand = stand_after action stand

abbrev stance_behind : Fraction → Option Action → Stance → Stand → Stance
stance_behind until None stance stand = stance
stance_behind until (Some action) stance stand = stance_after until action stand.answers (stand_after action stand).place

stand_listed : (action : Option Action) (actions : List Action) (stand : Stand) → stand_after_all (listed action ++ actions) stand ≡ stand_after_all actions (stand_behind action stand)
stand_listed None actions stand = refl
stand_listed (Some action) actions stand = refl

stance_listed : (until : Fraction) (action : Option Action) (actions : List Action) (stance : Stance) (stand : Stand) →
    stance_of until stance (listed action ++ actions) stand ≡ stance_of until (stance_behind until action stance stand) actions (stand_behind action stand)
stance_listed until None actions stance stand = refl
stance_listed until (Some action) actions stance stand = refl

-- one of these steps is the last of its thread, from this stand on
record HasLast (until : Fraction) (stand : Stand) (steps : List Step) : Type 0 where
  prefix : List Step
  step : Step
  more : List Step
  whole : steps ≡ prefix ++ step ∷ more
  last : IsTrue (is_last_step until (stand_after_all (actions_of prefix) stand).answers step.action)

later_last : (until : Fraction) (stand : Stand) (step : Step) (steps : List Step) → HasLast until (stand_behind step.action stand) steps → HasLast until stand (step ∷ steps)
later_last until stand step steps has = record {
  prefix = step ∷ has.prefix;
  step = has.step;
  more = has.more;
  whole = ap (λ (xs : List Step). step ∷ xs) has.whole;
  last = subst (λ (s : Stand). IsTrue (is_last_step until s.answers has.step.action)) (sym (stand_listed step.action (actions_of has.prefix) stand)) has.last;
}

none_before : (xs ys : List Step) → xs ++ ys ≡ [] → xs ≡ []
none_before [] ys h = refl
none_before (x ∷ xs) ys h = absurd (let z : x ∷ (xs ++ ys) ≡ [] = h in cc)

abbrev IsPlaced : Place → Option Action → Type 0
IsPlaced place None = Unit {0}
IsPlaced place (Some action) = action_place action ≡ place

-- each action stands in place, and behind the last one there is nothing
abbrev AreInOrder : Fraction → Stand → List Step → Type 0
AreInOrder until stand [] = Unit {0}
AreInOrder until stand (step ∷ steps) =
    IsPlaced stand.place step.action × (IsTrue (is_last_step until stand.answers step.action) → steps ≡ []) × AreInOrder until (stand_behind step.action stand) steps

placed_one : (place : Place) (made : Option Action) → ((action : Action) → made ≡ Some action → action_place action ≡ place) → IsPlaced place made
placed_one place None h = tt
placed_one place (Some action) h = h action refl

stand_further : (prefix : List Step) (step : Step) (stand : Stand) → stand_after_all (actions_of (prefix ++ step ∷ [])) stand ≡ stand_behind step.action (stand_after_all (actions_of prefix) stand)
stand_further [] step stand = stand_listed step.action [] stand
stand_further (first ∷ prefix) step stand =
    stand_listed first.action (actions_of (prefix ++ step ∷ [])) stand
    ∙ stand_further prefix step (stand_behind first.action stand)
    ∙ ap (stand_behind step.action) (sym (stand_listed first.action (actions_of prefix) stand))

module _ (last : LastLaw) (places : PlacesLaw) (texts : Texts) (start : Start) (answers : List Answer) (bound : ℕ) (rest : List Step) where
  in_order : (prefix steps : List Step) → acts texts start answers bound ≡ prefix ++ (steps ++ rest) → AreInOrder start.until (stand_of start answers prefix) steps
  in_order prefix [] whole = tt
  in_order prefix (step ∷ steps) whole = (
    placed_one (next_place start answers prefix) step.action (λ action some. places texts start answers prefix step action (record { bound = bound; rest = steps ++ rest; whole = whole }) some),
    λ is. none_before steps rest (last texts start answers bound prefix (steps ++ rest) step whole is),
    subst (λ (s : Stand). AreInOrder start.until s steps) (stand_further prefix step (first_stand start answers))
        (in_order (prefix ++ step ∷ []) steps (whole ∙ sym (append_assoc prefix (step ∷ []) (steps ++ rest)))),
  )

-- a thread that is ready is so at the next place; of every other one B holds, and of one that asks or waits the next place is one step behind
abbrev Tells : Type 0 → Place → Stance → Type 0
Tells B next (Ready place) = place ≡ next
Tells B next (Asks place pattern) = B × (next_step place ≡ next)
Tells B next (Waits place pattern stop) = B × (next_step place ≡ next)
Tells B next (Asleep time) = B
Tells B next Over = B

rest_tells : (B : Type 0) (past : Bool) (time : Fraction) (next : Place) → (IsTrue past → B) → Tells B next (stance_rested past time next)
rest_tells B true time next last = last refl
rest_tells B false time next last = refl

read_tells : (B : Type 0) (left : Bool) (place : Place) (pattern : List Segment) (next : Place) → next_step place ≡ next → (IsTrue (not left) → B) → Tells B next (stance_asking left place pattern next)
read_tells B true place pattern next behind last = refl
read_tells B false place pattern next behind last = (last refl, behind)

wake_tells : (B : Type 0) (awake : Bool) (place : Place) (pattern : List Segment) (stop : Option (List Segment)) (next : Place) → (IsTrue (not awake) → B) → Tells B next (stance_waiting true awake place pattern stop next)
wake_tells B true place pattern stop next last = refl
wake_tells B false place pattern stop next last = last refl

wait_tells : (B : Type 0) (answers : List Answer) (place at : Place) (pattern : List Segment) (stop : Option (List Segment)) → place ≡ at → (IsTrue (not (wakes answers)) → B) →
    Tells B (next_step (place_woken answers at)) (stance_waiting (is_one_left answers) (wakes answers) place pattern stop (next_step (place_woken answers at)))
wait_tells B [] place at pattern stop placed last = (last refl, ap next_step placed)
wait_tells B (Nothing ∷ answers) place at pattern stop placed last = last refl
wait_tells B (Found event ∷ answers) place at pattern stop placed last = wake_tells B (is_some event.path) place pattern stop (next_step (place_woken (Found event ∷ answers) at)) last

-- behind an action the thread is ready, or that was its last one
action_tells : (B : Type 0) (until : Fraction) (action : Action) (at : Place) (answers : List Answer) → action_place action ≡ at → (IsTrue (is_last until answers action) → B) →
    Tells B (stand_after action (record { place = at; answers = answers })).place (stance_after until action answers (stand_after action (record { place = at; answers = answers })).place)
action_tells B until (Emit event) at answers placed last = refl
action_tells B until (Rest place seconds) at answers placed last =
    rest_tells B (is_past until (sum_of place.time seconds)) (sum_of place.time seconds) (next_step (place_rested seconds at)) last
action_tells B until (Read place pattern) at answers placed last = read_tells B (is_one_left answers) place pattern (next_step at) (ap next_step placed) last
action_tells B until (Wait place pattern stop) at answers placed last = wait_tells B answers place at pattern stop placed last
action_tells B until (Spawn place start) at answers placed last = refl
action_tells B until (End place reason) at answers placed last = last refl

step_tells : (B : Type 0) (until : Fraction) (action : Option Action) (stance : Stance) (stand : Stand) → IsPlaced stand.place action → Tells B stand.place stance →
    (IsTrue (is_last_step until stand.answers action) → B) → Tells B (stand_behind action stand).place (stance_behind until action stance stand)
step_tells B until None stance stand placed tells last = tells
step_tells B until (Some action) stance stand placed tells last = action_tells B until action stand.place stand.answers placed last

steps_tell : (B : Type 0) (until : Fraction) (steps : List Step) (stance : Stance) (stand : Stand) → AreInOrder until stand steps → Tells B stand.place stance → (HasLast until stand steps → B) →
    Tells B (stand_after_all (actions_of steps) stand).place (stance_of until stance (actions_of steps) stand)
steps_tell B until [] stance stand order tells last = tells
steps_tell B until (step ∷ steps) stance stand order tells last =
    let here : IsTrue (is_last_step until stand.answers step.action) → B = λ is. last (record { prefix = []; step = step; more = steps; whole = refl; last = is }) in
    let later : HasLast until (stand_behind step.action stand) steps → B = λ has. last (later_last until stand step steps has) in
    subst (λ (s : Stand). Tells B s.place (stance_of until stance (listed step.action ++ actions_of steps) stand)) (sym (stand_listed step.action (actions_of steps) stand))
    (subst (Tells B (stand_after_all (actions_of steps) (stand_behind step.action stand)).place) (sym (stance_listed until step.action (actions_of steps) stance stand))
    (steps_tell B until steps (stance_behind until step.action stance stand) (stand_behind step.action stand) order.2 (step_tells B until step.action stance stand order.0 tells here) later))

abbrev IsReady : Stance → Type 0
IsReady (Ready place) = Unit {0}
IsReady _ = ⊥

rest_ends : (past : Bool) (time : Fraction) (next : Place) → IsTrue past → IsReady (stance_rested past time next) → ⊥
rest_ends true time next last ready = ready
rest_ends false time next last ready = cc

read_ends : (left : Bool) (place : Place) (pattern : List Segment) (next : Place) → IsTrue (not left) → IsReady (stance_asking left place pattern next) → ⊥
read_ends true place pattern next last ready = let z : false ≡ true = last in cc
read_ends false place pattern next last ready = ready

wait_ends : (left awake : Bool) (place : Place) (pattern : List Segment) (stop : Option (List Segment)) (next : Place) → IsTrue (not awake) → IsReady (stance_waiting left awake place pattern stop next) → ⊥
wait_ends false awake place pattern stop next last ready = ready
wait_ends true true place pattern stop next last ready = let z : false ≡ true = last in cc
wait_ends true false place pattern stop next last ready = ready

-- behind its last action a thread is not ready
action_ends : (until : Fraction) (action : Action) (answers : List Answer) (next : Place) → IsTrue (is_last until answers action) → IsReady (stance_after until action answers next) → ⊥
action_ends until (Emit event) answers next last ready = cc
action_ends until (Rest place seconds) answers next last ready = rest_ends (is_past until (sum_of place.time seconds)) (sum_of place.time seconds) next last ready
action_ends until (Read place pattern) answers next last ready = read_ends (is_one_left answers) place pattern next last ready
action_ends until (Wait place pattern stop) answers next last ready = wait_ends (is_one_left answers) (wakes answers) place pattern stop next last ready
action_ends until (Spawn place start) answers next last ready = cc
action_ends until (End place reason) answers next last ready = ready

step_ends : (until : Fraction) (action : Option Action) (stance : Stance) (stand : Stand) → IsTrue (is_last_step until stand.answers action) → IsReady (stance_behind until action stance stand) → ⊥
step_ends until None stance stand last ready = cc
step_ends until (Some action) stance stand last ready = action_ends until action stand.answers (stand_after action stand).place last ready

steps_end : (until : Fraction) (prefix : List Step) (step : Step) (stance : Stance) (stand : Stand) → IsTrue (is_last_step until (stand_after_all (actions_of prefix) stand).answers step.action) →
    IsReady (stance_of until stance (actions_of (prefix ++ step ∷ [])) stand) → ⊥
steps_end until [] step stance stand last ready = step_ends until step.action stance stand last (subst IsReady (stance_listed until step.action [] stance stand) ready)
steps_end until (first ∷ prefix) step stance stand last ready =
    steps_end until prefix step (stance_behind until first.action stance stand) (stand_behind first.action stand)
    (subst (λ (s : Stand). IsTrue (is_last_step until s.answers step.action)) (stand_listed first.action (actions_of prefix) stand) last)
    (subst IsReady (stance_listed until first.action (actions_of (prefix ++ step ∷ [])) stance stand) ready)

none_behind : (xs ys : List Step) → xs ++ ys ≡ [] → ys ≡ []
none_behind [] ys h = h
none_behind (x ∷ xs) ys h = absurd (let z : x ∷ (xs ++ ys) ≡ [] = h in cc)

module _ (texts : Texts) (start : Start) (answers : List Answer) where
  acts_few : ClosingLaw → (n : ℕ) → length (acts texts start answers n) ≤ n
  acts_few closing n = go (closing texts start answers n)
    where
      go : (length (acts texts start answers n) ≡ n) ⊎ ((length (acts texts start answers n) < n) × AreWhole start answers (acts texts start answers n)) → length (acts texts start answers n) ≤ n
      go (inl full) = omega (arith, full)
      go (inr short) = omega (arith, short.0)

  module _ (closing : ClosingLaw) (extends : PrefixLaw) (steps : List Step) (are : AreSteps texts start answers steps) where
    -- the first steps of a thread are so under each bound from their number on
    first_steps : (n : ℕ) → length steps ≤ n → acts texts start answers n ≡ steps ++ drop (length steps) (acts texts start answers n)
    first_steps n le =
        let few : length steps ≤ are.bound = omega (arith, acts_few closing are.bound, ap (λ (xs : List Step). length xs) are.whole, length-append steps are.rest) in
        let here : acts texts start answers (length steps) ≡ steps =
        extends texts start answers (length steps) are.bound few ∙ ap (take (length steps)) are.whole ∙ take-append_seam steps are.rest in
        sym (take-append-drop (length steps) (acts texts start answers n))
        ∙ ap (λ (xs : List Step). xs ++ drop (length steps) (acts texts start answers n)) (sym (extends texts start answers (length steps) n le) ∙ here)

    -- a thread that has not done its last step goes on
    goes_further : PlacesLaw → ¬ AreWhole start answers steps → (place : Place) → place ≡ next_place start answers steps → GoesOnAt texts start answers steps place
    goes_further places free place at =
        let more : length steps ≤ length steps + 1 = omega arith in
        go (drop (length steps) (acts texts start answers (length steps + 1))) (first_steps (length steps + 1) more) (closing texts start answers (length steps + 1))
      where
        go : (more : List Step) → acts texts start answers (length steps + 1) ≡ steps ++ more →
            (length (acts texts start answers (length steps + 1)) ≡ length steps + 1) ⊎ ((length (acts texts start answers (length steps + 1)) < length steps + 1) × AreWhole start answers (acts texts start answers (length steps + 1))) →
            GoesOnAt texts start answers steps place
        go [] whole (inl full) = absurd (omega (arith, full, ap (λ (xs : List Step). length xs) whole, length-append steps []))
        go [] whole (inr short) = absurd (free (subst (AreWhole start answers) (whole ∙ append-nil steps) short.1))
        go (step ∷ more) whole closed = record {
          here = at;
          step = step;
          there = record { bound = length steps + 1; rest = more; whole = whole };
          placed = λ action some. places texts start answers steps step action (record { bound = length steps + 1; rest = more; whole = whole }) some ∙ sym at;
        }

    -- behind the last step there is nothing
    goes_nowhere : LastLaw → HasLast start.until (first_stand start answers) steps → (n : ℕ) → length steps ≤ n → acts texts start answers n ≡ steps
    goes_nowhere last has n le =
        let more : List Step = drop (length steps) (acts texts start answers n) in
        let whole : acts texts start answers n ≡ has.prefix ++ has.step ∷ (has.more ++ more) =
        first_steps n le ∙ ap (λ (xs : List Step). xs ++ more) has.whole ∙ append_assoc has.prefix (has.step ∷ has.more) more in
        let nothing : more ≡ [] = none_behind has.more more (last texts start answers n has.prefix (has.more ++ more) has.step whole has.last) in
        first_steps n le ∙ ap (λ (xs : List Step). steps ++ xs) nothing ∙ append-nil steps

pub standing_law : ClosingLaw → LastLaw → PrefixLaw → PlacesLaw → StandingLaw
standing_law closing last extends places texts start answers steps are =
    go (stands_at start answers steps) refl
    (steps_tell (HasLast start.until (first_stand start answers) steps) start.until steps (Ready start.place) (first_stand start answers)
    (in_order last places texts start answers are.bound are.rest [] steps are.whole) refl (λ has. has))
  where
    -- a thread that is ready has not done its last step
    free : (place : Place) → stands_at start answers steps ≡ Ready place → ¬ AreWhole start answers steps
    free place is whole =
        steps_end start.until whole.prefix whole.step (Ready start.place) (first_stand start answers) whole.last
        (subst IsReady (sym is ∙ ap (λ (xs : List Step). stands_at start answers xs) whole.whole) tt)

    go : (stance : Stance) → stands_at start answers steps ≡ stance → Tells (HasLast start.until (first_stand start answers) steps) (next_place start answers steps) stance → IsNext texts start answers steps stance
    go (Ready place) is at = goes_further texts start answers closing extends steps are places (free place is) place at
    go (Asks place pattern) is has = record { here = has.1; all = goes_nowhere texts start answers closing extends steps are last has.0 }
    go (Waits place pattern stop) is has = record { here = has.1; all = goes_nowhere texts start answers closing extends steps are last has.0 }
    go (Asleep time) is has = goes_nowhere texts start answers closing extends steps are last has
    go Over is has = goes_nowhere texts start answers closing extends steps are last has

-- with a further answer
abbrev with_answer : Answer → Stand → Stand
with_answer answer stand = record { place = stand.place; answers = stand.answers ++ answer ∷ [] }

rest_moved : (answer : Answer) (past : Bool) (time : Fraction) (next : Place) → stance_rested past time next ≡ stance_with answer (stance_rested past time next)
rest_moved answer true time next = refl
rest_moved answer false time next = refl

wake_moved : (answer : Answer) (awake : Bool) (place : Place) (pattern : List Segment) (stop : Option (List Segment)) (next : Place) →
    stance_waiting true awake place pattern stop next ≡ stance_with answer (stance_waiting true awake place pattern stop next)
wake_moved answer true place pattern stop next = refl
wake_moved answer false place pattern stop next = refl

-- a wait that had no answer, with one
first_woken : (awake : Bool) (place : Place) (pattern : List Segment) (stop : Option (List Segment)) (next : Place) → stance_waiting true awake place pattern stop next ≡ cond awake (Ready next) Over
first_woken true place pattern stop next = refl
first_woken false place pattern stop next = refl

wait_moved : (answer : Answer) (place at : Place) (pattern : List Segment) (stop : Option (List Segment)) → place ≡ at →
    stance_waiting true (wakes (answer ∷ [])) place pattern stop (next_step (place_woken (answer ∷ []) at)) ≡ stance_woken answer place
wait_moved Nothing place at pattern stop placed = refl
wait_moved (Found event) place at pattern stop placed =
    first_woken (is_some event.path) place pattern stop (next_step (place_woken (Found event ∷ []) at))
    ∙ ap (λ (p : Place). cond (is_some event.path) (Ready (next_step (place_woken (Found event ∷ []) p))) Over) (sym placed)

-- where an action leads, with a further answer
action_moved : (until : Fraction) (answer : Answer) (action : Action) (at : Place) (answers : List Answer) → action_place action ≡ at →
    stance_after until action (answers ++ answer ∷ []) (stand_after action (record { place = at; answers = answers ++ answer ∷ [] })).place
    ≡ stance_with answer (stance_after until action answers (stand_after action (record { place = at; answers = answers })).place)
action_moved until answer (Emit event) at answers placed = refl
action_moved until answer (Rest place seconds) at answers placed =
    rest_moved answer (is_past until (sum_of place.time seconds)) (sum_of place.time seconds) (next_step (place_rested seconds at))
action_moved until answer (Read place pattern) at [] placed = ap (λ (p : Place). Ready (next_step p)) (sym placed)
action_moved until answer (Read place pattern) at (first ∷ answers) placed = refl
action_moved until answer (Wait place pattern stop) at [] placed = wait_moved answer place at pattern stop placed
action_moved until answer (Wait place pattern stop) at (Nothing ∷ answers) placed = refl
action_moved until answer (Wait place pattern stop) at (Found event ∷ answers) placed =
    wake_moved answer (is_some event.path) place pattern stop (next_step (place_woken (Found event ∷ answers) at))
action_moved until answer (Spawn place start) at answers placed = refl
action_moved until answer (End place reason) at answers placed = refl

step_moved : (until : Fraction) (answer : Answer) (made : Option Action) (stance : Stance) (stand : Stand) → IsPlaced stand.place made →
    stance_behind until made (stance_with answer stance) (with_answer answer stand) ≡ stance_with answer (stance_behind until made stance stand)
step_moved until answer None stance stand placed = refl
step_moved until answer (Some action) stance stand placed = action_moved until answer action stand.place stand.answers placed

-- behind an action that is not the last the further answer is left
stand_moved : (until : Fraction) (answer : Answer) (made : Option Action) (at : Place) (answers : List Answer) → is_last_step until answers made ≡ false →
    stand_behind made (record { place = at; answers = answers ++ answer ∷ [] }) ≡ with_answer answer (stand_behind made (record { place = at; answers = answers }))
stand_moved until answer None at answers goes = refl
stand_moved until answer (Some (Emit event)) at answers goes = refl
stand_moved until answer (Some (Rest place seconds)) at answers goes = refl
stand_moved until answer (Some (Read place pattern)) at [] goes = absurd (let z : true ≡ false = goes in cc)
stand_moved until answer (Some (Read place pattern)) at (first ∷ answers) goes = refl
stand_moved until answer (Some (Wait place pattern stop)) at [] goes = absurd (let z : true ≡ false = goes in cc)
stand_moved until answer (Some (Wait place pattern stop)) at (Nothing ∷ answers) goes = absurd (let z : true ≡ false = goes in cc)
stand_moved until answer (Some (Wait place pattern stop)) at (Found event ∷ answers) goes = refl
stand_moved until answer (Some (Spawn place start)) at answers goes = refl
stand_moved until answer (Some (End place reason)) at answers goes = refl

-- it is left, or there are no more steps
answer_left : (until : Fraction) (answer : Answer) (made : Option Action) (stand : Stand) (steps : List Step) (last : Bool) → is_last_step until stand.answers made ≡ last →
    (IsTrue (is_last_step until stand.answers made) → steps ≡ []) → (stand_behind made (with_answer answer stand) ≡ with_answer answer (stand_behind made stand)) ⊎ (steps ≡ [])
answer_left until answer made stand steps true is ends = inr (ends is)
answer_left until answer made stand steps false is ends = inl (stand_moved until answer made stand.place stand.answers is)

steps_moved : (until : Fraction) (answer : Answer) (steps : List Step) (stance : Stance) (stand other : Stand) → AreInOrder until stand steps → (other ≡ with_answer answer stand) ⊎ (steps ≡ []) →
    stance_of until (stance_with answer stance) (actions_of steps) other ≡ stance_with answer (stance_of until stance (actions_of steps) stand)
steps_moved until answer [] stance stand other order left = refl
steps_moved until answer (step ∷ steps) stance stand other order (inr empty) = absurd (let z : step ∷ steps ≡ [] = empty in cc)
steps_moved until answer (step ∷ steps) stance stand other order (inl same) =
    let made = step.action in
    ap (λ (s : Stand). stance_of until (stance_with answer stance) (listed made ++ actions_of steps) s) same
    ∙ stance_listed until made (actions_of steps) (stance_with answer stance) (with_answer answer stand)
    ∙ ap (λ (s : Stance). stance_of until s (actions_of steps) (stand_behind made (with_answer answer stand))) (step_moved until answer made stance stand order.0)
    ∙ steps_moved until answer steps (stance_behind until made stance stand) (stand_behind made stand) (stand_behind made (with_answer answer stand)) order.2
    (answer_left until answer made stand steps (is_last_step until stand.answers made) refl order.1)
    ∙ ap (stance_with answer) (sym (stance_listed until made (actions_of steps) stance stand))

pub answer_law : LastLaw → PlacesLaw → AnswerLaw
answer_law last places texts start answers answer steps are =
    steps_moved start.until answer steps (Ready start.place) (first_stand start answers) (first_stand start (answers ++ answer ∷ []))
    (in_order last places texts start answers are.bound are.rest [] steps are.whole) (inl refl)
