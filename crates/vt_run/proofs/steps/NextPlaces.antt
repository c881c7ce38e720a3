-- The thread, the micro step and the number of the place of the next action.
use Rattle.std.proofs.Common.{◌≡◌, ◌≤◌, ◌<◌, ℕ, ◌+◌, List, [], ◌∷◌, length, Bool, true, false, cond, Option, Some, None, refl, sym, ap, ◌∙◌, subst, arith, add-zero, length-append}
use Rattle.vt_frac.specs.Arithmetic.{sum_of}
use Rattle.vt_frac.specs.Fraction.{Fraction}
use Rattle.vt_ring.specs.Exact.{is_positive}
use Rattle.vt_event.specs.declared.place.Place.{Place}
use Rattle.vt_event.specs.Event.{EventView}
use Rattle.vt_run.specs.declared.action.Action.{Action}
use Rattle.vt_run.specs.declared.action.Action.TheVariants.{Emit, Rest, Read, Wait, Spawn, End}
use Rattle.vt_run.specs.declared.action.Answer.{Answer}
use Rattle.vt_run.specs.declared.action.Answer.TheVariants.{Nothing, Found}
use Rattle.vt_run.specs.declared.start.Start.{Start}
use Rattle.vt_run.specs.Evaluation.{Step}
use Rattle.vt_run.specs.Pieces.{actions_of, listed}
use Rattle.vt_run.specs.laws.StandingLaws.{MicroLaw, StepCountLaw, ThreadLaw}
use Rattle.vt_run.specs.laws.StepFacts.{EachWait, IsFoundSo}
use Rattle.vt_run.specs.laws.StepLaws.{PlacesLaw}
use Rattle.vt_run.specs.Standing.{Stand, place_woken, stand_after, stand_after_all}

-- as a thread starts
abbrev pub first_stand : Start → List Answer → Stand
first_stand start answers = record { place = start.place; answers = answers }

rested_thread : (positive : Bool) (time : Fraction) (place : Place) → (cond positive (record place { time = time; micro = 0 }) place).thread ≡ place.thread
rested_thread true time place = refl
rested_thread false time place = refl

woken_thread : (answers : List Answer) (place : Place) → (place_woken answers place).thread ≡ place.thread
woken_thread [] place = refl
woken_thread (Nothing ∷ answers) place = refl
woken_thread (Found event ∷ answers) place = refl

thread_after : (action : Action) (stand : Stand) → (stand_after action stand).place.thread ≡ stand.place.thread
thread_after (Emit event) stand = refl
thread_after (Rest place seconds) stand = rested_thread (is_positive seconds) (sum_of stand.place.time seconds) stand.place
thread_after (Read place pattern) stand = refl
thread_after (Wait place pattern stop) stand = woken_thread stand.answers stand.place
thread_after (Spawn place start) stand = refl
thread_after (End place reason) stand = refl

thread_after_all : (actions : List Action) (stand : Stand) → (stand_after_all actions stand).place.thread ≡ stand.place.thread
thread_after_all [] stand = refl
thread_after_all (action ∷ actions) stand = thread_after_all actions (stand_after action stand) ∙ thread_after action stand

pub thread_law : PlacesLaw → ThreadLaw
thread_law places texts start answers prefix step action is some =
    ap (λ (place : Place). place.thread) (places texts start answers prefix step action is some) ∙ thread_after_all (actions_of prefix) (first_stand start answers)

rested_number : (positive : Bool) (time : Fraction) (place : Place) → (cond positive (record place { time = time; micro = 0 }) place).step ≡ place.step
rested_number true time place = refl
rested_number false time place = refl

woken_number : (answers : List Answer) (place : Place) → (place_woken answers place).step ≡ place.step
woken_number [] place = refl
woken_number (Nothing ∷ answers) place = refl
woken_number (Found event ∷ answers) place = refl

-- each action makes the number of the next one greater by 1
pub number_after : (action : Action) (stand : Stand) → (stand_after action stand).place.step ≡ stand.place.step + 1
number_after (Emit event) stand = refl
number_after (Rest place seconds) stand = ap (λ (n : ℕ). n + 1) (rested_number (is_positive seconds) (sum_of stand.place.time seconds) stand.place)
number_after (Read place pattern) stand = refl
number_after (Wait place pattern stop) stand = ap (λ (n : ℕ). n + 1) (woken_number stand.answers stand.place)
number_after (Spawn place start) stand = refl
number_after (End place reason) stand = refl

pub number_after_all : (actions : List Action) (stand : Stand) → (stand_after_all actions stand).place.step ≡ stand.place.step + length actions
number_after_all [] stand = sym (add-zero stand.place.step)
number_after_all (action ∷ actions) stand =
    let one : stand.place.step + 1 + length actions ≡ stand.place.step + length (action ∷ actions) = omega arith in
    number_after_all actions (stand_after action stand) ∙ ap (λ (n : ℕ). n + length actions) (number_after action stand) ∙ one

-- steps have at most as many actions as they are
few_listed : (action : Option Action) → length (listed action) ≤ 1
few_listed None = omega arith
few_listed (Some action) = omega arith

few_actions : (steps : List Step) → length (actions_of steps) ≤ length steps
few_actions [] = omega arith
few_actions (step ∷ steps) = omega (arith, few_actions steps, few_listed step.action, length-append (listed step.action) (actions_of steps))

pub count_law : StepCountLaw
count_law start answers steps =
    let few : start.place.step + length (actions_of steps) ≤ start.place.step + length steps = omega (arith, few_actions steps) in
    subst (λ (n : ℕ). n ≤ start.place.step + length steps) (sym (number_after_all (actions_of steps) (first_stand start answers))) few

-- an event that answers a wait stands below this micro step
abbrev IsMicroBelow : ℕ → Place → EventView → Type 0
IsMicroBelow most place event = event.place.micro < most

rested_micro : (positive : Bool) (time : Fraction) (place : Place) (most : ℕ) → place.micro ≤ most → (cond positive (record place { time = time; micro = 0 }) place).micro ≤ most
rested_micro true time place most below = let least : 0 ≤ most = omega arith in least
rested_micro false time place most below = below

woken_micro : (answers : List Answer) (place : Place) (most : ℕ) → place.micro ≤ most → IsFoundSo (IsMicroBelow most place) answers → (place_woken answers place).micro ≤ most
woken_micro [] place most below so = below
woken_micro (Nothing ∷ answers) place most below so = below
woken_micro (Found event ∷ answers) place most below so =
    let above : event.place.micro < most = so in
    let next : event.place.micro + 1 ≤ most = omega (arith, above) in
    next

micro_after : (most : ℕ) (action : Action) (actions : List Action) (stand : Stand) → stand.place.micro ≤ most → EachWait (IsMicroBelow most) (action ∷ actions) stand.answers → (stand_after action stand).place.micro ≤ most
micro_after most (Emit event) actions stand below so = below
micro_after most (Rest place seconds) actions stand below so = rested_micro (is_positive seconds) (sum_of stand.place.time seconds) stand.place most below
micro_after most (Read place pattern) actions stand below so = below
micro_after most (Wait place pattern stop) actions stand below so = woken_micro stand.answers stand.place most below so.0
micro_after most (Spawn place start) actions stand below so = below
micro_after most (End place reason) actions stand below so = below

-- the waits among further actions
pub waits_after : (P : Place → EventView → Type 0) (action : Action) (actions : List Action) (stand : Stand) → EachWait P (action ∷ actions) stand.answers → EachWait P actions (stand_after action stand).answers
waits_after P (Emit event) actions stand h = h
waits_after P (Rest place seconds) actions stand h = h
waits_after P (Read place pattern) actions stand h = h
waits_after P (Wait place pattern stop) actions stand h = h.1
waits_after P (Spawn place start) actions stand h = h
waits_after P (End place reason) actions stand h = h

micro_after_all : (most : ℕ) (actions : List Action) (stand : Stand) → stand.place.micro ≤ most → EachWait (IsMicroBelow most) actions stand.answers → (stand_after_all actions stand).place.micro ≤ most
micro_after_all most [] stand below so = below
micro_after_all most (action ∷ actions) stand below so =
    micro_after_all most actions (stand_after action stand) (micro_after most action actions stand below so) (waits_after (IsMicroBelow most) action actions stand so)

pub micro_law : MicroLaw
micro_law start answers steps most below so = micro_after_all most (actions_of steps) (first_stand start answers) below so
