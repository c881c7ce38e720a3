-- The actions of a thread are numbered one after another.
use Rattle.std.proofs.Common.{◌≡◌, ℕ, zero, suc, ◌+◌, List, [], ◌∷◌, ◌++◌, length, Option, Some, None, refl, sym, ap, ◌∙◌, arith, length-append}
use Rattle.std.specs.Prelude.{slice_get}
use Rattle.std.proofs.Math.Nat.{add-zero}
use Rattle.vt_event.specs.declared.place.Place.{Place}
use Rattle.vt_run.specs.declared.action.Action.{Action}
use Rattle.vt_run.specs.Pieces.{actions_of, listed}
use Rattle.vt_run.specs.laws.StepLaws.{NumbersLaw}
use Rattle.vt_run.specs.Evaluation.{Step}
use Rattle.vt_run.specs.Threads.{acts}
use Rattle.vt_run.proofs.steps.Moments.{Moment, first_moment, moment_after, moment_after_all}
use Rattle.vt_run.proofs.steps.NextPlaces.{number_after}
use Rattle.vt_run.proofs.steps.ThreadSteps.{placed_law}

-- an action by its number among the actions of these steps: the step that makes it, and those before
record IsAction (steps : List Step) (j : ℕ) (action : Action) : Type 0 where
  prefix : List Step
  step : Step
  rest : List Step
  whole : steps ≡ prefix ++ step ∷ rest
  made : step.action ≡ Some action
  number : length (actions_of prefix) ≡ j

later_action : (step : Step) (steps : List Step) (j k : ℕ) (action : Action) → IsAction steps j action → length (listed step.action) + j ≡ k → IsAction (step ∷ steps) k action
later_action step steps j k action is sum = record {
  prefix = step ∷ is.prefix;
  step = is.step;
  rest = is.rest;
  whole = ap (λ (xs : List Step). step ∷ xs) is.whole;
  made = is.made;
  number = length-append (listed step.action) (actions_of is.prefix) ∙ ap (λ (n : ℕ). length (listed step.action) + n) is.number ∙ sum;
}

action_at : (steps : List Step) (j : ℕ) (action : Action) → slice_get (actions_of steps) j ≡ Some action → IsAction steps j action
action_at [] j action h = absurd (let z : None ≡ Some action = h in cc)
action_at (step ∷ steps) j action h = go step.action refl j h (λ k h. action_at steps k action h)
  where
    go : (made : Option Action) → step.action ≡ made → (j : ℕ) → slice_get (listed made ++ actions_of steps) j ≡ Some action → ((k : ℕ) → slice_get (actions_of steps) k ≡ Some action → IsAction steps k action) → IsAction (step ∷ steps) j action
    go None is j h later =
        let sum : length (listed step.action) + j ≡ j = ap (λ (made : Option Action). length (listed made) + j) is ∙ omega arith in
        later_action step steps j j action (later j h) sum
    go (Some first) is zero h later =
        let same : first ≡ action = cc in
        record { prefix = []; step = step; rest = steps; whole = refl; made = is ∙ ap (λ (x : Action). Some x) same; number = refl }
    go (Some first) is (suc j) h later =
        let sum : length (listed step.action) + j ≡ suc j = ap (λ (made : Option Action). length (listed made) + j) is ∙ omega arith in
        later_action step steps j (suc j) action (later j h) sum

one_numbered : (action : Option Action) (now : Moment) → (moment_after action now).stand.place.step ≡ now.stand.place.step + length (listed action)
one_numbered None now = sym (add-zero now.stand.place.step)
one_numbered (Some action) now = number_after action now.stand

-- each action makes the number of the next one greater by 1
all_numbered : (steps : List Step) (now : Moment) → (moment_after_all steps now).stand.place.step ≡ now.stand.place.step + length (actions_of steps)
all_numbered [] now = sym (add-zero now.stand.place.step)
all_numbered (step ∷ steps) now =
    omega (arith, all_numbered steps (moment_after step.action now), one_numbered step.action now, length-append (listed step.action) (actions_of steps))

pub numbers_law : NumbersLaw
numbers_law texts start answers n j action h =
    let is = action_at (acts texts start answers n) j action h in
    ap (λ (place : Place). place.step) (placed_law texts start answers is.prefix is.step action (record { bound = n; rest = is.rest; whole = is.whole }) is.made)
    ∙ all_numbered is.prefix (first_moment start answers)
    ∙ ap (λ (k : ℕ). start.place.step + k) is.number
