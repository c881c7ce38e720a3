-- Where a thread stands from step to step, and how many threads it has started.
use Rattle.std.proofs.Common.{◌≡◌, ℕ, ◌+◌, List, [], ◌∷◌, ◌++◌, Option, Some, None, refl, ap, ◌∙◌, arith}
use Rattle.vt_run.specs.declared.action.Action.{Action}
use Rattle.vt_run.specs.declared.action.Action.TheVariants.{Emit, Rest, Read, Wait, Spawn, End}
use Rattle.vt_run.specs.declared.action.Answer.{Answer}
use Rattle.vt_run.specs.declared.start.Start.{Start}
use Rattle.vt_run.specs.Pieces.{actions_of, listed}
use Rattle.vt_run.specs.laws.StepFacts.{starts_in, starts_in_one}
use Rattle.vt_run.specs.Evaluation.{Step}
use Rattle.vt_run.specs.Standing.{Stand, stand_after, stand_after_all, stand_of}

pub record Moment : Type 0 where
  pub stand : Stand
  pub children : ℕ

abbrev pub started_by : Action → ℕ
started_by (Spawn place start) = 1
started_by _ = 0

-- after a step
abbrev pub moment_after : Option Action → Moment → Moment
moment_after None now = now
moment_after (Some action) now = record { stand = stand_after action now.stand; children = now.children + started_by action }

abbrev pub moment_after_all : List Step → Moment → Moment
moment_after_all [] now = now
moment_after_all (step ∷ steps) now = moment_after_all steps (moment_after step.action now)

-- as a thread starts
abbrev pub first_moment : Start → List Answer → Moment
first_moment start answers = record { stand = record { place = start.place; answers = answers }; children = 0 }

-- after these steps of a thread
abbrev pub moment_of : Start → List Answer → List Step → Moment
moment_of start answers steps = moment_after_all steps (first_moment start answers)

started_one : (action : Action) → started_by action ≡ starts_in_one (Some action)
started_one (Emit event) = refl
started_one (Rest place seconds) = refl
started_one (Read place pattern) = refl
started_one (Wait place pattern stop) = refl
started_one (Spawn place start) = refl
started_one (End place reason) = refl

moment_one : (action : Option Action) (steps : List Step) (now : Moment) →
    (let m : Moment = record { stand = stand_after_all (actions_of steps) (moment_after action now).stand; children = (moment_after action now).children + starts_in steps } in m)
    ≡ record { stand = stand_after_all (listed action ++ actions_of steps) now.stand; children = now.children + (starts_in_one action + starts_in steps) }
moment_one None steps now = ap (λ (n : ℕ). record { stand = stand_after_all (actions_of steps) now.stand; children = n }) (omega arith)
moment_one (Some action) steps now =
    ap (λ (n : ℕ). record { stand = stand_after_all (actions_of steps) (stand_after action now.stand); children = n }) (omega (arith, started_one action))

-- the moment after steps, by their actions
moment_by : (steps : List Step) (now : Moment) → moment_after_all steps now ≡ record { stand = stand_after_all (actions_of steps) now.stand; children = now.children + starts_in steps }
moment_by [] now = ap (λ (n : ℕ). record { stand = now.stand; children = n }) (omega arith)
moment_by (step ∷ steps) now = moment_by steps (moment_after step.action now) ∙ moment_one step.action steps now

pub moment_is : (start : Start) (answers : List Answer) (steps : List Step) → moment_of start answers steps ≡ record { stand = stand_of start answers steps; children = starts_in steps }
moment_is start answers steps = moment_by steps (first_moment start answers) ∙ ap (λ (n : ℕ). record { stand = stand_of start answers steps; children = n }) (omega arith)
