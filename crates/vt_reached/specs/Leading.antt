-- What a thread leads to that began as the texts can, and that found what it asked for: own.
use Rattle.std.specs.Prelude.{◌≡◌, ℕ, ◌+◌, List, [], ◌∷◌, ◌++◌, Option, Some, None, slice_get}
use Rattle.std.specs.List.{AllByRecursion}
use Rattle.vt_path.specs.declared.pattern.Segment.{Segment}
use Rattle.vt_path.specs.Match.{Matches}
use Rattle.vt_event.specs.declared.kind.Kind.TheVariants.{Took}
use Rattle.vt_event.specs.Event.{EventView}
use Rattle.vt_run.specs.declared.action.Action.{Action}
use Rattle.vt_run.specs.declared.action.Action.TheVariants.{Emit, Rest, Read, Wait, Spawn, End}
use Rattle.vt_run.specs.declared.action.Answer.{Answer}
use Rattle.vt_run.specs.declared.action.Answer.TheVariants.{Nothing, Found}
use Rattle.vt_run.specs.declared.start.Start.{Start}
use Rattle.vt_run.specs.declared.texts.Texts.{Texts}
use Rattle.vt_run.specs.Evaluation.{Step}
use Rattle.vt_run.specs.Limits.{AreChecked, IsAnswerWithin, IsStartWithin}
use Rattle.vt_run.specs.Threads.{acts}
use Rattle.vt_reached.specs.Fit.{IsFit, IsKnown, MayPublish}

-- an event that the pattern finds, and that the texts can lead to
pub record IsHeard (texts : Texts) (pattern : List Segment) (event : EventView) : Type 0 where
  pub known : IsKnown texts event
  pub path : List (List ℕ)
  pub at : event.path ≡ Some path
  pub matched : Matches pattern path

-- how many answers are used after an action that stands where so many were
abbrev pub used_after : Option Action → ℕ → ℕ
used_after (Some (Read place pattern)) used = used + 1
used_after (Some (Wait place pattern stop)) used = used + 1
used_after _ used = used

-- What a read of the thread finds is an event that its pattern finds and that the texts can lead to. Of what a wait finds only the time, the path and the value are used, so nothing is asked of it.
abbrev pub IsAnswerTo : Texts → Option Action → Option Answer → Type 0
IsAnswerTo texts (Some (Read place pattern)) (Some (Found event)) = IsHeard texts pattern event
IsAnswerTo texts _ _ = Unit {0}

-- so of all reads of these steps, which begin where so many of the answers are used
abbrev pub AreHeard : Texts → List Answer → ℕ → List Step → Type 0
AreHeard texts answers used [] = Unit {0}
AreHeard texts answers used (step ∷ steps) = IsAnswerTo texts step.action (slice_get answers used) × AreHeard texts answers (used_after step.action used) steps

-- what the texts lead to, and what is published within the reach of the start
pub record IsEventLed (texts : Texts) (start : Start) (event : EventView) : Type 0 where
  pub known : IsKnown texts event
  pub writes : (path : List (List ℕ)) (pattern : List Segment) → event.path ≡ Some path → Matches pattern path → MayPublish texts start pattern

pub record IsStartLed (texts : Texts) (start child : Start) : Type 0 where
  pub fit : IsFit texts child
  pub passes : (pattern : List Segment) → MayPublish texts child pattern → MayPublish texts start pattern

-- An event with a path, which a pattern may find, is one that the texts can lead to, and at a path that the start may write. A thread that is started begins as the texts can, and may write no more than its starter.
abbrev pub IsLed : Texts → Start → Option Action → Type 0
IsLed texts start (Some (Emit event)) = (path : List (List ℕ)) → event.path ≡ Some path → (event.kind ≡ Took → ⊥) → IsEventLed texts start event
IsLed texts start (Some (Spawn place child)) = IsStartLed texts start child
IsLed texts start _ = Unit {0}

-- **the reach is sound**: each step of a thread of checked texts that began as the texts can, up to which its reads were answered so
abbrev pub StepsAreLed : Type 0
StepsAreLed =
    (texts : Texts) (start : Start) (answers : List Answer) (count : ℕ) (before after : List Step) (step : Step) →
    AreChecked texts → IsStartWithin start → AllByRecursion IsAnswerWithin answers → IsFit texts start →
    acts texts start answers count ≡ before ++ step ∷ after → AreHeard texts answers 0 before → IsLed texts start step.action
