-- The laws of the steps of a thread. What runs a thread, and what orders many, stands on these, on those of `SequenceLaws`, and on what the words in them mean, and not on how the definitions of a thread go.
use Rattle.std.specs.Prelude.{◌≡◌, ◌⊎◌, ℕ, ◌+◌, ◌<◌, ◌≤◌, List, [], ◌∷◌, ◌++◌, length, false, Option, Some, IsSome, IsTrue, is_some, slice_get, take}
use Rattle.vt_event.specs.declared.place.Place.{Place}
use Rattle.vt_event.specs.Event.{EventView}
use Rattle.vt_event.specs.Kinds.{has_path}
use Rattle.vt_event.specs.Order.{IsBefore}
use Rattle.vt_run.specs.declared.action.Action.{Action}
use Rattle.vt_run.specs.declared.action.Action.TheVariants.{Emit, Spawn}
use Rattle.vt_run.specs.declared.action.Answer.{Answer}
use Rattle.vt_run.specs.declared.piece.Piece.{Piece}
use Rattle.vt_run.specs.declared.piece.Stop.{Stop}
use Rattle.vt_run.specs.declared.start.Start.{Start}
use Rattle.vt_run.specs.declared.texts.Texts.{Texts}
use Rattle.vt_run.specs.Actions.{is_past}
use Rattle.vt_run.specs.Limits.{IsActionWithin}
use Rattle.vt_run.specs.Pieces.{Fewest, IsPiece, actions_of, given}
use Rattle.vt_run.specs.laws.StepFacts.{AreAnsweredAbove, AreAnsweredBelow, IsActionSmall, IsChild, IsEffectSmall, IsThreadWithin, starts_in}
use Rattle.vt_run.specs.Evaluation.{Step}
use Rattle.vt_run.specs.Threads.{acts, block_of}
use Rattle.vt_run.specs.WellMade.{IsWellMade}
use Rattle.vt_run.specs.Standing.{action_place, is_last_step, next_place, stand_of}

-- xs is a prefix of ys
pub record IsPrefix {A : Type 0} (xs ys : List A) : Type 0 where
  pub rest : List A
  pub whole : ys ≡ xs ++ rest

-- the step that stands behind these steps of a thread
pub record IsStep (texts : Texts) (start : Start) (answers : List Answer) (prefix : List Step) (step : Step) : Type 0 where
  pub bound : ℕ
  pub rest : List Step
  pub whole : acts texts start answers bound ≡ prefix ++ step ∷ rest

-- whether this step is the last of its thread, behind these
abbrev pub IsLastBehind : Start → List Answer → List Step → Step → Type 0
IsLastBehind start answers prefix step = IsTrue (is_last_step start.until (stand_of start answers prefix).answers step.action)

-- these steps end with the last one of the thread
pub record AreWhole (start : Start) (answers : List Answer) (steps : List Step) : Type 0 where
  pub prefix : List Step
  pub step : Step
  pub whole : steps ≡ prefix ++ step ∷ []
  pub last : IsLastBehind start answers prefix step

-- the list for n steps is a prefix of the list for more
abbrev pub PrefixLaw : Type 0
PrefixLaw =
    (texts : Texts) (start : Start) (answers : List Answer) (n m : ℕ) → n ≤ m →
    acts texts start answers n ≡ take n (acts texts start answers m)

-- the list for n steps has n, or it ends with the last one of the thread
abbrev pub ClosingLaw : Type 0
ClosingLaw =
    (texts : Texts) (start : Start) (answers : List Answer) (n : ℕ) →
    (length (acts texts start answers n) ≡ n) ⊎ ((length (acts texts start answers n) < n) × AreWhole start answers (acts texts start answers n))

-- nothing stands behind the last one
abbrev pub LastLaw : Type 0
LastLaw =
    (texts : Texts) (start : Start) (answers : List Answer) (n : ℕ) (prefix rest : List Step) (step : Step) →
    acts texts start answers n ≡ prefix ++ step ∷ rest → IsLastBehind start answers prefix step → rest ≡ []

-- further answers only add steps at the end
abbrev pub AnswersLaw : Type 0
AnswersLaw =
    (texts : Texts) (start : Start) (answers more : List Answer) (n : ℕ) →
    IsPrefix (acts texts start answers n) (acts texts start (answers ++ more) n)

-- each step costs at least 1
abbrev pub CostsLaw : Type 0
CostsLaw =
    (texts : Texts) (start : Start) (answers : List Answer) (prefix : List Step) (step : Step) →
    IsStep texts start answers prefix step → 1 ≤ step.cost

-- each action stands where its thread stands after the steps before it
abbrev pub PlacesLaw : Type 0
PlacesLaw =
    (texts : Texts) (start : Start) (answers : List Answer) (prefix : List Step) (step : Step) (action : Action) →
    IsStep texts start answers prefix step → step.action ≡ Some action → action_place action ≡ next_place start answers prefix

-- the actions are numbered one after another, from the number of the start
abbrev pub NumbersLaw : Type 0
NumbersLaw =
    (texts : Texts) (start : Start) (answers : List Answer) (n j : ℕ) (action : Action) →
    slice_get (actions_of (acts texts start answers n)) j ≡ Some action → (action_place action).step ≡ start.place.step + j

-- The places of a thread rise, where its waits are answered by what stands above them. (This follows from where its actions stand.)
abbrev pub RisingLaw : Type 0
RisingLaw =
    (texts : Texts) (start : Start) (answers : List Answer) (prefix between : List Step) (step later : Step) (action next : Action) →
    IsThreadWithin texts start answers → AreAnsweredAbove (actions_of (prefix ++ step ∷ between)) answers →
    IsStep texts start answers (prefix ++ step ∷ between) later → step.action ≡ Some action → later.action ≡ Some next →
    IsBefore (action_place action) (action_place next)

-- No step is done at or past the horizon, where the thread begins below it and its waits are answered by what stands below it.
abbrev pub HorizonLaw : Type 0
HorizonLaw =
    (texts : Texts) (start : Start) (answers : List Answer) (prefix : List Step) (step : Step) →
    is_past start.until start.place.time ≡ false → AreAnsweredBelow start.until (actions_of prefix) answers →
    IsStep texts start answers prefix step → is_past start.until (next_place start answers prefix).time ≡ false

-- each thread that is started is a child of its starter, with a number of its own
abbrev pub ChildrenLaw : Type 0
ChildrenLaw =
    (texts : Texts) (start : Start) (answers : List Answer) (prefix : List Step) (step : Step) (place : Place) (child : Start) →
    IsStep texts start answers prefix step → step.action ≡ Some (Spawn place child) → IsChild start place (starts_in prefix) child

-- and it runs a block of the texts
abbrev pub BlocksLaw : Type 0
BlocksLaw =
    (texts : Texts) (start : Start) (answers : List Answer) (prefix : List Step) (step : Step) (place : Place) (child : Start) →
    IsThreadWithin texts start answers → IsStep texts start answers prefix step → step.action ≡ Some (Spawn place child) → IsSome (block_of texts child.block)

-- each event has the fields of its kind, and no call writes at an inner path
abbrev pub EventsLaw : Type 0
EventsLaw =
    (texts : Texts) (start : Start) (answers : List Answer) (prefix : List Step) (step : Step) (event : EventView) →
    IsStep texts start answers prefix step → step.action ≡ Some (Emit event) → IsEffectSmall start event → IsWellMade event

-- each event has a path exactly where its kind has one, also where the number of an effect is too great
abbrev pub EventPathsLaw : Type 0
EventPathsLaw =
    (texts : Texts) (start : Start) (answers : List Answer) (prefix : List Step) (step : Step) (event : EventView) →
    IsStep texts start answers prefix step → step.action ≡ Some (Emit event) → is_some event.path ≡ has_path event.kind

-- all that a thread does is within the limits of the language, where what it is given is
abbrev pub LimitsLaw : Type 0
LimitsLaw =
    (texts : Texts) (start : Start) (answers : List Answer) (prefix : List Step) (step : Step) (action : Action) →
    IsThreadWithin texts start answers → IsStep texts start answers prefix step → step.action ≡ Some action → IsActionSmall start action → IsActionWithin action

-- the next steps up to a stop
pub record NextSteps (texts : Texts) (start : Start) (old new : List Answer) (before limit : ℕ) : Type 0 where
  pub steps : List Step
  pub stop : Stop
  pub here : acts texts start new (before + length steps) ≡ acts texts start old before ++ steps
  pub fewest : Fewest start.until limit 0 steps stop

-- a thread that has not ended, and has the answer that it asked for, has a next piece, of at most as many steps as its limit
abbrev pub NextLaw : Type 0
NextLaw =
    (texts : Texts) (start : Start) (old : List Answer) (answer : Option Answer) (before limit : ℕ) →
    length (acts texts start old before) ≡ before → ¬ AreWhole start (old ++ given answer) (acts texts start old before) → 1 ≤ limit →
    (next : NextSteps texts start old (old ++ given answer) before limit) × (length next.steps ≤ limit)

-- A thread has only one next piece: two of them are the same, and lead as far.
abbrev pub PiecesAreOne : Type 0
PiecesAreOne =
    (texts : Texts) (start : Start) (old new : List Answer) (before limit now other : ℕ) (piece same : Piece) →
    IsPiece texts start old new before limit piece now → IsPiece texts start old new before limit same other → (piece ≡ same) × (now ≡ other)
