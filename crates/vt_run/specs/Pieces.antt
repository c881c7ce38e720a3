-- A piece of a thread: the fewest of its next steps that reach a stop. The project's own.
use Rattle.std.specs.Prelude.{◌≡◌, ℕ, ◌+◌, ◌-◌, ◌^◌, ◌<◌, min, List, [], ◌∷◌, ◌++◌, length, Bool, cond, nat_le, Option, Some, None, IsSome}
use Rattle.vt_frac.specs.Arithmetic.{sum_of}
use Rattle.vt_frac.specs.Fraction.{Fraction}
use Rattle.vt_run.specs.declared.action.Action.{Action}
use Rattle.vt_run.specs.declared.action.Action.TheVariants.{Emit, Rest, Read, Wait, Spawn, End}
use Rattle.vt_run.specs.declared.action.Answer.{Answer}
use Rattle.vt_run.specs.declared.action.Answer.TheVariants.{Nothing, Found}
use Rattle.vt_run.specs.declared.piece.Piece.{Piece}
use Rattle.vt_run.specs.declared.piece.Stop.{Stop}
use Rattle.vt_run.specs.declared.piece.Stop.TheVariants.{Asks, More, Past, Ended}
use Rattle.vt_run.specs.declared.start.Start.{Start}
use Rattle.vt_run.specs.declared.texts.Texts.{Texts}
use Rattle.vt_run.specs.Actions.{is_past}
use Rattle.vt_run.specs.Evaluation.{Step}
use Rattle.vt_run.specs.Threads.{acts}

-- the stop that an action makes: a read or a wait asks, a rest may reach the horizon, an end is one
abbrev pub stop_of : Fraction → Option Action → Option Stop
stop_of until None = None
stop_of until (Some (Emit event)) = None
stop_of until (Some (Rest place seconds)) = cond (is_past until (sum_of place.time seconds)) (Some Past) None
stop_of until (Some (Read place pattern)) = Some Asks
stop_of until (Some (Wait place pattern stop)) = Some Asks
stop_of until (Some (Spawn place start)) = None
stop_of until (Some (End place reason)) = Some Ended

-- where no action makes a stop, the cost may: it reached the limit
abbrev pub or_more : Option Stop → Bool → Option Stop
or_more None full = cond full (Some More) None
or_more (Some stop) full = Some stop

abbrev pub listed : Option Action → List Action
listed None = []
listed (Some action) = action ∷ []

-- the actions of steps, in order
abbrev pub actions_of : List Step → List Action
actions_of [] = []
actions_of (step ∷ steps) = listed step.action ++ actions_of steps

-- the costs of steps, together
abbrev pub cost_of : List Step → ℕ
cost_of [] = 0
cost_of (step ∷ steps) = step.cost + cost_of steps

-- a step that makes a stop is the last one, and that stop is this; after one that makes none it is as said of the later steps
abbrev pub ends_at : Option Stop → List Step → Stop → Type 0 → Type 0
ends_at None rest stop later = later
ends_at (Some made) rest stop later = (made ≡ stop) × (rest ≡ [])

-- the last step makes the stop, and none before it makes one; `cost` is that of the steps before these
abbrev pub Fewest : Fraction → ℕ → ℕ → List Step → Stop → Type 0
Fewest until limit cost [] stop = ⊥
Fewest until limit cost (step ∷ rest) stop =
    ends_at (or_more (stop_of until step.action) (nat_le limit (cost + step.cost))) rest stop (Fewest until limit (cost + step.cost) rest stop)

-- the next piece of a thread: behind the steps that were done with the old answers the next ones, which are done with the new
pub record IsPiece (texts : Texts) (start : Start) (old new : List Answer) (before limit : ℕ) (piece : Piece) (now : ℕ) : Type 0 where
  pub steps : List Step
  pub here : acts texts start new now ≡ acts texts start old before ++ steps
  pub count : now ≡ before + length steps
  pub actions : piece.actions ≡ actions_of steps
  pub cost : piece.cost ≡ min (cost_of steps) (2 ^ 64 - 1)
  pub fewest : Fewest start.until limit 0 steps piece.stop

-- Whether a thread goes on, by the stop of its last piece, if there was one: an answer is given exactly where it asks.
abbrev pub GoesOn : Option Stop → Option Answer → Type 0
GoesOn None None = Unit {0}
GoesOn None (Some answer) = ⊥
GoesOn (Some Asks) None = ⊥
GoesOn (Some Asks) (Some answer) = Unit {0}
GoesOn (Some More) None = Unit {0}
GoesOn (Some stop) answer = ⊥

-- whether a thread stands at the place of a next action, by the stop of its last piece: not where it asks or has ended
abbrev pub HasNextPlace : Option Stop → Type 0
HasNextPlace None = Unit {0}
HasNextPlace (Some More) = Unit {0}
HasNextPlace (Some Past) = Unit {0}
HasNextPlace (Some Asks) = ⊥
HasNextPlace (Some Ended) = ⊥

abbrev pub given : Option Answer → List Answer
given None = []
given (Some answer) = answer ∷ []

abbrev pub last_of : Option Action → List Action → Option Action
last_of action [] = action
last_of action (next ∷ actions) = last_of (Some next) actions

-- a wait is answered by an event with a path, whose micro step is below 2^31; where there is no answer nothing is said
abbrev pub IsWaitAnswer : Option Answer → Type 0
IsWaitAnswer None = Unit {0}
IsWaitAnswer (Some Nothing) = ⊥
IsWaitAnswer (Some (Found event)) = IsSome event.path × (event.place.micro < 2 ^ 31)

-- what an answer has to be, by the last action of the thread
abbrev pub AnswersLast : Option Action → Option Answer → Type 0
AnswersLast (Some (Wait place pattern stop)) answer = IsWaitAnswer answer
AnswersLast _ answer = Unit {0}

-- the answer is one that the last of these steps may have
abbrev pub MayBeAnswer : List Step → Option Answer → Type 0
MayBeAnswer steps answer = AnswersLast (last_of None (actions_of steps)) answer
