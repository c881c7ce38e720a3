-- How far a runner has come with its thread, and what comes next. The project's own.
use Rattle.std.specs.Prelude.{ℕ, List, ◌++◌, Bool, Option}
use Rattle.vt_event.specs.declared.place.Place.{Place}
use Rattle.vt_run.specs.declared.action.Answer.{Answer}
use Rattle.vt_run.specs.declared.piece.Piece.{Piece}
use Rattle.vt_run.specs.declared.piece.Stop.{Stop}
use Rattle.vt_run.specs.declared.start.Start.{Start}
use Rattle.vt_run.specs.declared.texts.Texts.{Texts}
use Rattle.vt_run.specs.Evaluation.{Step}
use Rattle.vt_run.specs.Pieces.{IsPiece, given}
use Rattle.vt_run.specs.Standing.{next_place}
use Rattle.vt_run.specs.Threads.{acts}

pub record Progress : Type 0 where
  -- how the thread started
  pub start : Start
  -- the answers given so far
  pub answers : List Answer
  -- how many evaluation steps are done
  pub done : ℕ
  -- the stop of the last piece, if there was one
  pub last : Option Stop
  -- whether it failed for want of memory
  pub failed : Bool

-- the steps that are done
abbrev pub done_steps : Texts → Progress → List Step
done_steps texts run = acts texts run.start run.answers run.done

-- the place of the next action, with the answer that the last of these steps asked for
abbrev pub place_with : Option Answer → Texts → Progress → Place
place_with answer texts run = next_place run.start (run.answers ++ given answer) (done_steps texts run)

-- the place of the next action
abbrev pub next_place_of : Texts → Progress → Place
next_place_of texts run = next_place run.start run.answers (done_steps texts run)

-- this piece leads from the one to the other
abbrev pub IsPieceBetween : Texts → Progress → Progress → ℕ → Piece → Type 0
IsPieceBetween texts old new limit piece = IsPiece texts old.start old.answers new.answers old.done limit piece new.done
