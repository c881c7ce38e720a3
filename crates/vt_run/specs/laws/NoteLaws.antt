-- What is noted of a thread is its next piece.
use Rattle.std.specs.Prelude.{◌≡◌, ◌≤◌, ◌<◌, ℕ, ◌+◌, ◌^◌, List, Some}
use Rattle.vt_run.specs.declared.action.Answer.{Answer}
use Rattle.vt_run.specs.declared.piece.Piece.{Piece}
use Rattle.vt_run.specs.declared.start.Start.{Start}
use Rattle.vt_run.specs.declared.texts.Texts.{Texts}
use Rattle.vt_run.specs.Notes.{Notes, fresh, noted, piece_of, seen}
use Rattle.vt_run.specs.Pieces.{IsPiece}
use Rattle.vt_run.specs.Threads.{acts, thread}

-- These are the notes of a thread: under this bound all its steps are made, of which the first ones are passed over.
pub record AreNotesOf (texts : Texts) (start : Start) (answers : List Answer) (before limit bound : ℕ) (notes : Notes) : Type 0 where
  pub all : seen (noted (fresh before limit start.until) (thread texts start answers bound).steps) ≡ seen notes
  -- the bound is not reached
  pub within : before + notes.count ≤ bound

-- Where the new answers change none of the steps that are done, the piece that is noted is the next piece of the thread.
abbrev pub PieceLaw : Type 0
PieceLaw =
    (texts : Texts) (start : Start) (old new : List Answer) (before limit bound : ℕ) (notes : Notes) (piece : Piece) →
    limit < 2 ^ 64 →
    acts texts start new before ≡ acts texts start old before →
    AreNotesOf texts start new before limit bound notes →
    piece_of notes ≡ Some piece →
    IsPiece texts start old new before limit piece (before + notes.count)
