-- What a runner notes of the steps of its thread: those that are done are passed over, the next ones are kept, and nothing is kept past the first that makes a stop. The project's own.
--
-- A step costs any number without bound, and code knows no number above 2^64 - 1. So a cost that is noted is capped, and a cost that was capped before leads to the same notes.
use Rattle.std.specs.Prelude.{◌≡◌, ◌≤◌, ◌<◌, ℕ, zero, suc, ◌+◌, ◌-◌, ◌^◌, min, List, [], ◌∷◌, ◌++◌, Bool, true, false, ◌||◌, IsTrue, nat_le, Option, Some, None, is_some}
use Rattle.std.specs.Option.{option_map}
use Rattle.vt_frac.specs.Arithmetic.{sum_of}
use Rattle.vt_frac.specs.Fraction.{Fraction, fits}
use Rattle.vt_run.specs.declared.action.Action.{Action}
use Rattle.vt_run.specs.declared.action.Action.TheVariants.{Rest}
use Rattle.vt_run.specs.declared.piece.Piece.{Piece}
use Rattle.vt_run.specs.declared.piece.Stop.{Stop}
use Rattle.vt_run.specs.Pieces.{listed, or_more, stop_of}
use Rattle.vt_run.specs.Evaluation.{Step}

pub record Notes : Type 0 where
  -- how many of the next steps are passed over: those of the pieces before
  pub skip : ℕ
  -- the actions of the steps that are kept
  pub actions : List Action
  -- the costs of these steps, together, but at most 2^64 - 1
  pub cost : ℕ
  -- how many steps are kept
  pub count : ℕ
  -- the stop that the last of them makes
  pub stop : Option Stop
  -- the cost at which a piece stops
  pub limit : ℕ
  -- the horizon
  pub until : Fraction
  -- whether the thread has nothing more to do
  pub over : Bool

-- a cost as code knows it
abbrev pub capped : ℕ → ℕ
capped cost = min cost (2 ^ 64 - 1)

-- the step is kept: at this cost with those before it, it may make a stop
abbrev pub kept_at : ℕ → Notes → Step → Notes
kept_at cost notes step = record notes {
  actions = notes.actions ++ listed step.action;
  cost = cost;
  count = notes.count + 1;
  stop = or_more (stop_of notes.until step.action) (nat_le notes.limit cost);
}

abbrev pub kept : Notes → Step → Notes
kept notes step = kept_at (capped (notes.cost + step.cost)) notes step

abbrev pub unless_skipped : ℕ → Notes → Step → Notes
unless_skipped zero notes step = kept notes step
unless_skipped (suc skip) notes step = record notes { skip = skip }

abbrev pub unless_stopped : Option Stop → Notes → Step → Notes
unless_stopped None notes step = unless_skipped notes.skip notes step
unless_stopped (Some stop) notes step = notes

abbrev pub unless_over : Bool → Notes → Step → Notes
unless_over false notes step = unless_stopped notes.stop notes step
unless_over true notes step = notes

-- one step is made: nothing is noted past the stop, or once the thread has nothing more to do
abbrev pub note : Notes → Step → Notes
note notes step = unless_over notes.over notes step

-- these steps are made, one after another
abbrev pub noted : Notes → List Step → Notes
noted notes [] = notes
noted notes (step ∷ steps) = noted (note notes step) steps

-- the thread has nothing more to do
abbrev pub finished : Notes → Notes
finished notes = record notes { over = true }

-- what is noted, apart from whether there is more to do
abbrev pub seen : Notes → Notes
seen notes = record notes { over = false }

-- nothing more is noted
abbrev pub IsOver : Notes → Type 0
IsOver notes = IsTrue (notes.over || is_some notes.stop)

-- the notes of a piece that begins behind so many steps, before any step is made
abbrev pub fresh : ℕ → ℕ → Fraction → Notes
fresh skip limit until = record { skip = skip; actions = []; cost = 0; count = 0; stop = None; limit = limit; until = until; over = false }

-- the piece that is noted, once there is a stop
abbrev pub piece_of : Notes → Option Piece
piece_of notes = option_map (λ stop. record { actions = notes.actions; cost = notes.cost; stop = stop }) notes.stop

-- What holds of notes at every time where each step costs at least 1: a piece is not at its limit before it stops, so it has at most as many steps as its limit says.
pub record IsOpen (notes : Notes) : Type 0 where
  pub limited : notes.limit ≤ 4096
  pub below : notes.stop ≡ None → notes.cost < notes.limit
  pub counted : notes.count ≤ notes.cost
  pub few : notes.count ≤ notes.limit

-- the time after a rest is one that a `Frac` has; a rest to any other time is the fault overflow, and no action
abbrev pub RestFits : Option Action → Type 0
RestFits (Some (Rest place seconds)) = IsTrue (fits (sum_of place.time seconds))
RestFits _ = Unit {0}
