-- What holds of every score of a piece: own.
use Rattle.std.specs.Prelude.{ℕ, List}
use Rattle.vt_event.specs.Score.{IsInOrder}
use Rattle.vt_cli.specs.Piece.{score_of}

-- the score of a text is in order: its events by place, its living threads by their lists, and none twice
abbrev pub ScoresAreInOrder : Type 0
ScoresAreInOrder = (text : List ℕ) → IsInOrder (score_of text)
