-- What is kept of the blocks besides their mentions: which bodies each of them runs, and which of its mentions write.
use Rattle.std.specs.Prelude.{◌≡◌, ◌↔◌, ℕ, List, [], length, Option, Some, None, slice_get, slice_index_or}
use Rattle.std.specs.List.{Contains}
use Rattle.vt_reach.specs.declared.found.Row.{Row}
use Rattle.vt_reach.specs.declared.mention.Key.{Key}
use Rattle.vt_reach.specs.declared.mention.Mention.{Mention}
use Rattle.vt_reach.specs.declared.mention.Mention.TheVariants.{Writes, WritesAny, Runs}

-- the body is of a function or a live loop that is run by what is mentioned
abbrev pub RunsBody : List Mention → Option Key → Type 0
RunsBody mentions None = ⊥
RunsBody mentions (Some key) = Contains mentions (Runs key)

-- at this place stands a body that is run by what is mentioned
pub record RunsAt (rows : List Row) (mentions : List Mention) (at : ℕ) : Type 0 where
  pub body : Row
  pub there : slice_get rows at ≡ Some body
  pub runs : RunsBody mentions body.body_of

-- these are the places of those bodies
pub record AreBodies (rows : List Row) (mentions : List Mention) (places : List ℕ) : Type 0 where
  pub each : (at : ℕ) → Contains places at → RunsAt rows mentions at
  pub all : (at : ℕ) → RunsAt rows mentions at → Contains places at

-- the list at this place
abbrev pub list_at : List (List ℕ) → ℕ → List ℕ
list_at lists at = slice_index_or lists at []

-- for each block the places of the bodies that it runs
pub record IsGraph (rows : List Row) (graph : List (List ℕ)) : Type 0 where
  pub count : length graph ≡ length rows
  pub bodies : (at : ℕ) (block : Row) → slice_get rows at ≡ Some block → AreBodies rows block.mentions (list_at graph at)

-- a path is written, or any
abbrev pub IsWriting : Mention → Type 0
IsWriting (Writes path) = Unit {0}
IsWriting WritesAny = Unit {0}
IsWriting (Runs key) = ⊥

-- at this place a mention writes
pub record WritesAt (mentions : List Mention) (at : ℕ) : Type 0 where
  pub mention : Mention
  pub there : slice_get mentions at ≡ Some mention
  pub writes : IsWriting mention

-- these are the places of the mentions that write
pub record AreWritings (mentions : List Mention) (places : List ℕ) : Type 0 where
  pub each : (at : ℕ) → Contains places at → WritesAt mentions at
  pub all : (at : ℕ) → WritesAt mentions at → Contains places at

-- for each block the places of its mentions that write
pub record IsWritingGraph (rows : List Row) (writings : List (List ℕ)) : Type 0 where
  pub count : length writings ≡ length rows
  pub places : (at : ℕ) (block : Row) → slice_get rows at ≡ Some block → AreWritings block.mentions (list_at writings at)
