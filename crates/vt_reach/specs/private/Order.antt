-- How the blocks of the texts stand one after another, and what is made of them.
use Rattle.std.specs.Prelude.{◌≡◌, ◌+◌, ℕ, List, Some, slice_get}
use Rattle.std.specs.List.{Contains}
use Rattle.vt_reach.specs.declared.found.Row.{Row}
use Rattle.vt_reach.specs.declared.reach.Built.{Built}
use Rattle.vt_reach.specs.private.Bodies.{IsGraph, IsWritingGraph}
use Rattle.vt_reach.specs.private.Lists.{AreLists}

-- where the blocks of a text begin: its block 0 stands there
pub record BeginsAt (rows : List Row) (text from : ℕ) : Type 0 where
  pub first : Row
  pub there : slice_get rows from ≡ Some first
  pub of_text : first.text ≡ text
  pub zeroth : first.block ≡ 0

-- the blocks of a text stand in the order of their numbers, and begin at one place
pub record AreInOrder (rows : List Row) : Type 0 where
  pub numbered : (at : ℕ) (block : Row) → slice_get rows at ≡ Some block → (from : ℕ) × (from + block.block ≡ at) × BeginsAt rows block.text from
  pub alone : (text from other : ℕ) → BeginsAt rows text from → BeginsAt rows text other → from ≡ other

-- a block of this text stands there
pub record StandsAt (rows : List Row) (text at : ℕ) : Type 0 where
  pub block : Row
  pub there : slice_get rows at ≡ Some block
  pub of_text : block.text ≡ text

-- this block of this text stands there
pub record IsBlockAt (rows : List Row) (text block at : ℕ) : Type 0 where
  pub found : Row
  pub there : slice_get rows at ≡ Some found
  pub of_text : found.text ≡ text
  pub of_block : found.block ≡ block

-- no blocks of this text are there
abbrev pub BeginsNowhere : List Row → ℕ → Type 0
BeginsNowhere rows text = (from : ℕ) → BeginsAt rows text from → ⊥

-- the block 0 of a text stands there
pub record IsFirst (rows : List Row) (at : ℕ) : Type 0 where
  pub first : Row
  pub there : slice_get rows at ≡ Some first
  pub zeroth : first.block ≡ 0

-- the places where the blocks of the texts begin
pub record AreStarts (rows : List Row) (starts : List ℕ) : Type 0 where
  pub each : (at : ℕ) → Contains starts at → IsFirst rows at
  pub all : (at : ℕ) → IsFirst rows at → Contains starts at

-- what is made of the blocks
pub record IsBuilt (rows : List Row) (built : Built) : Type 0 where
  pub starts : AreStarts rows built.starts
  pub graph : IsGraph rows built.graph
  pub writings : IsWritingGraph rows built.writings
  pub lists : AreLists built.graph built.writings built.lists
