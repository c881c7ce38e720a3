-- What a search for a block finds.
use Rattle.std.specs.Prelude.{◌≡◌, ℕ, ◌==◌, cond, List, [], ◌∷◌, Option, Some, None}
use Rattle.std.specs.List.{All}
use Rattle.vt_tree.specs.declared.statement.Block.{Block, out-Block}
use Rattle.vt_tree.specs.Parts.{Context, Walk, blocks_of, sites_of}
use Rattle.vt_check.specs.Checked.{IsSoundBlock}
use Rattle.vt_check.specs.Allowed.{IsSound}

-- the first block with this number
abbrev pub block_with : ℕ → List Block → Option Block
block_with number [] = None
block_with number (block ∷ blocks) = cond ((out-Block block).number == number) (Some block) (block_with number blocks)

-- the calls of the block, if there is one, have no fault
abbrev pub IsSoundIn : Option Block → Type 0
IsSoundIn None = Unit {0}
IsSoundIn (Some block) = IsSoundBlock block

-- The first block with this number among these parts, wherever they stand; where their calls have no fault, its calls have none.
pub record Finds (number : ℕ) (parts : Walk) (found : Option Block) : Type 0 where
  pub by : (context : Context) → found ≡ block_with number (blocks_of (parts context))
  pub sound : (context : Context) → All IsSound (sites_of (parts context)) → IsSoundIn found
