-- What a checked tree keeps, and how its blocks are found.
use Rattle.std.specs.Prelude.{ℕ, Option, slice_get}
use Rattle.std.specs.List.{All}
use Rattle.vt_tree.specs.declared.statement.Block.{Block}
use Rattle.vt_tree.specs.Parts.{Context, blocks, in_block, sites_of}
use Rattle.vt_tree.specs.WellFormed.{IsWellFormed}
use Rattle.vt_check.specs.declared.fault.CheckFault.{CheckFault}
use Rattle.vt_check.specs.declared.fault.CheckFault.TheVariants.{At, NoMemory}
use Rattle.vt_check.specs.Allowed.{IsAllowed, IsSound, CheckRefuses}

-- what a checked tree is: one that a text is read as, and that the checks allow
pub record IsChecked (tree : Block) : Type 0 where
  pub formed : IsWellFormed tree
  pub allowed : IsAllowed tree

-- what a fault says of the tree; want of memory has no cause
abbrev pub IsCause : Block → CheckFault → Type 0
IsCause tree (At line kind) = CheckRefuses tree line kind
IsCause tree NoMemory = Unit {0}

-- the block of a number: the blocks are numbered in their order, from 0; None where the text has no block of that number
abbrev pub block_at : Block → ℕ → Option Block
block_at tree number = slice_get (blocks tree) number

-- no call in the block has a fault, where the block stands
pub record IsSoundBlock (block : Block) : Type 0 where
  pub context : Context
  pub sound : All IsSound (sites_of (in_block block context))
