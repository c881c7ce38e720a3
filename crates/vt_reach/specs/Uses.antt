-- That the blocks that are found in a text are its blocks, and that inner paths are matched by inner patterns alone. Own.
use Rattle.std.specs.Prelude.{◌≡◌, ℕ, List, [], ◌∷◌, ◌++◌, Some}
use Rattle.vt_path.specs.InnerPattern.{is_inner_pattern}
use Rattle.vt_path.specs.Match.{Matches, is_inner}
use Rattle.vt_path.specs.declared.pattern.Segment.{Segment}
use Rattle.vt_tree.specs.declared.statement.Block.{Block}
use Rattle.vt_check.specs.Checked.{block_at}
use Rattle.vt_reach.specs.declared.found.BlockUse.{BlockUse}
use Rattle.vt_reach.specs.declared.found.Row.{Row}
use Rattle.vt_reach.specs.declared.mention.Mention.{Mention}
use Rattle.vt_reach.specs.Reach.{IsBlock, rows_of}
use Rattle.vt_reach.specs.TreeMentions.{inside_found}

-- what is mentioned in a block is what it mentions itself, for the call that it belongs to, and what is mentioned inside it
pub record IsUse (block : Block) (found : BlockUse) : Type 0 where
  pub own : List Mention
  pub whole : found.mentions ≡ own ++ (inside_found block).mentions

-- the blocks one after another
abbrev pub AreUses : List Block → List BlockUse → Type 0
AreUses [] [] = Unit {0}
AreUses [] (found ∷ founds) = ⊥
AreUses (block ∷ blocks) [] = ⊥
AreUses (block ∷ blocks) (found ∷ founds) = IsUse block found × AreUses blocks founds

-- each block of a text is among the blocks of the reach, under its number
abbrev pub HasEachBlock : Type 0
HasEachBlock =
    (text number : ℕ) (tree block : Block) → block_at tree number ≡ Some block →
    (found : Row) × IsBlock (rows_of text tree) text number found × (own : List Mention) × (found.mentions ≡ own ++ (inside_found block).mentions)

-- a pattern that matches a path is inner exactly where the path is: so no flag stands for a path that is inner, and one stands for each other path
abbrev pub AreInnerAlike : Type 0
AreInnerAlike = (pattern : List Segment) (path : List (List ℕ)) → Matches pattern path → is_inner_pattern pattern ≡ is_inner path
