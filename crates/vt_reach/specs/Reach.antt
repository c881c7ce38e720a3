-- The reach of a block: which paths a thread that runs it may write, itself and by whatever it starts or calls. To write is to publish what a pattern can find: what a `sync` takes has a path too, and no pattern finds it. Own.
use Rattle.std.specs.Prelude.{◌≡◌, ℕ, suc, List, [], ◌∷◌, Bool, false, Option, Some}
use Rattle.std.specs.List.{Contains}
use Rattle.vt_path.specs.Match.{Matches}
use Rattle.vt_path.specs.InnerPattern.{is_inner_pattern}
use Rattle.vt_path.specs.declared.pattern.Segment.{Segment}
use Rattle.vt_tree.specs.declared.statement.Block.{Block}
use Rattle.vt_reach.specs.declared.mention.Key.{Key}
use Rattle.vt_reach.specs.declared.mention.Mention.{Mention}
use Rattle.vt_reach.specs.declared.mention.Mention.TheVariants.{Writes, WritesAny, Runs}
use Rattle.vt_reach.specs.declared.found.BlockUse.{BlockUse}
use Rattle.vt_reach.specs.declared.found.Row.{Row}
use Rattle.vt_reach.specs.TreeMentions.{uses_of}

-- a block of a text, with the numbers of both
abbrev pub row : ℕ → ℕ → BlockUse → Row
row text block found = record { text = text; block = block; body_of = found.body_of; mentions = found.mentions }

-- blocks of a text that are numbered from here on
abbrev pub rows_from : ℕ → ℕ → List BlockUse → List Row
rows_from text block [] = []
rows_from text block (found ∷ founds) = row text block found ∷ rows_from text (suc block) founds

-- the blocks of a text
abbrev pub rows_of : ℕ → Block → List Row
rows_of text tree = rows_from text 0 (uses_of tree)

-- The reach of a block, among all blocks of the texts, is the least set that holds what is mentioned in it, and, with each function and each live loop that it runs, the reach of every body of that name, in whatever text it stands.
pub data Reaches (rows : List Row) : Row → Mention → Type 0 where
  mentioned : (block : Row) (mention : Mention) → Contains block.mentions mention → Reaches rows block mention
  by_body : (block : Row) (key : Key) (body : Row) (mention : Mention) → Contains block.mentions (Runs key) → Contains rows body → body.body_of ≡ Some key →
      Reaches rows body mention → Reaches rows block mention

-- The pattern matches the path that is written; where a path is written that is not known before the text runs, it may be any that is not inner.
abbrev pub IsMet : List Segment → Mention → Type 0
IsMet pattern (Writes path) = Matches pattern path
IsMet pattern WritesAny = is_inner_pattern pattern ≡ false
IsMet pattern (Runs key) = ⊥

-- the block with this number, of the text with this number
pub record IsBlock (rows : List Row) (text block : ℕ) (found : Row) : Type 0 where
  pub among : Contains rows found
  pub of_text : found.text ≡ text
  pub of_block : found.block ≡ block

-- a text of this number was added, and has a block of this number
abbrev pub HasBlock : List Row → ℕ → ℕ → Type 0
HasBlock rows text block = (found : Row) × IsBlock rows text block found

-- no text of this number was added
abbrev pub HasNoText : List Row → ℕ → Type 0
HasNoText rows text = (found : Row) → Contains rows found → found.text ≡ text → ⊥

-- a thread that runs this block, and all that it leads to, may write a path that the pattern matches
abbrev pub MayWrite : List Row → ℕ → ℕ → List Segment → Type 0
MayWrite rows text block pattern =
    (found : Row) × (mention : Mention) × IsBlock rows text block found × Reaches rows found mention × IsMet pattern mention
