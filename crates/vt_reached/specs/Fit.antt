-- What the texts of a session can lead to: how threads start, and which events there are. Own.
--
-- A thread that starts so, and whose reads are answered by such events that match what they ask for, publishes nothing that a pattern can find outside the reach of its block (`Leading.antt`). Of a thread that is told anything else that is not so: a live loop that is told a body of another loop runs it.
use Rattle.std.specs.Prelude.{◌≡◌, ℕ, suc, List, [], ◌∷◌, ◌++◌, Option, Some, None}
use Rattle.std.specs.List.{Contains}
use Rattle.vt_frac.specs.Fraction.{Fraction}
use Rattle.vt_path.specs.Inner.{inner_of}
use Rattle.vt_path.specs.declared.inner_path.InnerKind.TheVariants.{Body as BodyPath, Def as DefPath, Named as NamedPath}
use Rattle.vt_path.specs.declared.pattern.Segment.{Segment}
use Rattle.vt_tree.specs.declared.statement.Block.{Block}
use Rattle.vt_event.specs.declared.references.BlockRef.{BlockRef}
use Rattle.vt_event.specs.Event.{EventView}
use Rattle.vt_event.specs.Pairs.{Pairs}
use Rattle.vt_reach.specs.declared.found.Row.{Row}
use Rattle.vt_reach.specs.declared.mention.Key.TheVariants.{Function, Loop}
use Rattle.vt_reach.specs.declared.mention.Mention.TheVariants.{Writes}
use Rattle.vt_reach.specs.Reach.{IsBlock, MayWrite, rows_of}
use Rattle.vt_run.specs.declared.role.Role.{Role}
use Rattle.vt_run.specs.declared.role.Role.TheVariants.{Plain, Named, Looped, Timed}
use Rattle.vt_run.specs.declared.start.Start.{Start}
use Rattle.vt_run.specs.declared.texts.Texts.{Texts}
use Rattle.vt_run.specs.declared.texts.Verdict.{Verdict}
use Rattle.vt_run.specs.Threads.{tree_of}

-- the blocks of a text, where it is not refused
abbrev pub rows_in : ℕ → Option Block → List Row
rows_in number None = []
rows_in number (Some tree) = rows_of number tree

-- the blocks of texts that are numbered from here on
abbrev pub rows_after : ℕ → List (Fraction × Verdict) → List Row
rows_after number [] = []
rows_after number (text ∷ texts) = rows_in number (tree_of text.1) ++ rows_after (suc number) texts

-- the blocks of the texts that are not refused: the reach to which all these were added, each under its number, is seen as this list
abbrev pub rows_of_texts : Texts → List Row
rows_of_texts texts = rows_after 1 texts

-- the block that is meant
abbrev pub IsRow : Texts → BlockRef → Row → Type 0
IsRow texts ref row = IsBlock (rows_of_texts texts) ref.text ref.block row

-- the block of a thread fits its part: that of a named thread tells of this name, and that of a live loop is a body of this loop
abbrev pub FitsRole : Role → Row → Type 0
FitsRole Plain row = Unit {0}
FitsRole (Named name) row = Contains row.mentions (Writes (inner_of NamedPath name))
FitsRole (Looped name wait init) row = row.body_of ≡ Some (Loop name)
FitsRole (Timed rest given line) row = Unit {0}

-- a start that the texts can lead to
pub record IsFit (texts : Texts) (start : Start) : Type 0 where
  pub row : Row
  pub of_texts : IsRow texts start.block row
  pub role : FitsRole start.role row

-- a body that is told at the path of a live loop is a body of that loop, and one at the path of a function a body of that function
pub record FitsPath (path : Option (List (List ℕ))) (row : Row) : Type 0 where
  pub loop : (name : List ℕ) → path ≡ Some (inner_of BodyPath name) → row.body_of ≡ Some (Loop name)
  pub function : (name : List ℕ) → path ≡ Some (inner_of DefPath name) → row.body_of ≡ Some (Function name)

-- a block that an event carries is of these texts, whatever the event's path, and fits that
abbrev pub FitsBody : Texts → Option (List (List ℕ)) → Option (BlockRef × Pairs) → Type 0
FitsBody texts path None = Unit {0}
FitsBody texts path (Some body) = (row : Row) × IsRow texts body.0 row × FitsPath path row

-- an event that the texts can lead to
abbrev pub IsKnown : Texts → EventView → Type 0
IsKnown texts event = FitsBody texts event.path event.body

-- what a thread that starts so, and all that it leads to, may publish
abbrev pub MayPublish : Texts → Start → List Segment → Type 0
MayPublish texts start pattern = MayWrite (rows_of_texts texts) start.block.text start.block.block pattern
