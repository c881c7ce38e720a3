-- The order in which the parts of a tree stand in its text. The project's own.
use Rattle.std.specs.Prelude.{◌≡◌, true, List, [], ◌∷◌, ◌++◌}
use Rattle.vt_tree.specs.declared.expression.Call.{out-Call}
use Rattle.vt_tree.specs.declared.statement.Block.{Block, out-Block}
use Rattle.vt_tree.specs.Parts.{Part, called, opened, in_block, in_text}
use Rattle.vt_grammar.specs.declared.terminals.Terminal.TheVariants as terminals
use Rattle.vt_grammar.specs.Marks.{Mark, Spelled, begins_block, marked}
use Rattle.vt_grammar.specs.Text.{Reads}

-- a call stands at a name, the one that it calls, and a block at the `do` or `{` that has its number
abbrev pub StandsAt : Part → Mark → Type 0
StandsAt (called site) t = (t.terminal ≡ terminals.Name) × (t.bytes ≡ (out-Call site.call).name)
StandsAt (opened block) t = (begins_block t.terminal ≡ true) × (t.number ≡ (out-Block block).number)

-- the list is some items, then one of which the first holds, then items of which the second does
pub record Found {T : Type 0} (P : T → Type 0) (Q : List T → Type 0) (items : List T) : Type 0 where
  pub before : List T
  pub here : T
  pub after : List T
  pub whole : items ≡ before ++ here ∷ after
  pub holds : P here
  pub rest : Q after

-- each of the first list stands at an item of its own of the second, and these come in the same order
abbrev pub AreAmong : {A T : Type 0} → (A → T → Type 0) → List A → List T → Type 0
AreAmong R [] items = Unit {0}
AreAmong R (x ∷ xs) items = Found (R x) (AreAmong R xs) items

-- The law: all calls and blocks of a tree, none left out, stand in the order of the tokens that it is read from. At which token a block
-- stands is told by its number. Where a text has a name no more often than it is called, its tokens are those of the calls, each at its
-- own; a name that is a variable too may stand at more tokens than calls, and the law does not say which of them are the calls'.
abbrev pub IsInOrder : Type 0
IsInOrder = (tokens : List Spelled) (tree : Block) → Reads tokens tree → AreAmong StandsAt (in_block tree in_text) (marked 0 tokens)
