-- The verdict on a list of tokens: the tree that it is read as, or the line on which it is refused. Own.
use Rattle.std.specs.Prelude.{◌≡◌, ◌⊎◌, ◌↔◌, ℕ, List}
use Rattle.std.proofs.Common.{inl, inr}
use Rattle.vt_tree.specs.declared.statement.Block.{Block}
use Rattle.vt_grammar.specs.Marks.{Spelled}
use Rattle.vt_grammar.specs.Text.{Reads, SyntaxRefuses}

-- the tokens are read as a tree, or refused on a line
abbrev pub IsJudged : List Spelled → Type 0
IsJudged tokens = ((tree : Block) × Reads tokens tree) ⊎ ((line : ℕ) × SyntaxRefuses tokens line)

-- what a list of tokens comes to
pub data Parsed : Type 0 where
  Tree : Block → Parsed
  Refused : ℕ → Parsed

-- the verdict: the tree of which Reads holds, or else the line on which SyntaxRefuses holds
abbrev pub parsed_by : (tokens : List Spelled) → IsJudged tokens → Parsed
parsed_by tokens (inl (tree, h)) = Tree tree
parsed_by tokens (inr (line, h)) = Refused line

-- The laws

-- each list of tokens is read or refused
abbrev pub AlwaysOne : Type 0
AlwaysOne = (tokens : List Spelled) → IsJudged tokens

-- however it was judged, the verdict is a tree exactly where the tokens are read as it
abbrev pub IsTreeWhereRead : Type 0
IsTreeWhereRead = (tokens : List Spelled) (judged : IsJudged tokens) (tree : Block) → (parsed_by tokens judged ≡ Tree tree) ↔ Reads tokens tree

-- however it was judged, the verdict is a line exactly where the tokens are refused on it
abbrev pub IsLineWhereRefused : Type 0
IsLineWhereRefused =
    (tokens : List Spelled) (judged : IsJudged tokens) (line : ℕ) → (parsed_by tokens judged ≡ Refused line) ↔ SyntaxRefuses tokens line
