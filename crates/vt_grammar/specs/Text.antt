-- Which tokens are read as which tree, which begin a text, and where a text is refused.
use Rattle.std.specs.Prelude.{◌≡◌, ◌⊎◌, ℕ, List, [], ◌∷◌, ◌++◌, None}
use Rattle.vt_tree.specs.declared.statement.Block.{Block}
use Rattle.vt_tree.specs.declared.statement.Stmt.{Stmt}
use Rattle.vt_grammar.specs.Form.{Form, mapped}
use Rattle.vt_grammar.specs.Grammar.{block, opened}
use Rattle.vt_grammar.specs.Marks.{Mark, Spelled, marked}
use Rattle.vt_grammar.specs.Trees.{block_tree}

-- a text: its statements are block 0, and 64 brackets and blocks may be open
unfoldable pub text : Form Mark Block
text = mapped (λ (stmts : List Stmt). block_tree 0 None stmts) (block (opened 64))

-- the tokens are read as this tree
unfoldable pub Reads : List Spelled → Block → Type 0
Reads tokens tree = text.reads (marked 0 tokens) tree

-- the tokens begin a text
unfoldable pub Begins : List Spelled → Type 0
Begins tokens = text.begins (marked 0 tokens)

-- the first token such that the tokens up to and with it begin no text stands on this line
pub record RefusedAt (tokens : List Spelled) (line : ℕ) : Type 0 where
  pub prefix : List Spelled
  pub token : Spelled
  pub rest : List Spelled
  pub whole : tokens ≡ prefix ++ token ∷ rest
  pub begun : Begins prefix
  pub stops : Begins (prefix ++ token ∷ []) → ⊥
  pub line_is : line ≡ token.token.line

-- all tokens begin a text and are none, and the last one stands on this line
pub record RefusedAtEnd (tokens : List Spelled) (line : ℕ) : Type 0 where
  pub prefix : List Spelled
  pub last : Spelled
  pub whole : tokens ≡ prefix ++ last ∷ []
  pub begun : Begins tokens
  pub unread : (tree : Block) → Reads tokens tree → ⊥
  pub line_is : line ≡ last.token.line

-- The tokens are refused on this line. The empty list is read, so a last token is there where the end is refused.
abbrev pub SyntaxRefuses : List Spelled → ℕ → Type 0
SyntaxRefuses tokens line = RefusedAt tokens line ⊎ RefusedAtEnd tokens line

-- The laws

abbrev pub PrefixesBegin : Type 0
PrefixesBegin = (prefix rest : List Spelled) → Begins (prefix ++ rest) → Begins prefix

abbrev pub ReadBegins : Type 0
ReadBegins = (tokens : List Spelled) (tree : Block) → Reads tokens tree → Begins tokens

abbrev pub IsReadOnce : Type 0
IsReadOnce = (tokens : List Spelled) (tree other : Block) → Reads tokens tree → Reads tokens other → tree ≡ other

abbrev pub NeverBoth : Type 0
NeverBoth = (tokens : List Spelled) (tree : Block) (line : ℕ) → Reads tokens tree → SyntaxRefuses tokens line → ⊥

abbrev pub IsRefusedOnce : Type 0
IsRefusedOnce = (tokens : List Spelled) (line other : ℕ) → SyntaxRefuses tokens line → SyntaxRefuses tokens other → line ≡ other
