-- Tokens whose bytes have the forms of their kinds, and what holds of the tree that they are read as. The project's own.
use Rattle.std.specs.Prelude.{ℕ, List}
use Rattle.std.specs.List.{All}
use Rattle.vt_lex.specs.declared.token.Token.{Token}
use Rattle.vt_lex.specs.Forms.{IsFormOf}
use Rattle.vt_lex.specs.Lexing.{Lexes}
use Rattle.vt_tree.specs.declared.statement.Block.{Block}
use Rattle.vt_tree.specs.WellFormed.{IsWellFormed}
use Rattle.vt_grammar.specs.Marks.{Spelled}
use Rattle.vt_grammar.specs.Tokens.{spelled}
use Rattle.vt_grammar.specs.Text.{Reads}

-- the bytes of the token have the form of its kind
abbrev pub IsFormed : Spelled → Type 0
IsFormed s = IsFormOf s.token.kind s.bytes

-- those of each token have
abbrev pub AreFormed : List Spelled → Type 0
AreFormed tokens = All IsFormed tokens

-- The laws

abbrev pub IsFormedWhereRead : Type 0
IsFormedWhereRead = (tokens : List Spelled) (tree : Block) → AreFormed tokens → Reads tokens tree → IsWellFormed tree

abbrev pub AreFormedWhereLexed : Type 0
AreFormedWhereLexed = (text : List ℕ) (first_line : ℕ) (tokens : List Token) → Lexes text first_line tokens → AreFormed (spelled text tokens)
