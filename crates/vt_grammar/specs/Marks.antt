-- Tokens as the grammar sees them.
use Rattle.std.specs.Prelude.{ℕ, suc, Bool, true, false, cond, List, [], ◌∷◌, codes, bytes_eq}
use Rattle.vt_lex.specs.declared.token.Token.{Token}
use Rattle.vt_lex.specs.declared.token.TokenKind.{TokenKind}
use Rattle.vt_lex.specs.declared.token.TokenKind.TheVariants as kinds
use Rattle.vt_grammar.specs.declared.terminals.Terminal.{Terminal}
use Rattle.vt_grammar.specs.declared.terminals.Terminal.TheVariants as terminals

-- a token with the bytes that it has in its text
pub record Spelled : Type 0 where
  pub token : Token
  pub bytes : List ℕ

-- what the rules of the grammar ask of a token. Its number says how many tokens `do` and `{` there are up to it, that one
-- with it: each of them begins a block, so the number of a block is that of the token that it begins with.
pub record Mark : Type 0 where
  pub terminal : Terminal
  pub line : ℕ
  pub gap : Bool
  pub bytes : List ℕ
  pub number : ℕ

-- a spelling and its terminal
abbrev pub Spelling : Type 0
Spelling = List ℕ × Terminal

abbrev pub terminal_in : List Spelling → List ℕ → Terminal
terminal_in [] bytes = terminals.Other
terminal_in ((spelling, w) ∷ rows) bytes = cond (bytes_eq spelling bytes) w (terminal_in rows bytes)

abbrev pub keywords : List Spelling
keywords =
    (codes "do", terminals.Do) ∷ (codes "end", terminals.End) ∷ (codes "if", terminals.If) ∷ (codes "elsif", terminals.Elsif)
    ∷ (codes "else", terminals.Else) ∷ (codes "unless", terminals.Unless) ∷ (codes "and", terminals.And) ∷ (codes "or", terminals.Or)
    ∷ (codes "not", terminals.Not) ∷ (codes "nil", terminals.Nil) ∷ (codes "true", terminals.True) ∷ (codes "false", terminals.False) ∷ []

-- of the two terminals of `-`, `(` and `[` the one for a token that no blank stands before
abbrev pub operators : List Spelling
operators =
    (codes "+", terminals.Plus) ∷ (codes "-", terminals.Minus) ∷ (codes "*", terminals.Star) ∷ (codes "/", terminals.Slash)
    ∷ (codes "%", terminals.Percent) ∷ (codes "==", terminals.Same) ∷ (codes "!=", terminals.Differs) ∷ (codes "<", terminals.Below)
    ∷ (codes "<=", terminals.AtMost) ∷ (codes ">", terminals.Above) ∷ (codes ">=", terminals.AtLeast) ∷ (codes "=", terminals.Set)
    ∷ (codes "+=", terminals.SetPlus) ∷ (codes "-=", terminals.SetMinus) ∷ (codes "*=", terminals.SetTimes) ∷ (codes "&&", terminals.Both)
    ∷ (codes "||", terminals.Either) ∷ (codes "!", terminals.Bang) ∷ (codes "(", terminals.CallOpen) ∷ (codes ")", terminals.ParenClose)
    ∷ (codes "[", terminals.IndexOpen) ∷ (codes "]", terminals.ListClose) ∷ (codes "{", terminals.BraceOpen)
    ∷ (codes "}", terminals.BraceClose) ∷ (codes "|", terminals.Bar) ∷ (codes ",", terminals.Comma) ∷ (codes ".", terminals.Dot) ∷ []

-- the terminal of an operator by what stands round it: with a gap `(` and `[` open a pair of parentheses and a list, and a `-`
-- with a gap that is tight may begin an argument
abbrev pub spaced : Bool → Bool → Terminal → Terminal
spaced true tight terminals.CallOpen = terminals.ParenOpen
spaced true tight terminals.IndexOpen = terminals.ListOpen
spaced true true terminals.Minus = terminals.TightMinus
spaced gap tight w = w

abbrev pub terminal_at : TokenKind → Bool → Bool → List ℕ → Terminal
terminal_at kinds.Newline gap tight bytes = terminals.Newline
terminal_at kinds.Name gap tight bytes = terminals.Name
terminal_at kinds.Label gap tight bytes = terminals.Label
terminal_at kinds.Keyword gap tight bytes = terminal_in keywords bytes
terminal_at kinds.Reserved gap tight bytes = terminals.Other
terminal_at kinds.Symbol gap tight bytes = terminals.Symbol
terminal_at kinds.Whole gap tight bytes = terminals.Whole
terminal_at kinds.Decimal gap tight bytes = terminals.Decimal
terminal_at kinds.Text gap tight bytes = terminals.Text
terminal_at kinds.Operator gap tight bytes = spaced gap tight (terminal_in operators bytes)

-- the terminal of a token
unfoldable pub terminal_of : Spelled → Terminal
terminal_of s = terminal_at s.token.kind s.token.gap s.token.tight s.bytes

-- whether a block begins with this terminal
abbrev pub begins_block : Terminal → Bool
begins_block terminals.Do = true
begins_block terminals.BraceOpen = true
begins_block _ = false

-- how many blocks have begun with this token, where n had begun before it
unfoldable pub number_with : ℕ → Spelled → ℕ
number_with n s = cond (begins_block (terminal_of s)) (suc n) n

unfoldable pub mark_of : ℕ → Spelled → Mark
mark_of n s = record { terminal = terminal_of s; line = s.token.line; gap = s.token.gap; bytes = s.bytes; number = number_with n s }

-- the tokens as the rules see them, where n blocks have begun before them
abbrev pub marked : ℕ → List Spelled → List Mark
marked n [] = []
marked n (s ∷ ss) = mark_of n s ∷ marked (number_with n s) ss
