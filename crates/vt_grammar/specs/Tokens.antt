-- Tokens with the bytes that they have in their text.
use Rattle.std.specs.Prelude.{◌≤◌, ℕ, List, [], ◌∷◌, length, slice_range}
use Rattle.vt_lex.specs.declared.token.Token.{Token}
use Rattle.vt_grammar.specs.Marks.{Spelled, terminal_of}
use Rattle.vt_grammar.specs.Values.{HasValue}

-- the bytes of a token of this text
unfoldable pub spelled_in : List ℕ → Token → Spelled
spelled_in text t = record { token = t; bytes = slice_range text t.from t.to }

-- the tokens with the bytes that they have in this text
abbrev pub spelled : List ℕ → List Token → List Spelled
spelled text [] = []
spelled text (t ∷ ts) = spelled_in text t ∷ spelled text ts

-- the token stands in the text, and has a value there where it is a number or a text
pub record IsToken (text : List ℕ) (t : Token) : Type 0 where
  pub ordered : t.from ≤ t.to
  pub inside : t.to ≤ length text
  pub value : HasValue (terminal_of (spelled_in text t)) (slice_range text t.from t.to)

abbrev pub AreTokens : List ℕ → List Token → Type 0
AreTokens text [] = Unit {0}
AreTokens text (t ∷ ts) = IsToken text t × AreTokens text ts
