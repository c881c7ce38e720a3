-- Where tokens stand in a text, said of the whole text. The project's own.
use Rattle.std.specs.Prelude.{◌≡◌, ℕ, ◌+◌, ◌-◌, ◌<◌, ◌≤◌, Bool, not, ◌||◌, ◌&&◌, ◌==◌, nat_lt, ⊤, List, [], ◌∷◌, length, take, slice_index}
use Rattle.std.specs.List.{count_by, All}
use Rattle.vt_lex.specs.declared.token.Token.{Token}
use Rattle.vt_lex.specs.Bytes.{is_space}

-- how many newlines stand among the bytes
abbrev pub newlines : List ℕ → ℕ
newlines bytes = count_by (λ b. b == 10) bytes

-- before this place stands a blank, a newline or nothing
abbrev pub is_gap : List ℕ → ℕ → Bool
is_gap text at = at == 0 || is_space (slice_index text (at - 1))

-- at this place stands a byte that is neither a blank nor a newline
abbrev pub is_tight : List ℕ → ℕ → Bool
is_tight text at = nat_lt at (length text) && not (is_space (slice_index text at))

-- The token has bytes of the text; its line is the first with one more for each newline before it; its gap and its tight
-- are what stands before and behind it.
pub record StandsAt (text : List ℕ) (first_line : ℕ) (token : Token) : Type 0 where
  pub some : token.from < token.to
  pub within : token.to ≤ length text
  pub line : token.line ≡ first_line + newlines (take token.from text)
  pub gap : token.gap ≡ is_gap text token.from
  pub tight : token.tight ≡ is_tight text token.to

-- Each token ends at or before the place where any later one begins.
abbrev pub AreInOrder : List Token → Type 0
AreInOrder [] = ⊤
AreInOrder (token ∷ later) = All (λ (next : Token). token.to ≤ next.from) later × AreInOrder later
