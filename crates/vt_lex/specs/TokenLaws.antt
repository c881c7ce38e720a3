-- The tokens and the faults said once more, of the bytes and of the forms of tokens alone: the longest token is taken, and
-- a fault of each kind comes exactly where its reason stands. A byte past the end of the bytes counts as 0 here. The
-- project's own.
use Rattle.std.specs.Prelude.{◌≡◌, ◌⊎◌, ◌↔◌, ℕ, ◌+◌, ◌-◌, ◌<◌, ◌≤◌, Bool, true, false, not, ◌||◌, ◌&&◌, ◌==◌, List, [], ◌∷◌, ◌++◌, length, take, drop, slice_index, Err}
use Rattle.std.specs.List.{All, concat, list_all, sum_by}
use Rattle.vt_frac.specs.Decimal as decimals
use Rattle.vt_frac.specs.Names.{begins, begins_name, begins_symbol, is_name_byte}
use Rattle.vt_lex.specs.declared.token.Token.{Token}
use Rattle.vt_lex.specs.declared.token.TokenKind.{TokenKind}
use Rattle.vt_lex.specs.declared.token.TokenKind.TheVariants.{Label}
use Rattle.vt_lex.specs.declared.fault.LexKind.{LexKind}
use Rattle.vt_lex.specs.declared.fault.LexKind.TheVariants.{Byte, Text, Number, Long}
use Rattle.vt_lex.specs.declared.lexeme.Lexeme.{Lexeme}
use Rattle.vt_lex.specs.Bytes.{is_blank}
use Rattle.vt_lex.specs.Forms.{IsFormOf, IsWholeForm, IsDecimalForm}
use Rattle.vt_lex.specs.Lexemes.{lexeme_of}
use Rattle.vt_lex.specs.Lexing.{Lexes, LexRefuses}
use Rattle.vt_lex.specs.Places.{newlines}

-- A token of this kind stands at the head of the bytes with so many of them. A label's colon is not followed by another.
pub record StandsFirst (kind : TokenKind) (len : ℕ) (bytes : List ℕ) : Type 0 where
  pub within : len ≤ length bytes
  pub form : IsFormOf kind (take len bytes)
  pub single : kind ≡ Label → slice_index bytes len ≡ 58 → ⊥

-- There are bytes, and they begin with neither a blank nor a comment: a token begins here, or it is missing here.
pub record AwaitsToken (bytes : List ℕ) : Type 0 where
  pub some : 0 < length bytes
  pub no_blank : is_blank (slice_index bytes 0) ≡ false
  pub no_comment : slice_index bytes 0 ≡ 35 → ⊥

-- The reason of `text`

-- a backslash may stand before this byte: in both kinds of quotes before a backslash and the quote, in double quotes also
-- before `n` and `t`
abbrev pub is_escape : ℕ → ℕ → Bool
is_escape quote b = b == 92 || (b == quote || (quote == 34 && (b == 110 || b == 116)))

-- what stands for one byte of a text's value: a byte other than the quote, a newline and a backslash, or an escape
abbrev pub is_unit : ℕ → List ℕ → Bool
is_unit quote [] = false
is_unit quote (b ∷ []) = not (b == quote) && (not (b == 10) && not (b == 92))
is_unit quote (b ∷ c ∷ []) = b == 92 && is_escape quote c
is_unit quote (b ∷ c ∷ d ∷ bytes) = false

-- no text goes on so: the end of the bytes or of the line, a backslash that is no escape, or in double quotes `#{`
abbrev pub is_broken : ℕ → List ℕ → Bool
is_broken quote [] = true
is_broken quote (b ∷ bytes) =
    b == 10 || ((b == 92 && not (is_escape quote (slice_index bytes 0))) || (quote == 34 && (b == 35 && slice_index bytes 0 == 123)))

-- A text begins here, and before the quote that would end it stands what no text may hold, or its line ends.
pub record IsBrokenText (bytes : List ℕ) : Type 0 where
  pub quote : ℕ
  pub units : List (List ℕ)
  pub rest : List ℕ
  pub opens : (quote ≡ 34) ⊎ (quote ≡ 39)
  pub are_units : list_all (is_unit quote) units ≡ true
  pub broken : is_broken quote rest ≡ true
  pub whole : bytes ≡ quote ∷ concat units ++ rest

-- The reasons of `long`

-- a small letter or `_` and then letters, digits and `_`, more than 64 bytes in all, stand here
pub record IsLongWord (bytes : List ℕ) : Type 0 where
  pub word : List ℕ
  pub rest : List ℕ
  pub first : begins begins_name word ≡ true
  pub all : list_all is_name_byte word ≡ true
  pub long : 64 < length word
  pub whole : bytes ≡ word ++ rest

-- a colon and then a letter or `_` and letters, digits and `_`, more than 64 bytes without the colon, stand here
pub record IsLongSymbol (bytes : List ℕ) : Type 0 where
  pub name : List ℕ
  pub rest : List ℕ
  pub first : begins begins_symbol name ≡ true
  pub all : list_all is_name_byte name ≡ true
  pub long : 64 < length name
  pub whole : bytes ≡ 58 ∷ name ++ rest

-- a text with more than 4,096 bytes of value stands here, which is not broken
pub record IsLongText (bytes : List ℕ) : Type 0 where
  pub quote : ℕ
  pub units : List (List ℕ)
  pub rest : List ℕ
  pub opens : (quote ≡ 34) ⊎ (quote ≡ 39)
  pub are_units : list_all (is_unit quote) units ≡ true
  pub long : 4096 < length units
  pub whole : bytes ≡ quote ∷ concat units ++ quote ∷ rest
  pub sound : IsBrokenText bytes → ⊥

-- The reason of `number`

-- the longest number that stands here, of any size, has neither the form of a whole nor that of a decimal number
pub record IsUnfitNumber (bytes : List ℕ) : Type 0 where
  pub len : ℕ
  pub within : len ≤ length bytes
  pub number : decimals.IsDecimal (take len bytes)
  pub longest : (other : ℕ) → other ≤ length bytes → decimals.IsDecimal (take other bytes) → other ≤ len
  pub no_whole : IsWholeForm (take len bytes) → ⊥
  pub no_decimal : IsDecimalForm (take len bytes) → ⊥

-- The reason of `byte`

-- no token stands here, and none of the other reasons
pub record IsNoToken (bytes : List ℕ) : Type 0 where
  pub not_broken : IsBrokenText bytes → ⊥
  pub no_long_word : IsLongWord bytes → ⊥
  pub no_long_symbol : IsLongSymbol bytes → ⊥
  pub no_long_text : IsLongText bytes → ⊥
  pub no_unfit_number : IsUnfitNumber bytes → ⊥
  pub no_token : (kind : TokenKind) (len : ℕ) → StandsFirst kind len bytes → ⊥

-- why no token is formed at the head of the bytes
abbrev pub IsReason : LexKind → List ℕ → Type 0
IsReason Text bytes = IsBrokenText bytes
IsReason Long bytes = IsLongWord bytes ⊎ (IsLongSymbol bytes ⊎ IsLongText bytes)
IsReason Number bytes = IsUnfitNumber bytes
IsReason Byte bytes = IsNoToken bytes

-- The token of the text stands at its place, none that stands there is longer, and no reason of a fault stands there.
pub record IsTaken (text : List ℕ) (token : Token) : Type 0 where
  pub stands : StandsFirst token.kind (token.to - token.from) (drop token.from text)
  pub longest : (kind : TokenKind) (len : ℕ) → StandsFirst kind len (drop token.from text) → len ≤ token.to - token.from
  pub sound : (kind : LexKind) → IsReason kind (drop token.from text) → ⊥

-- each token of a text is the longest at its place, where no reason of a fault stands
abbrev pub LongestIsTaken : Type 0
LongestIsTaken = (text : List ℕ) (first_line : ℕ) (tokens : List Token) → Lexes text first_line tokens → All (IsTaken text) tokens

-- where a token is awaited, a fault of a kind comes exactly where its reason stands
abbrev pub FaultsByReason : LexKind → Type 0
FaultsByReason kind = (bytes : List ℕ) → AwaitsToken bytes → (lexeme_of bytes ≡ Err kind) ↔ IsReason kind bytes

-- how many bytes the lexemes have
abbrev pub size_of : List Lexeme → ℕ
size_of lexemes = sum_by (λ (x : Lexeme). x.len) lexemes

-- Behind so many bytes of the text a token is awaited, the reason of this kind stands there, and the line is the first with
-- one more for each newline before.
pub record IsRefusedAt (text : List ℕ) (first_line line : ℕ) (kind : LexKind) (at : ℕ) : Type 0 where
  pub awaits : AwaitsToken (drop at text)
  pub reason : IsReason kind (drop at text)
  pub line_there : line ≡ first_line + newlines (take at text)

-- a refused text is refused behind the lexemes that it begins with
abbrev pub RefusedByReason : Type 0
RefusedByReason =
    (text : List ℕ) (first_line line : ℕ) (kind : LexKind) (refuses : LexRefuses text first_line line kind)
    → IsRefusedAt text first_line line kind (size_of refuses.lexemes)
