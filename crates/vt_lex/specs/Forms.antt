-- The forms of the tokens: what the bytes of a token are, by its kind. The project's own.
use Rattle.std.specs.Prelude.{◌≡◌, ℕ, ◌<◌, ◌≤◌, ◌⊎◌, true, List, [], ◌∷◌, ◌++◌, length, slice_range, is_ok, IsTrue}
use Rattle.std.specs.Str.Parse.{AllDigits, digits_value}
use Rattle.vt_frac.specs.Decimal as decimals
use Rattle.vt_frac.specs.Names.{IsName, is_label_name, is_symbol_name, is_among, keywords, reserved}
use Rattle.vt_lex.specs.declared.token.Token.{Token}
use Rattle.vt_lex.specs.declared.token.TokenKind.{TokenKind}
use Rattle.vt_lex.specs.declared.token.TokenKind.TheVariants.{Newline, Name, Label, Keyword, Reserved, Symbol, Whole, Decimal, Text, Operator}
use Rattle.vt_lex.specs.Lexicon.{operators}
use Rattle.vt_lex.specs.Texts.{IsTextForm}

-- the name of a label and a colon
pub record IsLabelForm (bytes : List ℕ) : Type 0 where
  pub name : List ℕ
  pub form : IsTrue (is_label_name name)
  pub colon : bytes ≡ name ++ 58 ∷ []

-- a colon and the name of a symbol
pub record IsSymbolForm (bytes : List ℕ) : Type 0 where
  pub name : List ℕ
  pub form : IsTrue (is_symbol_name name)
  pub colon : bytes ≡ 58 ∷ name

-- 1 to 19 digits with a value up to 2^63 - 1
pub record IsWholeForm (bytes : List ℕ) : Type 0 where
  pub some : 0 < length bytes
  pub short : length bytes ≤ 19
  pub digits : AllDigits 10 bytes
  pub fits : digits_value 10 bytes ≤ 9223372036854775807

-- digits, a dot and digits, at most 18 on each side, whose exact value is a fraction
pub record IsDecimalForm (bytes : List ℕ) : Type 0 where
  pub before : List ℕ
  pub after : List ℕ
  pub pointed : decimals.IsPointed before after bytes
  pub fits : is_ok (decimals.pointed_decimal before after) ≡ true

-- the bytes of a token of this kind
abbrev pub IsFormOf : TokenKind → List ℕ → Type 0
IsFormOf Newline bytes = (bytes ≡ 10 ∷ []) ⊎ (bytes ≡ 59 ∷ [])
IsFormOf Name bytes = IsName bytes
IsFormOf Label bytes = IsLabelForm bytes
IsFormOf Keyword bytes = is_among keywords bytes ≡ true
IsFormOf Reserved bytes = is_among reserved bytes ≡ true
IsFormOf Symbol bytes = IsSymbolForm bytes
IsFormOf Whole bytes = IsWholeForm bytes
IsFormOf Decimal bytes = IsDecimalForm bytes
IsFormOf Text bytes = IsTextForm bytes
IsFormOf Operator bytes = is_among operators bytes ≡ true

-- the token stands in the text, and its bytes have the form of its kind
pub record HasForm (text : List ℕ) (token : Token) : Type 0 where
  pub some : token.from < token.to
  pub within : token.to ≤ length text
  pub form : IsFormOf token.kind (slice_range text token.from token.to)
