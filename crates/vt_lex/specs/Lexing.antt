-- The tokens of a text, and its first fault. The project's own.
use Rattle.std.specs.Prelude.{◌≡◌, ℕ, ◌+◌, ◌-◌, ◌<◌, Bool, false, not, ◌||◌, ◌&&◌, ◌==◌, if◌then◌else◌, List, [], ◌∷◌, ◌++◌, length, take, drop, slice_index, slice_index_or, Option, Some, None, Ok, Err}
use Rattle.vt_frac.specs.Names.{is_among}
use Rattle.vt_lex.specs.declared.token.Token.{Token}
use Rattle.vt_lex.specs.declared.token.TokenKind.{TokenKind}
use Rattle.vt_lex.specs.declared.token.TokenKind.TheVariants.{Newline}
use Rattle.vt_lex.specs.declared.fault.LexKind.{LexKind}
use Rattle.vt_lex.specs.declared.lexeme.Sort.{Sort}
use Rattle.vt_lex.specs.declared.lexeme.Sort.TheVariants.{Blank, Comment, Line, Token as TokenOf}
use Rattle.vt_lex.specs.declared.lexeme.Lexeme.{Lexeme}
use Rattle.vt_lex.specs.Bytes.{is_space}
use Rattle.vt_lex.specs.Lexicon.{joining}
use Rattle.vt_lex.specs.Lexemes.{lexeme_of}

-- where one stands in a text: how many bytes are passed, the line, the byte before (a newline before the first), the
-- brackets that are open, the innermost last, and whether the last token is one after which a line goes on
pub record Standing : Type 0 where
  pub at : ℕ
  pub line : ℕ
  pub before : ℕ
  pub open_brackets : List ℕ
  pub goes_on : Bool

abbrev pub opening : ℕ → Standing
opening first_line = record { at = 0; line = first_line; before = 10; open_brackets = []; goes_on = false }

-- the innermost open bracket, or 0
abbrev pub innermost : List ℕ → ℕ
innermost open_brackets = slice_index open_brackets (length open_brackets - 1)

-- the bracket that this closing one fits, or 0
abbrev pub partner : ℕ → ℕ
partner b = if b == 41 then 40 else (if b == 93 then 91 else (if b == 125 then 123 else 0))

abbrev pub is_opening : ℕ → Bool
is_opening b = b == 40 || b == 91 || b == 123

-- the open brackets after a lexeme that begins with this byte (only brackets begin with a bracket's byte): an opening one
-- is the innermost now, a closing one that fits the innermost closes it, and one that does not closes none
abbrev pub brackets_after : List ℕ → ℕ → List ℕ
brackets_after open_brackets b =
    if is_opening b then open_brackets ++ b ∷ []
    else (if not (partner b == 0) && innermost open_brackets == partner b then take (length open_brackets - 1) open_brackets
    else open_brackets)

-- no token is made of a newline here: in `(` and `[`, and where the line goes on
abbrev pub is_dropped : List ℕ → Bool → Bool
is_dropped open_brackets goes_on = innermost open_brackets == 40 || innermost open_brackets == 91 || goes_on

-- the kind of the token that a lexeme makes, if it makes one: blanks and comments make none
abbrev pub kept_kind : Standing → Sort → Option TokenKind
kept_kind s Blank = None
kept_kind s Comment = None
kept_kind s Line = if is_dropped s.open_brackets s.goes_on then None else Some Newline
kept_kind s (TokenOf kind) = Some kind

-- a token of this kind and length, which stands here at the head of the bytes
abbrev pub token_of : Standing → List ℕ → ℕ → TokenKind → Token
token_of s bytes len kind = record {
  kind = kind;
  from = s.at;
  to = s.at + len;
  line = s.line;
  gap = is_space s.before;
  tight = not (is_space (slice_index_or bytes len 10));
}

-- the token of a lexeme, or none
abbrev pub tokens_of : Standing → List ℕ → ℕ → Option TokenKind → List Token
tokens_of s bytes len None = []
tokens_of s bytes len (Some kind) = token_of s bytes len kind ∷ []

abbrev pub kept : Standing → Lexeme → List ℕ → List Token
kept s p bytes = tokens_of s bytes p.len (kept_kind s p.sort)

-- the line after a lexeme: a newline byte ends it
abbrev pub line_after : ℕ → Sort → ℕ
line_after line Line = line + 1
line_after line Blank = line
line_after line Comment = line
line_after line (TokenOf kind) = line

-- whether a line goes on after a lexeme: as its bytes say where it is a token, else as before
abbrev pub goes_on_after : Bool → List ℕ → Option TokenKind → Bool
goes_on_after goes_on bytes None = goes_on
goes_on_after goes_on bytes (Some kind) = is_among joining bytes

-- where one stands after a lexeme at the head of the bytes
abbrev pub after : Standing → Lexeme → List ℕ → Standing
after s p bytes = record {
  at = s.at + p.len;
  line = line_after s.line p.sort;
  before = slice_index bytes (p.len - 1);
  open_brackets = brackets_after s.open_brackets (slice_index bytes 0);
  goes_on = goes_on_after s.goes_on (take p.len bytes) (kept_kind s p.sort);
}

-- The bytes are these lexemes, each the longest at its place, and the tokens are those that the lexemes make.
abbrev pub AreTokens : Standing → List ℕ → List Lexeme → List Token → Type 0
AreTokens s bytes [] tokens = (bytes ≡ []) × (tokens ≡ [])
AreTokens s bytes (p ∷ ps) tokens =
    (lexeme_of bytes ≡ Ok p)
    × ((rest : List Token) × (tokens ≡ kept s p bytes ++ rest) × AreTokens (after s p bytes) (drop p.len bytes) ps rest)

-- The bytes begin with these lexemes, and at what follows them no token can be formed, for this reason on this line.
abbrev pub IsFirstFault : Standing → List ℕ → List Lexeme → ℕ → LexKind → Type 0
IsFirstFault s bytes [] line kind = (0 < length bytes) × (lexeme_of bytes ≡ Err kind) × (line ≡ s.line)
IsFirstFault s bytes (p ∷ ps) line kind =
    (lexeme_of bytes ≡ Ok p) × IsFirstFault (after s p bytes) (drop p.len bytes) ps line kind

-- These are the tokens of the text, whose first line has this number.
pub record Lexes (text : List ℕ) (first_line : ℕ) (tokens : List Token) : Type 0 where
  pub lexemes : List Lexeme
  pub are_tokens : AreTokens (opening first_line) text lexemes tokens

-- The text has no tokens: its first fault is of this kind and stands on this line.
pub record LexRefuses (text : List ℕ) (first_line line : ℕ) (kind : LexKind) : Type 0 where
  pub lexemes : List Lexeme
  pub is_first : IsFirstFault (opening first_line) text lexemes line kind

-- the text has tokens
pub record HasTokens (text : List ℕ) (first_line : ℕ) : Type 0 where
  pub tokens : List Token
  pub lexes : Lexes text first_line tokens

-- the text is refused
pub record IsRefused (text : List ℕ) (first_line : ℕ) : Type 0 where
  pub line : ℕ
  pub kind : LexKind
  pub refuses : LexRefuses text first_line line kind
