-- What stands at the head of the bytes of a text: the longest lexeme, or the kind of the fault where no token can be formed.
-- A byte past the end of the bytes counts as 0 here. The project's own.
use Rattle.std.specs.Prelude.{ℕ, ◌+◌, Bool, not, ◌||◌, ◌&&◌, ◌==◌, nat_le, nat_lt, if◌then◌else◌, List, length, take, drop, slice_index, Option, Some, None, Result, Ok, Err}
use Rattle.std.specs.List.{prefix_len}
use Rattle.std.specs.Char.{is_ascii_digit}
use Rattle.vt_frac.specs.Names.{begins_name, begins_symbol, is_name_byte, is_among, keywords, reserved}
use Rattle.vt_lex.specs.declared.token.TokenKind.{TokenKind}
use Rattle.vt_lex.specs.declared.token.TokenKind.TheVariants.{Newline, Name, Label, Keyword, Reserved, Symbol, Whole, Decimal, Text, Operator}
use Rattle.vt_lex.specs.declared.fault.LexKind.{LexKind}
use Rattle.vt_lex.specs.declared.fault.LexKind.TheVariants.{Byte as NoToken, Text as BadText, Number, Long}
use Rattle.vt_lex.specs.declared.lexeme.Sort.{Sort}
use Rattle.vt_lex.specs.declared.lexeme.Sort.TheVariants.{Blank, Comment, Line, Token}
use Rattle.vt_lex.specs.declared.lexeme.Lexeme.{Lexeme}
use Rattle.vt_lex.specs.Bytes.{is_blank}
use Rattle.vt_lex.specs.Lexicon.{first_start, operators}
use Rattle.vt_lex.specs.Numbers.{whole_fits, decimal_fits}
use Rattle.vt_lex.specs.Texts.{Body, body_of}

abbrev pub lexeme : Sort → ℕ → Result Lexeme LexKind
lexeme sort len = Ok (record { sort = sort; len = len })

-- how many bytes a name has at most
abbrev pub name_limit : ℕ
name_limit = 64

-- a token of a name of n bytes
abbrev pub named : TokenKind → ℕ → ℕ → Result Lexeme LexKind
named kind n len = if nat_le n name_limit then lexeme (Token kind) len else Err Long

-- a colon that is not followed by another
abbrev pub ends_label : List ℕ → Bool
ends_label bytes = slice_index bytes 0 == 58 && not (slice_index bytes 1 == 58)

-- a word of n bytes and what follows it: a label where a colon follows, else a keyword, a reserved word or a name
abbrev pub word_of : ℕ → List ℕ → List ℕ → Result Lexeme LexKind
word_of n word rest =
    if ends_label rest then named Label n (n + 1)
    else (if is_among keywords word then lexeme (Token Keyword) n
    else (if is_among reserved word then lexeme (Token Reserved) n
    else named Name n n))

-- the longest word
unfoldable pub word_lexeme : List ℕ → Result Lexeme LexKind
word_lexeme bytes = let n = prefix_len is_name_byte bytes in word_of n (take n bytes) (drop n bytes)

-- a symbol is a colon and a name, which may also begin with a capital letter
unfoldable pub symbol_lexeme : List ℕ → Result Lexeme LexKind
symbol_lexeme bytes =
    let n = prefix_len is_name_byte (drop 1 bytes) in
    if begins_symbol (slice_index bytes 1) then named Symbol n (n + 1) else Err NoToken

-- n digits that stand alone
abbrev pub whole_of : ℕ → List ℕ → Result Lexeme LexKind
whole_of n digits = if whole_fits n digits then lexeme (Token Whole) n else Err Number

-- n bytes: digits, a dot and digits
abbrev pub decimal_of : ℕ → List ℕ → Result Lexeme LexKind
decimal_of n form = if decimal_fits form then lexeme (Token Decimal) n else Err Number

-- the longest number: a run of digits, and where a dot and a digit follow it, these and all digits after them
unfoldable pub number_lexeme : List ℕ → Result Lexeme LexKind
number_lexeme bytes =
    let whole = prefix_len is_ascii_digit bytes in
    let part = prefix_len is_ascii_digit (drop (whole + 1) bytes) in
    if slice_index bytes whole == 46 && nat_lt 0 part
    then decimal_of (whole + 1 + part) (take (whole + 1 + part) bytes)
    else whole_of whole (take whole bytes)

-- a text with this rest behind its opening quote, if it has one; its value has at most 4,096 bytes
abbrev pub text_of : Option Body → Result Lexeme LexKind
text_of None = Err BadText
text_of (Some body) = if nat_le (length body.value) 4096 then lexeme (Token Text) (1 + body.len) else Err Long

-- a text, which begins with the quote that ends it
unfoldable pub text_lexeme : List ℕ → Result Lexeme LexKind
text_lexeme bytes = text_of (body_of (slice_index bytes 0) (drop 1 bytes))

-- an operator of this length, if there is one
abbrev pub operator_of : Option ℕ → Result Lexeme LexKind
operator_of None = Err NoToken
operator_of (Some len) = lexeme (Token Operator) len

-- the longest operator
unfoldable pub operator_lexeme : List ℕ → Result Lexeme LexKind
operator_lexeme bytes = operator_of (first_start operators bytes)

-- a comment goes on to the end of its line
unfoldable pub comment_lexeme : List ℕ → Result Lexeme LexKind
comment_lexeme bytes = lexeme Comment (prefix_len (λ b. not (b == 10)) bytes)

-- what stands at the head of the bytes, by the first of them
unfoldable pub lexeme_by : ℕ → List ℕ → Result Lexeme LexKind
lexeme_by first bytes =
    if is_blank first then lexeme Blank 1
    else (if first == 10 then lexeme Line 1
    else (if first == 35 then comment_lexeme bytes
    else (if first == 59 then lexeme (Token Newline) 1
    else (if begins_name first then word_lexeme bytes
    else (if is_ascii_digit first then number_lexeme bytes
    else (if first == 58 then symbol_lexeme bytes
    else (if first == 34 || first == 39 then text_lexeme bytes
    else operator_lexeme bytes)))))))

abbrev pub lexeme_of : List ℕ → Result Lexeme LexKind
lexeme_of bytes = lexeme_by (slice_index bytes 0) bytes
