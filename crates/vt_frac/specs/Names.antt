-- The names, keywords and reserved words of the language. The project's own.
use Rattle.std.specs.Prelude.{◌≡◌, ℕ, Bool, false, ◌&&◌, ◌||◌, ◌==◌, nat_le, List, [], ◌∷◌, length, codes, bytes_eq, IsTrue}
use Rattle.std.specs.List.{list_all, list_any}
use Rattle.std.specs.Char.{is_ascii_alphabetic, is_ascii_lowercase, is_ascii_alphanumeric}

-- with which a name and a label may begin: a small letter, or `_`
abbrev pub begins_name : ℕ → Bool
begins_name b = is_ascii_lowercase b || b == 95

-- with which the name of a symbol may begin: a letter, or `_`
abbrev pub begins_symbol : ℕ → Bool
begins_symbol b = is_ascii_alphabetic b || b == 95

-- with which all of them may go on: a letter, a digit, or `_`
abbrev pub is_name_byte : ℕ → Bool
is_name_byte b = is_ascii_alphanumeric b || b == 95

-- the first byte is there and passes this test
abbrev pub begins : (ℕ → Bool) → List ℕ → Bool
begins test [] = false
begins test (b ∷ bytes) = test b

-- a first byte that passes this test, and then letters, digits and `_`, at most 64 bytes in all
abbrev pub is_word : (ℕ → Bool) → List ℕ → Bool
is_word test bytes = begins test bytes && list_all is_name_byte bytes && nat_le (length bytes) 64

-- the name of a label
unfoldable pub is_label_name : List ℕ → Bool
is_label_name bytes = is_word begins_name bytes

-- the name of a symbol: what may follow its colon
unfoldable pub is_symbol_name : List ℕ → Bool
is_symbol_name bytes = is_word begins_symbol bytes

-- the keywords: those of blocks and choices, the three values, and the three words that join
unfoldable pub keywords : List (List ℕ)
keywords =
    codes "do" ∷ codes "end" ∷ codes "if" ∷ codes "elsif" ∷ codes "else" ∷ codes "unless"
    ∷ codes "nil" ∷ codes "true" ∷ codes "false"
    ∷ codes "and" ∷ codes "or" ∷ codes "not" ∷ []

-- the words that are kept for later
unfoldable pub reserved : List (List ℕ)
reserved =
    codes "while" ∷ codes "until" ∷ codes "for" ∷ codes "case" ∷ codes "when" ∷ codes "then"
    ∷ codes "return" ∷ codes "break" ∷ codes "next" ∷ codes "def" ∷ codes "class" ∷ codes "module"
    ∷ codes "begin" ∷ codes "rescue" ∷ codes "ensure" ∷ codes "self" ∷ codes "yield" ∷ codes "super"
    ∷ codes "lambda" ∷ codes "proc" ∷ []

-- the word is one of these
abbrev pub is_among : List (List ℕ) → List ℕ → Bool
is_among words word = list_any (λ w. bytes_eq w word) words

-- the name of a local, a parameter or a call: one of a label that is neither a keyword nor a reserved word
pub record IsName (bytes : List ℕ) : Type 0 where
  pub form : IsTrue (is_label_name bytes)
  pub no_keyword : is_among keywords bytes ≡ false
  pub not_reserved : is_among reserved bytes ≡ false
