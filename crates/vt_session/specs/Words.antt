-- The words of a directive.
use Rattle.std.specs.Prelude.{◌≡◌, ◌⊎◌, ℕ, ◌+◌, ◌<◌, Bool, not, ◌||◌, ◌==◌, IsTrue, List, [], ◌∷◌, ◌++◌, length, drop, slice_index, Some}
use Rattle.std.specs.List.{list_all}
use Rattle.vt_lex.specs.Bytes.{is_blank}
use Rattle.vt_lex.specs.Texts.{Body, body_of}
use Rattle.vt_session.specs.Lines.{content_of}

-- neither a blank nor a double quote (34)
abbrev pub is_bare_byte : ℕ → Bool
is_bare_byte byte = not (is_blank byte || byte == 34)

-- a word without blanks and double quotes
pub record IsBareWord (word : List ℕ) : Type 0 where
  pub some : 0 < length word
  pub bare : IsTrue (list_all is_bare_byte word)

-- a text in double quotes, as a text of the language is written. Blanks in it separate no words.
pub record IsQuotedWord (word : List ℕ) : Type 0 where
  pub quote : slice_index word 0 ≡ 34
  pub body : Body
  pub closes : body_of 34 (drop 1 word) ≡ Some body
  pub ends : 1 + body.len ≡ length word

abbrev pub IsWord : List ℕ → Type 0
IsWord word = IsBareWord word ⊎ IsQuotedWord word

-- blanks, one at least, then this word, and then what is said of the rest
pub record BeginsWithWord (word : List ℕ) (Remains : List ℕ → Type 0) (bytes : List ℕ) : Type 0 where
  pub gap : List ℕ
  pub rest : List ℕ
  pub some : 0 < length gap
  pub blank : IsTrue (list_all is_blank gap)
  pub word_form : IsWord word
  pub whole : bytes ≡ gap ++ word ++ rest
  pub more : Remains rest

-- the bytes are these words, each behind blanks, and blanks at the end
abbrev pub AreWords : List (List ℕ) → List ℕ → Type 0
AreWords [] bytes = IsTrue (list_all is_blank bytes)
AreWords (word ∷ words) bytes = BeginsWithWord word (λ rest. AreWords words rest) bytes

-- the line is a directive of this name, with these words
pub record IsDirective (name : List ℕ) (words : List (List ℕ)) (line : List ℕ) : Type 0 where
  pub rest : List ℕ
  pub whole : content_of line ≡ name ++ rest
  pub words_after : AreWords words rest
