-- The lines of a session: own, as is all of this folder.
use Rattle.std.specs.Prelude.{ℕ, ◌==◌, Bool, if◌then◌else◌, List, [], ◌∷◌}
use Rattle.std.specs.List.{before_first}

-- one more byte at the head of the first line
abbrev pub with_byte : ℕ → List (List ℕ) → List (List ℕ)
with_byte byte [] = (byte ∷ []) ∷ []
with_byte byte (line ∷ lines) = (byte ∷ line) ∷ lines

-- The lines of the bytes, in order, each with the newline (10) that ends it. The last one may end with the bytes.
unfoldable pub lines_of : List ℕ → List (List ℕ)
lines_of [] = []
lines_of (byte ∷ bytes) = if byte == 10 then (byte ∷ []) ∷ lines_of bytes else with_byte byte (lines_of bytes)

abbrev pub is_newline : ℕ → Bool
is_newline byte = byte == 10

-- a line without its newline
abbrev pub content_of : List ℕ → List ℕ
content_of line = before_first is_newline line
