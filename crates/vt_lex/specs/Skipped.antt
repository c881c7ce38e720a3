-- What stands outside of the tokens of a text, and which newlines make no token. The project's own.
use Rattle.std.specs.Prelude.{◌≡◌, ℕ, ◌<◌, Bool, true, false, not, ◌||◌, ◌&&◌, ◌==◌, List, [], ◌∷◌, drop, slice_index, slice_index_or, slice_range}
use Rattle.vt_frac.specs.Names.{is_among}
use Rattle.vt_lex.specs.declared.token.Token.{Token}
use Rattle.vt_lex.specs.Bytes.{is_space}
use Rattle.vt_lex.specs.Lexicon.{joining}
use Rattle.vt_lex.specs.Lexing.{is_dropped, brackets_after}
use Rattle.vt_lex.specs.Places.{newlines}

-- the bytes are blanks, newlines and comments, each comment up to the end of its line; the first says whether they begin
-- within a comment, and the second is the byte that follows them
abbrev pub is_skipped : Bool → ℕ → List ℕ → Bool
is_skipped in_comment next [] = not in_comment || next == 10
is_skipped true next (b ∷ bytes) = is_skipped (not (b == 10)) next bytes
is_skipped false next (b ∷ bytes) = (b == 35 || is_space b) && is_skipped (b == 35) next bytes

-- From this place on blanks, newlines and comments alone stand before, between and behind the tokens (the end counts as
-- a newline).
abbrev pub IsAllElseSkipped : List ℕ → ℕ → List Token → Type 0
IsAllElseSkipped text at [] = is_skipped false 10 (drop at text) ≡ true
IsAllElseSkipped text at (token ∷ later) =
    (is_skipped false (slice_index_or text token.from 10) (slice_range text at token.from) ≡ true) × IsAllElseSkipped text token.to later

-- From this place on, with these open brackets and after a token after which the line goes on or not: newlines stand
-- outside of the tokens only where they are dropped, and a newline byte is a token only where it is not. The brackets are
-- those that the tokens open and close.
abbrev pub AreNewlinesDropped : List ℕ → ℕ → List ℕ → Bool → List Token → Type 0
AreNewlinesDropped text at open_brackets goes_on [] = 0 < newlines (drop at text) → is_dropped open_brackets goes_on ≡ true
AreNewlinesDropped text at open_brackets goes_on (token ∷ later) =
    (0 < newlines (slice_range text at token.from) → is_dropped open_brackets goes_on ≡ true)
    × (slice_index text token.from ≡ 10 → is_dropped open_brackets goes_on ≡ false)
    × AreNewlinesDropped text token.to (brackets_after open_brackets (slice_index text token.from)) (is_among joining (slice_range text token.from token.to)) later
