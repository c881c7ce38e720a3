-- The text of a generated session: own. Its loops are numbered from 1. One with an odd number plays notes, sets a value and sleeps; one with an even number waits for the loop before it and plays the value that it set.
use Rattle.std.specs.Prelude.{ℕ, ◌+◌, ◌-◌, ◌/◌, ◌%◌, ◌==◌, if◌then◌else◌, List, [], ◌∷◌, ◌++◌, codes, decimal}
use Rattle.std.specs.List.{flat_map, range_with_len}
use Rattle.vt_rand.specs.Word.{word}

-- the length of a rest in eighths of a beat, 1 to 4
abbrev pub eighths : ℕ → ℕ
eighths word = 1 + word % 4

-- the lowest note, 40 to 79
abbrev pub lowest_note : ℕ → ℕ
lowest_note word = 40 + word / 4 % 40

-- the lines of an odd loop
abbrev pub player_lines : ℕ → ℕ → List (List ℕ)
player_lines number word =
    (codes "live_loop :l" ++ decimal number ++ codes " do")
    ∷ (codes "  play " ++ decimal (lowest_note word) ++ codes " + rand_i(12)")
    ∷ (codes "  set :s" ++ decimal number ++ codes ", tick")
    ∷ (codes "  sleep " ++ decimal (eighths word) ++ codes " * 0.125")
    ∷ codes "end" ∷ []

-- the lines of an even loop
abbrev pub follower_lines : ℕ → List (List ℕ)
follower_lines number =
    (codes "live_loop :l" ++ decimal number ++ codes " do")
    ∷ (codes "  sync :l" ++ decimal (number - 1))
    ∷ (codes "  play get(:s" ++ decimal (number - 1) ++ codes ")")
    ∷ codes "end" ∷ []

-- the lines of the loop with this number and this word
abbrev pub loop_lines : ℕ → ℕ → List (List ℕ)
loop_lines number word = if number % 2 == 1 then player_lines number word else follower_lines number

-- the first line, a comment
abbrev pub beats_line : ℕ → List ℕ
beats_line beats = codes "# beats " ++ decimal beats

-- the lines of the session: that of the beats, and those of the loops in order, each with the next word of the seed
abbrev pub session_lines : ℕ → ℕ → ℕ → List (List ℕ)
session_lines seed loops beats =
    beats_line beats ∷ flat_map (λ number. loop_lines number (word seed (number - 1))) (range_with_len 1 loops)

-- a line with its newline
abbrev pub as_line : List ℕ → List ℕ
as_line line = line ++ 10 ∷ []

-- the whole text: each line ends with a newline
unfoldable pub session_text_of : ℕ → ℕ → ℕ → List ℕ
session_text_of seed loops beats = flat_map as_line (session_lines seed loops beats)
