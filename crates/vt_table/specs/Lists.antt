-- Scales and chords by name.
use Rattle.std.specs.Prelude.{ℕ, Option, List, [], ◌∷◌, map, codes, slice_get, option_and_then}
use Rattle.std.specs.Option.{option_map}
use Rattle.vt_table.specs.Names.{row_of}

-- names, each with the numbers that it stands for
abbrev pub Table : Type 0
Table = List (List ℕ × List ℕ)

-- the names of a table, in their order
abbrev pub names_of : Table → List (List ℕ)
names_of table = map (λ row. row.0) table

-- the numbers of the row, if there is one
abbrev pub list_at : Table → ℕ → Option (List ℕ)
list_at table row = option_map (λ listed. listed.1) (slice_get table row)

-- the numbers of the name; None where the table has no such name
abbrev pub list_of : Table → List ℕ → Option (List ℕ)
list_of table name = option_and_then (list_at table) (row_of (names_of table) name)

-- the scales, each with its steps from note to note over an octave, in half tones; in the order of the bytes of the names
-- (Sonic Pi's language reference; the selection is own)
unfoldable pub scales : Table
scales =
    (codes "aeolian", 2 ∷ 1 ∷ 2 ∷ 2 ∷ 1 ∷ 2 ∷ 2 ∷ []) ∷
    (codes "augmented", 3 ∷ 1 ∷ 3 ∷ 1 ∷ 3 ∷ 1 ∷ []) ∷
    (codes "blues_major", 2 ∷ 1 ∷ 1 ∷ 3 ∷ 2 ∷ 3 ∷ []) ∷
    (codes "blues_minor", 3 ∷ 2 ∷ 1 ∷ 1 ∷ 3 ∷ 2 ∷ []) ∷
    (codes "chromatic", 1 ∷ 1 ∷ 1 ∷ 1 ∷ 1 ∷ 1 ∷ 1 ∷ 1 ∷ 1 ∷ 1 ∷ 1 ∷ 1 ∷ []) ∷
    (codes "diminished", 1 ∷ 2 ∷ 1 ∷ 2 ∷ 1 ∷ 2 ∷ 1 ∷ 2 ∷ []) ∷
    (codes "dorian", 2 ∷ 1 ∷ 2 ∷ 2 ∷ 2 ∷ 1 ∷ 2 ∷ []) ∷
    (codes "harmonic_minor", 2 ∷ 1 ∷ 2 ∷ 2 ∷ 1 ∷ 3 ∷ 1 ∷ []) ∷
    (codes "hungarian_minor", 2 ∷ 1 ∷ 3 ∷ 1 ∷ 1 ∷ 3 ∷ 1 ∷ []) ∷
    (codes "ionian", 2 ∷ 2 ∷ 1 ∷ 2 ∷ 2 ∷ 2 ∷ 1 ∷ []) ∷
    (codes "locrian", 1 ∷ 2 ∷ 2 ∷ 1 ∷ 2 ∷ 2 ∷ 2 ∷ []) ∷
    (codes "lydian", 2 ∷ 2 ∷ 2 ∷ 1 ∷ 2 ∷ 2 ∷ 1 ∷ []) ∷
    (codes "major", 2 ∷ 2 ∷ 1 ∷ 2 ∷ 2 ∷ 2 ∷ 1 ∷ []) ∷
    (codes "major_pentatonic", 2 ∷ 2 ∷ 3 ∷ 2 ∷ 3 ∷ []) ∷
    (codes "melodic_minor", 2 ∷ 1 ∷ 2 ∷ 2 ∷ 2 ∷ 2 ∷ 1 ∷ []) ∷
    (codes "minor", 2 ∷ 1 ∷ 2 ∷ 2 ∷ 1 ∷ 2 ∷ 2 ∷ []) ∷
    (codes "minor_pentatonic", 3 ∷ 2 ∷ 2 ∷ 3 ∷ 2 ∷ []) ∷
    (codes "mixolydian", 2 ∷ 2 ∷ 1 ∷ 2 ∷ 2 ∷ 1 ∷ 2 ∷ []) ∷
    (codes "phrygian", 1 ∷ 2 ∷ 2 ∷ 2 ∷ 1 ∷ 2 ∷ 2 ∷ []) ∷
    (codes "whole_tone", 2 ∷ 2 ∷ 2 ∷ 2 ∷ 2 ∷ 2 ∷ []) ∷
    []

-- the chords, each with its intervals above the tonic, in half tones; in the order of the bytes of the names
-- (Sonic Pi's language reference; the selection is own)
unfoldable pub chords : Table
chords =
    (codes "add9", 0 ∷ 4 ∷ 7 ∷ 14 ∷ []) ∷
    (codes "aug", 0 ∷ 4 ∷ 8 ∷ []) ∷
    (codes "dim", 0 ∷ 3 ∷ 6 ∷ []) ∷
    (codes "dim7", 0 ∷ 3 ∷ 6 ∷ 9 ∷ []) ∷
    (codes "dom7", 0 ∷ 4 ∷ 7 ∷ 10 ∷ []) ∷
    (codes "dom9", 0 ∷ 4 ∷ 7 ∷ 10 ∷ 14 ∷ []) ∷
    (codes "m7", 0 ∷ 3 ∷ 7 ∷ 10 ∷ []) ∷
    (codes "major", 0 ∷ 4 ∷ 7 ∷ []) ∷
    (codes "major6", 0 ∷ 4 ∷ 7 ∷ 9 ∷ []) ∷
    (codes "major7", 0 ∷ 4 ∷ 7 ∷ 11 ∷ []) ∷
    (codes "major9", 0 ∷ 4 ∷ 7 ∷ 11 ∷ 14 ∷ []) ∷
    (codes "minor", 0 ∷ 3 ∷ 7 ∷ []) ∷
    (codes "minor6", 0 ∷ 3 ∷ 7 ∷ 9 ∷ []) ∷
    (codes "minor7", 0 ∷ 3 ∷ 7 ∷ 10 ∷ []) ∷
    (codes "minor9", 0 ∷ 3 ∷ 7 ∷ 10 ∷ 14 ∷ []) ∷
    (codes "sus2", 0 ∷ 2 ∷ 7 ∷ []) ∷
    (codes "sus4", 0 ∷ 5 ∷ 7 ∷ []) ∷
    []

-- the steps of the scale of this name; None where no scale has it
abbrev pub scale_steps : List ℕ → Option (List ℕ)
scale_steps name = list_of scales name

-- the intervals of the chord of this name; None where no chord has it
abbrev pub chord_intervals : List ℕ → Option (List ℕ)
chord_intervals name = list_of chords name
