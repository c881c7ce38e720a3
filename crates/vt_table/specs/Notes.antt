-- Notes by name, as MIDI numbers.
use Rattle.std.specs.Prelude.{ℕ, ◌+◌, ◌-◌, ◌*◌, ◌==◌, Option, Some, None, List, [], ◌∷◌, if◌then◌else◌, ℤ, pos, negsuc, ◌+ℤ◌}
use Rattle.std.specs.Char.{is_ascii_digit, to_ascii_lowercase}

-- the number beside a byte; None where no row has the byte
abbrev pub beside : List (ℕ × ℤ) → ℕ → Option ℤ
beside [] byte = None
beside (row ∷ rows) byte = if byte == row.0 then Some row.1 else beside rows byte

-- the letters c d e f g a b, with the half tones of each above c
abbrev pub letters : List (ℕ × ℤ)
letters = (99, pos 0) ∷ (100, pos 2) ∷ (101, pos 4) ∷ (102, pos 5) ∷ (103, pos 7) ∷ (97, pos 9) ∷ (98, pos 11) ∷ []

-- the signs: s is one half tone up, b one down
abbrev pub signs : List (ℕ × ℤ)
signs = (115, pos 1) ∷ (98, negsuc 0) ∷ []

-- the half tones of a letter above c, in either case
abbrev pub pitch_of : ℕ → Option ℤ
pitch_of letter = beside letters (to_ascii_lowercase letter)

-- the half tones by which a sign moves its letter, in either case; without a sign none
abbrev pub shift_of : Option ℕ → Option ℤ
shift_of None = Some (pos 0)
shift_of (Some sign) = beside signs (to_ascii_lowercase sign)

-- the octave of a digit; without a digit the fourth
abbrev pub octave_of : Option ℕ → Option ℕ
octave_of None = Some 4
octave_of (Some digit) = if is_ascii_digit digit then Some (digit - 48) else None

-- the MIDI number of a pitch in an octave: the c of octave 4 is 60
abbrev pub midi_number : Option ℤ → Option ℤ → Option ℕ → Option ℤ
midi_number (Some pitch) (Some shift) (Some octave) = Some (pos (12 * (octave + 1)) +ℤ pitch +ℤ shift)
midi_number _ _ _ = None

-- the number of the note that is spelled with this letter, sign and digit; None where one of them is none
abbrev pub spelled : ℕ → Option ℕ → Option ℕ → Option ℤ
spelled letter sign digit = midi_number (pitch_of letter) (shift_of sign) (octave_of digit)

-- The number of a note's name, which is a letter, then a sign or none, then a digit or none; None for every other name.
-- `b` is the letter, and `bb` the letter with its sign. (Sonic Pi's language reference, with the numbers of MIDI; the
-- selection is own.)
abbrev pub note_number : List ℕ → Option ℤ
note_number [] = None
note_number (letter ∷ []) = spelled letter None None
note_number (letter ∷ mark ∷ []) = if is_ascii_digit mark then spelled letter None (Some mark) else spelled letter (Some mark) None
note_number (letter ∷ sign ∷ digit ∷ []) = spelled letter (Some sign) (Some digit)
note_number (letter ∷ sign ∷ digit ∷ more ∷ rest) = None
