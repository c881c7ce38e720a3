-- Tempos: a beat lasts 60 / bpm seconds, after FARM 2014 and the Sonic Pi tutorial, chapter 9; that they are exact fractions is own.
use Rattle.std.specs.Prelude.{pos, Bool, int_lt}
use Rattle.vt_frac.specs.Fraction.{Fraction, whole}

-- beats per minute are above 0
abbrev pub is_tempo : Fraction → Bool
is_tempo beats = int_lt (pos 0) beats.numer

-- the tempo at the start of a text
abbrev pub first_tempo : Fraction
first_tempo = whole (pos 60)
