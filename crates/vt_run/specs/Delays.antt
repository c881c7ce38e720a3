-- How long a thread may wait before it begins: own.
use Rattle.std.specs.Prelude.{pos, Bool, int_le}
use Rattle.vt_frac.specs.Fraction.{Fraction}

-- seconds of at least 0
abbrev pub is_delay : Fraction → Bool
is_delay seconds = int_le (pos 0) seconds.numer
