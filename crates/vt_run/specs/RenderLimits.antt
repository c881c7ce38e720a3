-- The options of a rendering and their limits: own.
use Rattle.std.specs.Prelude.{ℕ, pos, ◌*ℤ◌, Bool, ◌&&◌, nat_le, int_le}
use Rattle.vt_frac.specs.Fraction.{Fraction}

-- the options as contracts see them
pub record OptionsView : Type 0 where
  pub workers : ℕ
  pub until : Fraction
  pub budget : ℕ
  pub seed : ℕ

-- a horizon: from 0 to 3600 seconds
abbrev pub is_horizon : Fraction → Bool
is_horizon f = int_le (pos 0) f.numer && int_le f.numer (pos 3600 *ℤ pos f.denom)

-- 1 to 64 workers, a horizon, a budget from 1 to 2^24; any seed
abbrev pub are_within : OptionsView → Bool
are_within o = nat_le 1 o.workers && nat_le o.workers 64 && is_horizon o.until && nat_le 1 o.budget && nat_le o.budget 16777216
