-- What `knit` makes of arguments whose counts are good, pair by pair. The project's own.
use Rattle.std.specs.Prelude.{ℕ, ℤ, pos, negsuc, List, [], ◌∷◌, ◌++◌, replicate, Option, Some, None}
use Rattle.vt_value.specs.declared.value.Value.{Value}
use Rattle.vt_value.specs.Kinds.{whole_of}

-- a whole number of at least 0, and 0 for every other value
abbrev pub count_or_zero : Option ℤ → ℕ
count_or_zero None = 0
count_or_zero (Some (pos n)) = n
count_or_zero (Some (negsuc n)) = 0

-- each value as many times as the count behind it says
abbrev pub knitted : List Value → List Value
knitted [] = []
knitted (value ∷ []) = []
knitted (value ∷ count ∷ rest) = replicate (count_or_zero (whole_of count)) value ++ knitted rest
