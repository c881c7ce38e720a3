-- Digits that spell a number within bounds.
use Rattle.std.proofs.Common.{◌≡◌, ℕ, ◌+◌, ◌-◌, ◌*◌, ◌^◌, ◌<◌, ◌≤◌, List, [], ◌∷◌, length, slice_index_or, arith}
use Rattle.std.specs.Char.{digit_value}
use Rattle.std.specs.Str.Parse.{AllDigits, digits_value_after}
use Rattle.std.proofs.lemmas.Bool.Decides.{nat_tests}

-- a digit is its byte less that of `0`
digit_is : (c : ℕ) → c < 256 → digit_value c < 10 → digit_value c ≡ c - 48
digit_is c h small = grind (arith, nat_tests)

grows : (n : ℕ) (ds : List ℕ) → n ≤ digits_value_after 10 n ds
grows n [] = omega arith
grows n (d ∷ ds) = omega (arith, grows (n * 10 + digit_value d) ds)

pub first_fits : (n : ℕ) (ds : List ℕ) → AllDigits 10 ds → 1 ≤ length ds → slice_index_or ds 0 0 < 256 → digits_value_after 10 n ds < 2 ^ 63
    → n * 10 + (slice_index_or ds 0 0 - 48) < 2 ^ 63
first_fits n [] all some byte fits = absurd (omega (arith, some))
first_fits n (d ∷ ds) all some byte fits = omega (arith, grows (n * 10 + digit_value d) ds, digit_is d byte all.0, fits)
