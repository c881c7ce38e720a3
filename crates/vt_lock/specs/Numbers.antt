-- Lists of worker numbers. All of this is the project's own.
use Rattle.std.specs.Prelude.{◌≡◌, ℕ, zero, suc, ◌+◌, ◌-◌, ◌/◌, ◌<◌, List, [], ◌∷◌, length, take, drop}

-- 1 where the two are equal, else 0
abbrev pub one_if_equal : ℕ → ℕ → ℕ
one_if_equal m n = 1 - ((m - n) + (n - m))

-- 1 where the first is below the second, else 0
abbrev pub one_if_below : ℕ → ℕ → ℕ
one_if_below m n = 1 - (1 - (n - m))

-- how often a number stands in a list
abbrev pub occurrences : ℕ → List ℕ → ℕ
occurrences n [] = 0
occurrences n (m ∷ ms) = one_if_equal n m + occurrences n ms

-- n numbers, one after another, from a on
abbrev pub numbers_from : ℕ → ℕ → List ℕ
numbers_from a zero = []
numbers_from a (suc n) = a ∷ numbers_from (a + 1) n

-- the numbers of all workers, 0 to 63
abbrev pub all_numbers : List ℕ
all_numbers = numbers_from 0 64

-- each of the numbers 0 to 63 stands in the list
abbrev pub HasAllNumbers : List ℕ → Type 0
HasAllNumbers numbers = (n : ℕ) → n < 64 → 0 < occurrences n numbers

-- the length of a list's first half, rounded up
abbrev pub half_of : List ℕ → ℕ
half_of numbers = (length numbers + 1) / 2

-- The numbers from a on, cut as seats are cut: the first half, and the rest, are numbers one after another too.
abbrev pub HalvesAreNumbers : Type 0
HalvesAreNumbers = (a n : ℕ) → let half : ℕ = (n + 1) / 2 in
    (take (half_of (numbers_from a n)) (numbers_from a n) ≡ numbers_from a half) × (drop (half_of (numbers_from a n)) (numbers_from a n) ≡ numbers_from (a + half) (n - half))
