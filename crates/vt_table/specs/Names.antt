-- A list of names in order, and the row of a name in it.
use Rattle.std.specs.Prelude.{ℕ, Bool, true, ◌&&◌, Option, List, [], ◌∷◌, nat_eq}
use Rattle.std.specs.List.{position_from}
use Rattle.std.specs.Ordering.{nat_cmp, is_lt}
use Rattle.std.specs.Cmp.Lexicographic.{slice_cmp, pointwise}

-- this name comes before the first of the others, and each of those before the next, in the order of their bytes
abbrev pub rises_after : List ℕ → List (List ℕ) → Bool
rises_after before [] = true
rises_after before (name ∷ names) = is_lt (slice_cmp nat_cmp before name) && rises_after name names

-- the names rise strictly in the order of their bytes (own)
abbrev pub rises : List (List ℕ) → Bool
rises [] = true
rises (name ∷ names) = rises_after name names

-- the row that has the name, counted from 0; None where no row has it (own)
abbrev pub row_of : List (List ℕ) → List ℕ → Option ℕ
row_of names name = position_from (λ other. pointwise nat_eq other name) 0 names
