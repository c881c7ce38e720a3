-- What the program reads of its input. Own.
use Rattle.std.specs.Prelude.{ℕ, ◌+◌, ◌≡◌, ◌≤◌, List, Option, Some, drop, take}

-- the most bytes that an input may have
abbrev pub limit : ℕ
limit = 1048576

-- what is read of an input: all of it, or one byte more than the limit
abbrev pub part_read : List ℕ → List ℕ
part_read input = take (limit + 1) input

-- what is left of it then
abbrev pub part_left : List ℕ → List ℕ
part_left input = drop (limit + 1) input

-- no more than that is gone
abbrev pub ReadsNoFurther : List ℕ → Option (List ℕ) → Type 0
ReadsNoFurther input left = (n : ℕ) × (n ≤ limit + 1) × (left ≡ Some (drop n input))
