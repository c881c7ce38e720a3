-- Marks at the places of a list: own.
use Rattle.std.specs.Prelude.{◌≡◌, ℕ, ◌+◌, ◌≤◌, ◌↔◌, List, ◌++◌, Bool, false, IsTrue, length, drop, slice_index_or}
use Rattle.std.specs.List.{Contains}
use Rattle.vt_path.specs.Match.{Holds}
use Rattle.vt_path.specs.declared.pattern.Part.{Part}
use Rattle.vt_path.specs.declared.pattern.Part.TheVariants.{Byte, AnyBytes, AnyByte, Set, Alternatives}

-- the mark at this place
abbrev pub mark : List Bool → ℕ → Bool
mark marks i = slice_index_or marks i false

-- the places of a list, its end too, are marked exactly where `Goes` holds of what stands from there on
abbrev pub IsMarked : {X : Type 0} → (List X → Type 0) → List X → List Bool → Type 0
IsMarked Goes xs marks = (i : ℕ) → i ≤ length xs → IsTrue (mark marks i) ↔ Goes (drop i xs)

-- a part that takes one byte takes this one
abbrev pub TakesByte : Part → ℕ → Type 0
TakesByte (Byte c) b = b ≡ c
TakesByte AnyBytes b = ⊥
TakesByte AnyByte b = Unit {0}
TakesByte (Set held) b = Holds held b
TakesByte (Alternatives names) b = ⊥

-- the parts that take one byte
abbrev pub TakesOne : Part → Type 0
TakesOne (Byte c) = Unit {0}
TakesOne AnyBytes = ⊥
TakesOne AnyByte = Unit {0}
TakesOne (Set held) = Unit {0}
TakesOne (Alternatives names) = ⊥

-- some name stands first in the bytes, and the place after it is marked
abbrev pub SomeName : List (List ℕ) → List ℕ → List Bool → ℕ → Type 0
SomeName names bytes marks i =
    (name : List ℕ) × (rest : List ℕ) × Contains names name × (drop i bytes ≡ name ++ rest) × IsTrue (mark marks (i + length name))
