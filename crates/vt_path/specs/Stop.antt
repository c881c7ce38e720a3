-- Where bytes stop being the beginning of a text: own.
use Rattle.std.specs.Prelude.{ℕ, ◌+◌, ◌<◌, ◌≤◌, List, ◌++◌, length, take}
use Rattle.vt_path.specs.declared.fault.PathFault.{PathFault}
use Rattle.vt_path.specs.declared.fault.PathFault.TheVariants.{BadPath, NoMemory}

-- some further bytes complete these to a text
abbrev pub Continues : (List ℕ → Type 0) → List ℕ → Type 0
Continues IsText bytes = (rest : List ℕ) × IsText (bytes ++ rest)

-- The bytes are no text, and `at` is the place of the first byte that no text continues with, or their length: the
-- bytes before it go on to a text, with it they do not.
pub record StopsAt (IsText : List ℕ → Type 0) (bytes : List ℕ) (at : ℕ) : Type 0 where
  pub no_text : IsText bytes → ⊥
  pub within : at ≤ length bytes
  pub before : Continues IsText (take at bytes)
  pub stops : at < length bytes → Continues IsText (take (at + 1) bytes) → ⊥

-- what a fault says of the bytes; want of memory has no cause
abbrev pub IsCause : (List ℕ → Type 0) → List ℕ → PathFault → Type 0
IsCause IsText bytes (BadPath at) = StopsAt IsText bytes at
IsCause IsText bytes NoMemory = Unit {0}
