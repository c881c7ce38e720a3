-- The form of a unit of a text.
use Rattle.std.specs.Prelude.{ℕ, ◌<◌, ◌≤◌, ⊤}
use Rattle.vt_lex.specs.declared.texts.TextUnit.{TextUnit}
use Rattle.vt_lex.specs.declared.texts.TextUnit.TheVariants.{Closing, Byte, Bad}

-- the form of a unit is within so many bytes
abbrev pub IsWithin : TextUnit → ℕ → Type 0
IsWithin (Byte value len) n = (0 < len) × (len ≤ 2) × (len ≤ n)
IsWithin Closing n = ⊤
IsWithin Bad n = ⊤
