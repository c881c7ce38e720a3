-- The bytes of paths: own, after those that Sonic Pi gives its paths.
use Rattle.std.specs.Prelude.{◌≡◌, ℕ, ◌≤◌, ◌⊎◌}

-- a letter, a digit (48 to 57), or one of `:` (58), `_` (95), `.` (46) and `-` (45)
unfoldable pub IsPathByte : ℕ → Type 0
IsPathByte b =
    ((48 ≤ b) × (b ≤ 58)) ⊎ ((65 ≤ b) × (b ≤ 90)) ⊎ ((97 ≤ b) × (b ≤ 122)) ⊎ (b ≡ 95) ⊎ (b ≡ 46) ⊎ (b ≡ 45)
