-- The classes of bytes. The project's own, as is all of this folder.
use Rattle.std.specs.Prelude.{ℕ, Bool, ◌||◌, ◌==◌}

-- space, tab, carriage return
abbrev pub is_blank : ℕ → Bool
is_blank b = b == 32 || b == 9 || b == 13

-- a blank or a newline
abbrev pub is_space : ℕ → Bool
is_space b = is_blank b || b == 10
