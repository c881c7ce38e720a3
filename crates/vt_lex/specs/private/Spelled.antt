-- The bytes of the tables of the program.
use Rattle.std.specs.Prelude.{ℕ, List, map}
use Rattle.std.specs.Borrow.{Bor}

-- the bytes of a list of texts
abbrev pub spelled : List (Bor (List ℕ)) → List (List ℕ)
spelled texts = map (λ (text : Bor (List ℕ)). text.now) texts
