-- The words and operators of the language, written out. The project's own.
use Rattle.std.specs.Prelude.{ℕ, List, [], ◌∷◌, Option, Some, None, nat_eq, length, cond, codes}
use Rattle.std.specs.List.{starts_with}

-- the operators, those of two bytes before those of one, so that the first with which bytes begin is the longest
unfoldable pub operators : List (List ℕ)
operators =
    codes "==" ∷ codes "!=" ∷ codes "<=" ∷ codes ">=" ∷ codes "+=" ∷ codes "-=" ∷ codes "*=" ∷ codes "&&" ∷ codes "||"
    ∷ codes "+" ∷ codes "-" ∷ codes "*" ∷ codes "/" ∷ codes "%" ∷ codes "<" ∷ codes ">" ∷ codes "="
    ∷ codes "!" ∷ codes "," ∷ codes "."
    ∷ codes "|" ∷ codes "(" ∷ codes ")" ∷ codes "[" ∷ codes "]" ∷ codes "{" ∷ codes "}" ∷ []

-- the tokens after which a line goes on: all binary and assigning operators (`|` is neither), then `!`, `,`, `.`, `and`,
-- `or` and `not`
unfoldable pub joining : List (List ℕ)
joining =
    codes "==" ∷ codes "!=" ∷ codes "<=" ∷ codes ">=" ∷ codes "+=" ∷ codes "-=" ∷ codes "*=" ∷ codes "&&" ∷ codes "||"
    ∷ codes "+" ∷ codes "-" ∷ codes "*" ∷ codes "/" ∷ codes "%" ∷ codes "<" ∷ codes ">" ∷ codes "="
    ∷ codes "!" ∷ codes "," ∷ codes "."
    ∷ codes "and" ∷ codes "or" ∷ codes "not" ∷ []

-- the length of the first of these forms with which the bytes begin
abbrev pub first_start : List (List ℕ) → List ℕ → Option ℕ
first_start [] bytes = None
first_start (form ∷ forms) bytes = cond (starts_with nat_eq bytes form) (Some (length form)) (first_start forms bytes)
