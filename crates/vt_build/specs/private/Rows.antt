-- The tables of spellings, as the grammar has them.
use Rattle.std.specs.Prelude.{List, [], ◌∷◌}
use Rattle.vt_build.specs.declared.terminals.Row.{Row}
use Rattle.vt_grammar.specs.Marks.{Spelling}

-- the spelling and the terminal of each row
abbrev pub rows_of : List Row → List Spelling
rows_of [] = []
rows_of (row ∷ rows) = (row.spelling.now, row.terminal) ∷ rows_of rows
