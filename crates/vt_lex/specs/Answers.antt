-- What the lexer answers.
use Rattle.std.specs.Prelude.{ℕ, ⊤, List}
use Rattle.vt_lex.specs.declared.fault.LexFault.{LexFault}
use Rattle.vt_lex.specs.declared.fault.LexFault.TheVariants.{At, NoMemory}
use Rattle.vt_lex.specs.Lexing.{LexRefuses}

-- the text is refused by this fault, unless there is no memory
abbrev pub Faults : List ℕ → ℕ → LexFault → Type 0
Faults text first_line (At line kind) = LexRefuses text first_line line kind
Faults text first_line NoMemory = ⊤
