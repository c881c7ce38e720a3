-- What the parser answers.
use Rattle.std.specs.Prelude.{List}
use Rattle.vt_parse.specs.declared.syntax.SyntaxFault.{SyntaxFault}
use Rattle.vt_parse.specs.declared.syntax.SyntaxFault.TheVariants.{At, NoMemory}
use Rattle.vt_grammar.specs.Marks.{Spelled}
use Rattle.vt_grammar.specs.Text.{SyntaxRefuses}

-- the tokens are refused on the line of the fault, unless there is no memory
abbrev pub Refused : List Spelled → SyntaxFault → Type 0
Refused tokens (At line) = SyntaxRefuses tokens line
Refused tokens NoMemory = Unit {0}
